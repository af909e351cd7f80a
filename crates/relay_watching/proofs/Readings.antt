-- What is promised is read as the messages that are promised.
use Rattle.std.proofs.Common.{ℕ, ◌<◌, ◌^◌, List, [], ◌∷◌, ◌++◌, map, length, Option, Some, None, refl, append_assoc, lit<}
use Rattle.std.specs.Int.{w16, to_be_bytes}
use Rattle.std.specs.List.{concat}
use Rattle.std.proofs.lemmas.List.{drop_at}
use Rattle.std.proofs.lemmas.List.Folds.{concat-append}
use Rattle.websocket.specs.declared.protocol.frame.coding.OpCode.TheVariants.{Control}
use Rattle.websocket.specs.declared.protocol.frame.coding.Control.TheVariants.{Close}
use Rattle.websocket.specs.Connection.{whole_header}
use Rattle.websocket.specs.Frame.{encode_frame}
use Rattle.websocket.specs.FrameHeader.{IsHeader}
use Rattle.websocket.proofs.FrameLemmas.{written_frame, length-encode_frame, decode_frame-encode_frame, payload_of_written}
use Rattle.c960_game.specs.declared.outcome.Outcome.{Outcome}
use Rattle.relay_watching.specs.Course.{Course}
use Rattle.relay_frames.specs.Frames.{text_frame, close_frame}
use Rattle.relay_watching.specs.Promised.{Joining, promised_texts, close_frames, promised_frames, promised}
use Rattle.relay_watching.specs.Read.{Message, BeginsWith, AreRead, AreShort, text_message, close_messages, promised_messages}

begins_with : (m : Message) (rest : List ℕ) → length m.1 < 2 ^ 63 → BeginsWith (encode_frame (whole_header m.0 None) m.1 ++ rest) m rest
begins_with m rest short =
    let h = whole_header m.0 None in
    let valid : IsHeader h (length m.1) = record { mask = tt; top_bit_clear = short } in
    record {
      frame = written_frame h m.1;
      found = decode_frame-encode_frame None h m.1 rest valid;
      header = refl;
      payload = payload_of_written h m.1 rest valid;
      behind = drop_at (encode_frame h m.1) rest (written_frame h m.1).payload.end (length-encode_frame h m.1 valid);
    }

text_begins : (text rest : List ℕ) → length text < 2 ^ 63 → BeginsWith (text_frame text ++ rest) (text_message text) rest
unfolding text_frame
text_begins text rest short = begins_with (text_message text) rest short

close_read : (o : Option Outcome) → AreRead (concat (close_frames o)) (close_messages o)
unfolding close_frame
close_read None = refl
close_read (Some outcome) = ([], begins_with (Control Close, to_be_bytes w16 1000) [] (lit< tt), refl)

texts_read : (texts : List (List ℕ)) (o : Option Outcome) → AreShort texts
    → AreRead (concat (map text_frame texts) ++ concat (close_frames o)) (map text_message texts ++ close_messages o)
texts_read [] o short = close_read o
texts_read (text ∷ texts) o short =
    let rest = concat (map text_frame texts) ++ concat (close_frames o) in
    (rest, rw (append_assoc (text_frame text) (concat (map text_frame texts)) (concat (close_frames o))) (text_begins text rest short.0), texts_read texts o short.1)

pub promised_is_read : (c : Course) (j : Joining) → AreShort (promised_texts c j) → AreRead (promised c j) (promised_messages c j)
unfolding promised_frames
promised_is_read c j short =
    rw (concat-append (map text_frame (promised_texts c j)) (close_frames c.outcome)) (texts_read (promised_texts c j) c.outcome short)
