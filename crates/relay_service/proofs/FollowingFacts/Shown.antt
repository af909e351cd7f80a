-- The headline follows from what is kept true of a connection alone and of its board in the hall.
use Rattle.std.proofs.Common.{◌≡◌, ◌+◌, ◌≤◌, ℕ, List, [], ◌++◌, length, take, drop, length-append, length-drop, Option, None, Some, IfSome, refl, sym, ap, ◌∙◌, arith}
use Rattle.std.specs.Prelude.{unwrap_or}
use Rattle.std.proofs.Math.Seq.{take-append_seam}
use Rattle.std.proofs.lemmas.List.{drop-append-le, length-take-le, take-append-drop, take-append-le}
use Rattle.c960_board.specs.Moves.{Triple}
use Rattle.c960_game.specs.Positions.{last_position}
use Rattle.relay_core.proofs.lemmas.Stretches.{joined_stretches}
use Rattle.relay_core.specs.Following.{stretch}
use Rattle.relay_core.specs.Stretch.{placed}
use Rattle.relay_core.specs.declared.reply.Reply.TheVariants.{Following}
use Rattle.relay_frames.specs.Frames.{text_frame}
use Rattle.relay_messages.specs.Answers.{answer_text}
use Rattle.relay_messages.specs.declared.answer.Answer.TheVariants.{Reply}
use Rattle.live_board.specs.Views.{next_of}
use Rattle.relay_hall.specs.Record.{FloorRecord}
use Rattle.relay_service.specs.declared.following.stage.Stage.{Stage}
use Rattle.relay_service.specs.declared.following.stage.Stage.TheVariants.{Follows, Over, Cut, Left, Failed}
use Rattle.relay_service.specs.Following.Boards.{IsIn}
use Rattle.relay_service.specs.Following.Record.{DeliveryRecord}
use Rattle.relay_service.specs.Following.Served.{IsLost, IsServed}
use Rattle.relay_service.specs.Following.Shown.{IsPut, IsShown}

-- the first moves of a stretch are a shorter stretch
first_of_stretch : (j n m : ℕ) (l xs rest : List Triple) → xs ++ rest ≡ stretch j m l → j + length xs ≡ n → n ≤ m → m ≤ length l → xs ≡ stretch j n l
first_of_stretch j n m l xs rest is long low short =
    let all : List Triple = take m l in
    let wide : length all ≡ m = length-take-le m l short in
    let same : take n l ≡ take n all = ap (take n) (sym (take-append-drop m l)) ∙ take-append-le n all (drop m l) (omega arith) in
    let near : length (take n all) ≡ n = length-take-le n all (omega arith) in
    let apart : drop j all ≡ drop j (take n all) ++ drop n all = ap (drop j) (sym (take-append-drop n all)) ∙ drop-append-le j (take n all) (drop n all) (omega arith) in
    let count : length (drop j (take n all)) ≡ length xs = let d = length-drop j (take n all) in omega (arith, d, near, long) in
    sym (take-append_seam xs rest) ∙ ap (take (length xs)) (is ∙ apart) ∙ ap (λ (k : ℕ). take k (drop j (take n all) ++ drop n all)) (sym count)
    ∙ take-append_seam (drop j (take n all)) (drop n all) ∙ ap (drop j) (sym same)

module _ (f : FloorRecord) (c : DeliveryRecord) (s : IsServed c) (is : IsIn f c) where
  abbrev log : List Triple
  log = is.board.game.log

  abbrev joined : ℕ
  joined = c.follower.part.joined

  abbrev next : ℕ
  next = next_of c.follower.part

  count : length c.follower.part.taken ≡ length s.moves + length s.lost
  count = ap length s.taken ∙ length-append s.moves s.lost

  moves : s.moves ≡ stretch joined (joined + length s.moves) log
  moves = first_of_stretch joined (joined + length s.moves) next log s.moves s.lost (sym s.taken ∙ is.is_of.moves) refl (let n = count in omega (arith, n)) is.is_of.within

  queue : (o : Option ℕ) → IfSome o (λ n. (next ≤ n) × (n ≤ length log))
      → c.follower.part.taken ++ stretch next (unwrap_or o (length log)) log ≡ stretch joined (unwrap_or o (length log)) log
  queue None x = ap (λ l. l ++ stretch next (length log) log) is.is_of.moves ∙ joined_stretches joined next (length log) log (omega arith) is.is_of.within (omega arith)
  queue (Some n) (low, high) = ap (λ l. l ++ stretch next n log) is.is_of.moves ∙ joined_stretches joined next n log (omega arith) low high

  none : s.lost ≡ [] → joined + length s.moves ≡ next
  none without = let n = count in let z : length s.lost ≡ 0 = ap length without in omega (arith, n, z)

  all_put : (stage : Stage) → IsLost stage s.lost → IsPut stage (joined + length s.moves) next
  all_put Follows without = none without
  all_put (Over o) without = none without
  all_put Cut without = none without
  all_put Left without = none without
  all_put Failed few = let n = count in omega (arith, n, few)

  pub shown : IsShown f c
  shown = record {
    board = is.board;
    found = is.found;
    bytes = s.bytes;
    told = record {
      earlier = s.told.earlier;
      told = s.told.told ∙ (λ i. s.told.earlier ++ text_frame (answer_text (Reply (Following joined (last_position (is.is_of.start i) (is.is_of.before i))))));
    };
    place = joined + length s.moves;
    reached = (omega arith, let n = count in let w = is.is_of.within in omega (arith, n, w));
    moves = s.moves_are ∙ ap (placed joined) moves;
    before = s.before;
    last = s.last;
    pieces = s.pieces_are;
    go_on = s.go_on;
    ended_with = s.ended;
    ended = is.is_of.ended;
    queue = queue c.follower.part.closing is.is_of.closing;
    all_put = all_put c.stage s.few;
  }
