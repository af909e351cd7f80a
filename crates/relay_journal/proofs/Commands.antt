-- What the texts of kept commands say.
use Rattle.std.proofs.Common.{refl, ◌≡◌, ℕ, ◌≤◌, List, length, true, false, nat_lt, Some, Ok, arith}
use Rattle.std.specs.Str.{IsUtf8, is_utf8}
use Rattle.std.proofs.lemmas.Str.{is_utf8-from_IsUtf8}
use Rattle.serde_json.specs.Data.{Data, depth}
use Rattle.serde_json.specs.Read.{max_depth, read}
use Rattle.c960_board.specs.Moves.{Triple}
use Rattle.c960_board.specs.MoveReading.{move_read}
use Rattle.c960_board.specs.MoveTexts.{move_text}
use Rattle.c960_board.specs.declared.piece.Colour.TheVariants.{White, Black}
use Rattle.c960_game.specs.declared.ending.Ending.{Ending}
use Rattle.c960_game.specs.declared.ending.Ending.TheVariants.{Resigns, Agreed, Abandoned, ClaimThreefold, ClaimFifty, LosesOnTime, Decided}
use Rattle.c960_game.specs.declared.result.Result.TheVariants.{WhiteWins, BlackWins, Draw}
use Rattle.relay_core.specs.declared.step.Step.{Step}
use Rattle.relay_core.specs.declared.step.Step.TheVariants.{Open, Submit, End}
use Rattle.relay_core.specs.Name.{IsName, is_name}
use Rattle.relay_messages.specs.declared.reading.TheConstants.{MOST_BYTES}
use Rattle.relay_messages.specs.Commands.{command_in, command_named}
use Rattle.relay_messages.specs.Decoding.{decoded, text_says}
use Rattle.relay_journal.specs.Texts.{end_data, open_data, submit_data}

-- a text that is read as a value says what that says
pub says : (text : List ℕ) (d : Data) (step : Step) → read text ≡ Some d → IsUtf8 text → length text ≤ MOST_BYTES → command_in d ≡ Ok step → decoded text ≡ Ok step
unfolding decoded text_says
says text d step is is_text short says-step =
    let fits : nat_lt MOST_BYTES (length text) ≡ false = grind arith in
    let utf8 : is_utf8 text ≡ true = is_utf8-from_IsUtf8 text is_text in
    rw (fits, utf8, is) says-step

pub open_says : (name : List ℕ) (start : ℕ) → is_name name ≡ true → nat_lt start 65536 ≡ true → command_in (open_data name start) ≡ Ok (Open name start)
unfolding command_in command_named
open_says name start named below = rw (named, below) refl

pub submit_says : (name : List ℕ) (m : Triple) → is_name name ≡ true → move_read (move_text m) ≡ Ok m → command_in (submit_data name m) ≡ Ok (Submit name m)
unfolding command_in command_named
submit_says name m named reads = rw (named, reads) refl

pub end_says : (name : List ℕ) (ending : Ending) → is_name name ≡ true → command_in (end_data name ending) ≡ Ok (End name ending)
unfolding command_in command_named
end_says name (Resigns White) named = rw named refl
end_says name (Resigns Black) named = rw named refl
end_says name (ClaimThreefold White) named = rw named refl
end_says name (ClaimThreefold Black) named = rw named refl
end_says name (ClaimFifty White) named = rw named refl
end_says name (ClaimFifty Black) named = rw named refl
end_says name (LosesOnTime White) named = rw named refl
end_says name (LosesOnTime Black) named = rw named refl
end_says name (Decided WhiteWins) named = rw named refl
end_says name (Decided BlackWins) named = rw named refl
end_says name (Decided Draw) named = rw named refl
end_says name Agreed named = rw named refl
end_says name Abandoned named = rw named refl

pub named : (name : List ℕ) → IsName name → is_name name ≡ true
named name is = is

pub end_shallow : (name : List ℕ) (ending : Ending) → depth (end_data name ending) ≤ max_depth
end_shallow name (Resigns side) = omega arith
end_shallow name (ClaimThreefold side) = omega arith
end_shallow name (ClaimFifty side) = omega arith
end_shallow name (LosesOnTime side) = omega arith
end_shallow name (Decided result) = omega arith
end_shallow name Agreed = omega arith
end_shallow name Abandoned = omega arith
