-- A whole run over a live game: what the line engine did, in terms of the game.
use Rattle.std.proofs.Common.{◌≡◌, ℕ, ◌<◌, List, ◌++◌, sym, ap, ◌∙◌, inl, refl, Result, Ok, Err, IfOk, IfErr}
use Rattle.c960_game.specs.declared.limits.TheConstants.{MOST_PLIES}
use Rattle.c960_game.specs.Record.{opened}
use Rattle.c960_game.specs.GameRecord.{GameRecord}
use Rattle.relay960_engines.specs.declared.bounds.Bounds.{Bounds}
use Rattle.relay960_engines.specs.declared.fault.RunFault.{RunFault}
use Rattle.relay960_engines.specs.declared.fault.RunFault.TheVariants.{Read, Write, TooLong, OutOfMemory, BadStart}
use Rattle.relay960_engines.specs.Lines.{Giving, Answers, Before, Between}
use Rattle.relay960_engines.specs.Play.{line_answers, Plays, PlaysBefore, Played, PlayStopped}
use Rattle.relay960_engines.specs.Runs.{Known, Done, RunStopped}
use Rattle.relay960_engines.proofs.PlayFacts.{IsGiven, given_answers, answers_before}
use Rattle.relay960_engines.proofs.StopFacts.{Extends, done_said, reading_said, writing_within, past_said, memory_said, not_begun}
use Rattle.c960_board.specs.declared.numbering.TheConstants.{STARTS}

-- the answers to lines are the beginning of those to more lines
play_extends : (n : ℕ) → Extends (Plays n)
play_extends n ls ms text given =
    let (rest, same) = answers_before (opened n MOST_PLIES) ls ms in (rest, ap (λ t. t ++ rest) given ∙ sym same)

-- ---- The end of a run over the game of start n.

module _ {S : Type 0} (gives : Giving S) (game : S → GameRecord) (law : IsGiven gives game) (s t : S) (n : ℕ) (bounds : Bounds)
    (numbered : n < STARTS) (begun : game s ≡ opened n MOST_PLIES) (old_input new_input a b : Known) where
  plays : (m : S) (ls : List (List ℕ)) (text : List ℕ) → Answers gives s ls text m → Plays n ls text
  plays m ls text given = given_answers gives game law s m ls text given ∙ ap (λ g. line_answers g ls) begun

  pub played : (ran : Result ℕ RunFault)
      → IfOk ran (λ count. Done (Between gives s t) bounds old_input new_input a b count)
      → IfOk ran (λ count. Played n bounds old_input new_input a b count)
  played (Err fault) done = tt
  played (Ok count) done = (numbered, done_said _ (Plays n) (plays t) bounds old_input new_input a b count done)

  pub play_stopped : (ran : Result ℕ RunFault)
      → IfErr ran (λ fault. RunStopped (Between gives s t) (Before gives s t) bounds old_input new_input a b fault)
      → IfErr ran (λ fault. PlayStopped n bounds old_input new_input a b fault)
  play_stopped (Ok count) stopped = tt
  play_stopped (Err Read) stopped = (numbered, reading_said _ (Plays n) (plays t) bounds old_input new_input a b stopped)
  play_stopped (Err Write) stopped =
      inl (numbered, writing_within _ (Plays n) (plays t) bounds old_input new_input a b (play_extends n) stopped)
  play_stopped (Err TooLong) stopped = (numbered, past_said _ (Plays n) (plays t) bounds old_input new_input a b stopped)
  play_stopped (Err OutOfMemory) stopped = (
    numbered,
    memory_said _ (Plays n) (plays t) bounds old_input new_input a b _ (PlaysBefore n)
        (λ ls text l given. plays given.0 ls text given.1) stopped,
  )
  play_stopped (Err BadStart) stopped = absurd stopped

-- there was no memory for the game: nothing was read
pub starved_before : (n : ℕ) (bounds : Bounds) (input output : Known) → n < STARTS
    → PlayStopped n bounds input input output output OutOfMemory
unfolding line_answers
starved_before n bounds input output numbered = (numbered, not_begun (Plays n) (PlaysBefore n) bounds input output refl)
