-- How jobs end.
use Rattle.std.proofs.Common.{◌≡◌, ◌⊎◌, ℕ, List, Bool, cond, inl, inr, ap, subst, ◌∙◌}
use Rattle.std.proofs.Common.{Result, Ok, Err, IfOk, IfErr, OnOk, OnErr, MatchResult}
use Rattle.c960_game.specs.Limits.{LimitNumbers}
use Rattle.relay960_engines.specs.declared.fault.RunFault.{RunFault}
use Rattle.relay960_engines.specs.declared.fault.RunFault.TheVariants.{Write}
use Rattle.relay960_engines.specs.Limits.{ScriptNumbers, greatest_bounds}
use Rattle.relay960_engines.specs.Moves.{Answered, Failed}
use Rattle.relay960_engines.specs.Play.{Played, PlayStopped}
use Rattle.relay960_engines.specs.Script.{Ran, ScriptStopped}
use Rattle.relay960_engines.specs.Runs.{Known}
use Rattle.relay960_words.specs.declared.status.Status.{Status}
use Rattle.relay960_words.specs.declared.status.Status.TheVariants as status
use Rattle.relay960.specs.Statuses.{MovesEnds, PlayEnds, ScriptEnds, fault_status}

pub moves_end : (fen : List ℕ) (ran : Result Bool RunFault) (s : Status) (a b : Known)
    → IfOk ran (λ good. Answered fen good a b) → IfErr ran (λ fault. Failed fen fault a b)
    → MatchResult ran (λ good. s ≡ cond good status.Done status.Refused) (λ fault. s ≡ fault_status fault) → MovesEnds fen a b s
moves_end fen (Ok good) s a b whole part e = inl (good, e, whole)
moves_end fen (Err fault) s a b whole part e = inr (fault, e, part)

-- with the numbers that were wanted, which are those of the run
lines_end : (done : ScriptNumbers → ℕ → Type 0) (stopped : ScriptNumbers → RunFault → Type 0) (numbers wanted : ScriptNumbers)
    (ran : Result ℕ RunFault) (s : Status) → numbers ≡ wanted → IfOk ran (done numbers) → IfErr ran (stopped numbers)
    → MatchResult ran (λ count. s ≡ status.Done) (λ fault. s ≡ fault_status fault)
    → ((count : ℕ) × (s ≡ status.Done) × done wanted count) ⊎ ((fault : RunFault) × (s ≡ fault_status fault) × stopped wanted fault)
lines_end done stopped numbers wanted (Ok count) s same whole part e = inl (count, e, subst (λ it. done it count) same whole)
lines_end done stopped numbers wanted (Err fault) s same whole part e = inr (fault, e, subst (λ it. stopped it fault) same part)

pub play_ends : (n : ℕ) (numbers : ScriptNumbers) (limits : LimitNumbers) (ran : Result ℕ RunFault) (s : Status) (a b c d : Known)
    → numbers ≡ record { limits = limits; bounds = greatest_bounds }
    → IfOk ran (λ count. Played n numbers.bounds a b c d count) → IfErr ran (λ fault. PlayStopped n numbers.bounds a b c d fault)
    → MatchResult ran (λ count. s ≡ status.Done) (λ fault. s ≡ fault_status fault) → PlayEnds n a b c d s
play_ends n numbers limits ran s a b c d same whole part e =
    lines_end (λ it count. Played n it.bounds a b c d count) (λ it fault. PlayStopped n it.bounds a b c d fault)
    numbers (record { limits = limits; bounds = greatest_bounds }) ran s same whole part e

pub script_ends : (numbers : ScriptNumbers) (limits : LimitNumbers) (ran : Result ℕ RunFault) (s : Status) (a b c d : Known)
    → numbers ≡ record { limits = limits; bounds = greatest_bounds }
    → IfOk ran (λ count. Ran numbers.limits numbers.bounds a b c d count)
    → IfErr ran (λ fault. ScriptStopped numbers.limits numbers.bounds a b c d fault)
    → MatchResult ran (λ count. s ≡ status.Done) (λ fault. s ≡ fault_status fault) → ScriptEnds limits a b c d s
script_ends numbers limits ran s a b c d same whole part e =
    lines_end (λ it count. Ran it.limits it.bounds a b c d count) (λ it fault. ScriptStopped it.limits it.bounds a b c d fault)
    numbers (record { limits = limits; bounds = greatest_bounds }) ran s same whole part e

-- of a run whose only fault is that of the writer
pub line_ends : {A : Type 0} (whole part : Type 0) (ran : Result A RunFault) (s : Status) → OnOk ran whole → OnErr ran part
    → IfErr ran (λ fault. fault ≡ Write) → MatchResult ran (λ _. s ≡ status.Done) (λ fault. s ≡ fault_status fault)
    → ((s ≡ status.Done) × whole) ⊎ ((s ≡ status.DeviceFailed) × part)
line_ends whole part (Ok a) s written cut only e = inl (e, written)
line_ends whole part (Err fault) s written cut only e = inr (e ∙ ap fault_status only, cut)
