-- How many connections were met, by what was requested.
use Rattle.std.proofs.Common.{◌≡◌, ◌+◌, ◌≤◌, ℕ, Bool, Option, Result, Ok, Err, IfOk, IsErr, MatchResult, true, false, true≢false, refl, subst, sym, IfSome}
use Rattle.std.specs.declared.io.Error.{Error}
use Rattle.relay960.specs.declared.serving.fault.ServeFault.{ServeFault}
use Rattle.relay960_words.specs.declared.order.Connections.{Connections}
use Rattle.relay960_words.specs.declared.order.Connections.TheVariants.{Count, Forever}
use Rattle.main_port.specs.declared.serve_end.ServeEnd.{ServeEnd}
use Rattle.relay960.specs.Serving.{MeetsWith, most_of}

-- no more than may come, and all of them unless serving might end before
pub met_with : (connections : Connections) (may_end : Bool) (end : ServeEnd) (most : Option ℕ) → most ≡ most_of connections
    → IfSome most (λ n. end.served + end.failed ≤ n) → (may_end ≡ false → IfSome most (λ n. end.served + end.failed ≡ n)) → MeetsWith connections may_end end
met_with (Count n) false end most is few all = subst (λ (o : Option ℕ). IfSome o (λ m. end.served + end.failed ≡ m)) is (all refl)
met_with (Count n) true end most is few all = subst (λ (o : Option ℕ). IfSome o (λ m. end.served + end.failed ≤ m)) is few
met_with Forever may_end end most is few all = tt

-- the same of an end that is handed on, unless the journal failed
pub met_or_failed : (connections : Connections) (may_end : Bool) (most : Option ℕ) (ended : Result ServeEnd Error) (handed : Result ServeEnd ServeFault)
    → most ≡ most_of connections → MatchResult ended (λ end. handed ≡ Ok end) (λ _. IsErr handed)
    → IfOk ended (λ end. IfSome most (λ n. end.served + end.failed ≤ n))
    → (may_end ≡ false → IfOk ended (λ end. IfSome most (λ n. end.served + end.failed ≡ n))) → IfOk handed (MeetsWith connections may_end)
met_or_failed connections may_end most (Ok end) handed is same few all =
    subst (λ (it : Result ServeEnd ServeFault). IfOk it (MeetsWith connections may_end)) (sym same) (met_with connections may_end end most is few all)
met_or_failed connections may_end most (Err error) (Ok end) is failed few all = absurd (true≢false (sym failed))
met_or_failed connections may_end most (Err error) (Err fault) is failed few all = tt
