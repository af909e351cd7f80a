-- What a take answers where no move waits, of a follower with a queue.
use Rattle.std.proofs.Common.{◌≡◌, ℕ, ◌+◌, nat_lt, Bool, true, false, cond, eqb, eqb-true, eq-eqb, ltb-false, List, [], ◌∷◌, length, Option, Some, None, refl, sym, ap, ◌∙◌, arith}
use Rattle.c960_board.specs.Moves.{Triple}
use Rattle.c960_game.specs.declared.outcome.Outcome.{Outcome}
use Rattle.relay_core.specs.declared.reply.Taken.{Taken}
use Rattle.relay_core.specs.declared.reply.Taken.TheVariants.{Cut}
use Rattle.relay_core.specs.Replies.{taken_of}
use Rattle.relay_core.specs.Takes.{is_at, without_move}

-- the rule of a take, by its tests
told_by : (at less : Bool) (cut : Option ℕ) (next long : ℕ) (known over : Option Outcome) (queue : List Triple) (answer : Taken)
    → is_at cut next ≡ at → nat_lt next long ≡ less → long ≡ next + length queue → ((c : ℕ) → cut ≡ Some c → c ≡ next + length queue)
    → (queue ≡ [] → known ≡ over) → cond at (Some Cut) (cond less None (Some (taken_of next known None []))) ≡ Some answer
    → answer ≡ taken_of next over cut queue
told_by true less None next long known over queue answer at l end closed same e = cc
told_by true less (Some c) next long known over [] answer at l end closed same e = cc
told_by true less (Some c) next long known over (m ∷ rest) answer at l end closed same e =
    absurd (omega (arith, eqb-true c next at, closed c refl))
told_by false true cut next long known over queue answer at l end closed same e = cc
told_by false false None next long known over [] answer at l end closed same e =
    let is : answer ≡ taken_of next known None [] = cc in is ∙ ap (λ o. taken_of next o None []) (same refl)
told_by false false (Some c) next long known over [] answer at l end closed same e =
    let there : eqb c next ≡ true = eq-eqb c next (omega (arith, closed c refl)) in
    let never : true ≡ false = sym there ∙ at in cc
told_by false false cut next long known over (m ∷ rest) answer at l end closed same e = absurd (omega (arith, ltb-false next long l, end))

-- Where a closed follower was closed at the end of its queue, and the outcome is known once nothing waits, an answer without a move is
-- what is asked for.
pub told : (cut : Option ℕ) (next long : ℕ) (known over : Option Outcome) (queue : List Triple) (answer : Taken)
    → without_move cut next long known ≡ Some answer → long ≡ next + length queue → ((c : ℕ) → cut ≡ Some c → c ≡ next + length queue)
    → (queue ≡ [] → known ≡ over) → answer ≡ taken_of next over cut queue
told cut next long known over queue answer e end closed same =
    told_by (is_at cut next) (nat_lt next long) cut next long known over queue answer refl refl end closed same e
