use Rattle.std.proofs.Common.{ℕ, Some, refl, ap, arith, rules}
use Rattle.c960_board.proofs.NumberFacts.{none_is_lawful, numbered_is_lawful, same_number}
use Rattle.c960_board.proofs.numbering.number_of.Goals as goal

pub returns-then-is_rank-clause-none : goal.returns-then-is_rank-clause-none
returns-then-is_rank-clause-none c =
    let lawful = numbered_is_lawful c.args.rank c.loop-number.number (omega arith) (search rules) in
    (λ e. absurd cc, λ unlawful. absurd (unlawful lawful))

pub returns-then-is_rank-clause-only : goal.returns-then-is_rank-clause-only
returns-then-is_rank-clause-only c = λ n l e.
    ap (λ (x : ℕ). Some x) (same_number c.loop-number.number n (omega arith) l (search rules))

pub returns-clause-none : goal.returns-clause-none
returns-clause-none c = (λ e. none_is_lawful c.args.rank (λ n l. c.loop-number.invariant n (omega arith)), λ _. refl)
