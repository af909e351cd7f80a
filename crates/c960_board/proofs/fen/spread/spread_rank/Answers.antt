use Rattle.std.proofs.Common.{◌+◌, ◌*◌}
use Rattle.std.specs.Int.{bit_at}
use Rattle.std.proofs.lemmas.Nat.Bits.{bit_at-lt}
use Rattle.c960_board.proofs.Written.Spread.{spread_entry, ones_bound}
use Rattle.c960_board.proofs.fen.spread.spread_rank.Goals as goal

pub returns-clause-bits : goal.returns-clause-bits
returns-clause-bits c = spread_entry c.args.set c.args.rank

pub returns-clause-bound : goal.returns-clause-bound
returns-clause-bound c =
    let set = c.args.set in
    let rank = c.args.rank in
    rw (spread_entry set rank) (ones_bound (λ file. bit_at set (8 * rank + file)) (λ file. bit_at-lt set (8 * rank + file)))
