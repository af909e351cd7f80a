use Rattle.std.proofs.Common.{◌-◌, arith, rules}
use Rattle.std.proofs.lemmas.Nat.{and_le_r}
use Rattle.c960_board.proofs.lemmas.LowestFacts.{below_width, lowest_gone, others_stay}
use Rattle.c960_rules.proofs.bitset.without_lowest.Goals as goal

pub returns-clause-smaller : goal.returns-clause-smaller
returns-clause-smaller c = omega (arith, c.requires, and_le_r c.args.set (c.args.set - 1))

pub returns-clause-taken_out : goal.returns-clause-taken_out
returns-clause-taken_out c =
    let set = c.args.set in
    λ square l. record {
      on_board = below_width set 64 square (search rules) l.inside;
      was = l.inside;
      gone = lowest_gone set square l;
      others = λ i _. others_stay set square i l;
    }
