use Rattle.std.proofs.Common.{rules}
use Rattle.c960_board.proofs.lemmas.LowestFacts.{lowest_of}
use Rattle.c960_rules.proofs.PinFacts.{sole_self, sole_none}
use Rattle.c960_rules.proofs.pins.sole.Goals as goal

pub returns-then-rest-eq0 : goal.returns-then-rest-eq0
returns-then-rest-eq0 c =
    let lowest = lowest_of c.args.set c.requires (search rules) in
    sole_self c.args.set _ _ (c.without_lowest-rest.ensures.taken_out _ lowest)

pub returns-else-rest-eq0 : goal.returns-else-rest-eq0
returns-else-rest-eq0 c =
    let lowest = lowest_of c.args.set c.requires (search rules) in
    sole_none c.args.set _ _ (c.without_lowest-rest.ensures.taken_out _ lowest) (search rules) c.if-rest-eq0.false
