use Rattle.std.proofs.Common.{refl, ◌∙◌}
use Rattle.c960_rules.specs.declared.tables.between.TheConstants.{BETWEEN}
use Rattle.c960_rules.proofs.BetweenTable.{between_table, place_of, set_between, set_between_is}
use Rattle.c960_rules.proofs.tables.between.squares_between.Goals as goal

pub returns : goal.returns
returns c =
    let row = place_of set_between BETWEEN c.number.result c.number-2.result _ between_table refl
    c.number.ensures.bound c.number-2.ensures.bound in
    let from = c.number.ensures.value in
    let to = c.number-2.ensures.value in
    rw (← from, ← to) (row ∙ set_between_is c.number.result c.number-2.result)
