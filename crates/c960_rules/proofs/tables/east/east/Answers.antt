use Rattle.c960_rules.specs.declared.tables.east.TheConstants.{EAST}
use Rattle.c960_rules.specs.Inner.Rays.{is_east}
use Rattle.c960_rules.specs.Inner.Wheres.{where_set}
use Rattle.c960_rules.proofs.LeapTables.{row_of}
use Rattle.c960_rules.proofs.RayTables.{east_table}
use Rattle.c960_rules.proofs.tables.east.east.Goals as goal

pub returns : goal.returns
returns c =
    let n = c.number.ensures in
    row_of (λ s. where_set (is_east s)) EAST east_table n.bound n.value
