use Rattle.c960_rules.specs.declared.tables.north_east.TheConstants.{NORTH_EAST}
use Rattle.c960_rules.specs.Inner.Rays.{is_north_east}
use Rattle.c960_rules.specs.Inner.Wheres.{where_set}
use Rattle.c960_rules.proofs.LeapTables.{row_of}
use Rattle.c960_rules.proofs.RayTables.{north_east_table}
use Rattle.c960_rules.proofs.tables.north_east.north_east.Goals as goal

pub returns : goal.returns
returns c =
    let n = c.number.ensures in
    row_of (λ s. where_set (is_north_east s)) NORTH_EAST north_east_table n.bound n.value
