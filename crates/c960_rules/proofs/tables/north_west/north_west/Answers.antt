use Rattle.c960_rules.specs.declared.tables.north_west.TheConstants.{NORTH_WEST}
use Rattle.c960_rules.specs.Inner.Rays.{is_north_west}
use Rattle.c960_rules.specs.Inner.Wheres.{where_set}
use Rattle.c960_rules.proofs.LeapTables.{row_of}
use Rattle.c960_rules.proofs.RayTables.{north_west_table}
use Rattle.c960_rules.proofs.tables.north_west.north_west.Goals as goal

pub returns : goal.returns
returns c =
    let n = c.number.ensures in
    row_of (λ s. where_set (is_north_west s)) NORTH_WEST north_west_table n.bound n.value
