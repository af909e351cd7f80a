use Rattle.c960_rules.specs.declared.tables.south_west.TheConstants.{SOUTH_WEST}
use Rattle.c960_rules.specs.Inner.Rays.{is_south_west}
use Rattle.c960_rules.specs.Inner.Wheres.{where_set}
use Rattle.c960_rules.proofs.LeapTables.{row_of}
use Rattle.c960_rules.proofs.RayTables.{south_west_table}
use Rattle.c960_rules.proofs.tables.south_west.south_west.Goals as goal

pub returns : goal.returns
returns c =
    let n = c.number.ensures in
    row_of (λ s. where_set (is_south_west s)) SOUTH_WEST south_west_table n.bound n.value
