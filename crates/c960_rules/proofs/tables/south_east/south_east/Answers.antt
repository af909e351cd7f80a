use Rattle.c960_rules.specs.declared.tables.south_east.TheConstants.{SOUTH_EAST}
use Rattle.c960_rules.specs.Inner.Rays.{is_south_east}
use Rattle.c960_rules.specs.Inner.Wheres.{where_set}
use Rattle.c960_rules.proofs.LeapTables.{row_of}
use Rattle.c960_rules.proofs.RayTables.{south_east_table}
use Rattle.c960_rules.proofs.tables.south_east.south_east.Goals as goal

pub returns : goal.returns
returns c =
    let n = c.number.ensures in
    row_of (λ s. where_set (is_south_east s)) SOUTH_EAST south_east_table n.bound n.value
