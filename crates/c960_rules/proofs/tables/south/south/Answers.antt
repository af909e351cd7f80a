use Rattle.c960_rules.specs.declared.tables.south.TheConstants.{SOUTH}
use Rattle.c960_rules.specs.Inner.Rays.{is_south}
use Rattle.c960_rules.specs.Inner.Wheres.{where_set}
use Rattle.c960_rules.proofs.LeapTables.{row_of}
use Rattle.c960_rules.proofs.RayTables.{south_table}
use Rattle.c960_rules.proofs.tables.south.south.Goals as goal

pub returns : goal.returns
returns c =
    let n = c.number.ensures in
    row_of (λ s. where_set (is_south s)) SOUTH south_table n.bound n.value
