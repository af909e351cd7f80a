use Rattle.c960_rules.specs.declared.tables.west.TheConstants.{WEST}
use Rattle.c960_rules.specs.Inner.Rays.{is_west}
use Rattle.c960_rules.specs.Inner.Wheres.{where_set}
use Rattle.c960_rules.proofs.LeapTables.{row_of}
use Rattle.c960_rules.proofs.RayTables.{west_table}
use Rattle.c960_rules.proofs.tables.west.west.Goals as goal

pub returns : goal.returns
returns c =
    let n = c.number.ensures in
    row_of (λ s. where_set (is_west s)) WEST west_table n.bound n.value
