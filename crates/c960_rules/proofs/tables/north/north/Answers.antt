use Rattle.c960_rules.specs.declared.tables.north.TheConstants.{NORTH}
use Rattle.c960_rules.specs.Inner.Rays.{is_north}
use Rattle.c960_rules.specs.Inner.Wheres.{where_set}
use Rattle.c960_rules.proofs.LeapTables.{row_of}
use Rattle.c960_rules.proofs.RayTables.{north_table}
use Rattle.c960_rules.proofs.tables.north.north.Goals as goal

pub returns : goal.returns
returns c =
    let n = c.number.ensures in
    row_of (λ s. where_set (is_north s)) NORTH north_table n.bound n.value
