use Rattle.c960_rules.specs.declared.tables.knight.TheConstants.{KNIGHT}
use Rattle.c960_rules.specs.Inner.Wheres.{where_set, is_knight_leap}
use Rattle.c960_rules.proofs.LeapTables.{knight_table, knight_table_to, row_of}
use Rattle.c960_rules.proofs.tables.knight.knight_leaps.Goals as goal

pub returns : goal.returns
returns c =
    let n = c.number.ensures in
    record {
      from = row_of (λ s. where_set (is_knight_leap s)) KNIGHT knight_table n.bound n.value;
      to = row_of (λ t. where_set (λ s. is_knight_leap s t)) KNIGHT knight_table_to n.bound n.value;
    }
