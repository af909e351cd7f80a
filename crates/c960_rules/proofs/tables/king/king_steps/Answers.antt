use Rattle.c960_rules.specs.declared.tables.king.TheConstants.{KING}
use Rattle.c960_rules.specs.Inner.Wheres.{where_set, is_king_step}
use Rattle.c960_rules.proofs.LeapTables.{king_table, king_table_to, row_of}
use Rattle.c960_rules.proofs.tables.king.king_steps.Goals as goal

pub returns : goal.returns
returns c =
    let n = c.number.ensures in
    record {
      from = row_of (λ s. where_set (is_king_step s)) KING king_table n.bound n.value;
      to = row_of (λ t. where_set (λ s. is_king_step s t)) KING king_table_to n.bound n.value;
    }
