use Rattle.c960_rules.specs.declared.tables.bishop_lines.TheConstants.{BISHOP_LINES}
use Rattle.c960_rules.specs.Inner.Wheres.{where_set, is_bishop_line}
use Rattle.c960_rules.proofs.LeapTables.{bishop_table, bishop_table_to, row_of}
use Rattle.c960_rules.proofs.tables.bishop_lines.bishop_lines.Goals as goal

pub returns : goal.returns
returns c =
    let n = c.number.ensures in
    record {
      from = row_of (λ s. where_set (is_bishop_line s)) BISHOP_LINES bishop_table n.bound n.value;
      to = row_of (λ t. where_set (λ s. is_bishop_line s t)) BISHOP_LINES bishop_table_to n.bound n.value;
    }
