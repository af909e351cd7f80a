use Rattle.c960_rules.specs.declared.tables.rook_lines.TheConstants.{ROOK_LINES}
use Rattle.c960_rules.specs.Inner.Wheres.{where_set, is_rook_line}
use Rattle.c960_rules.proofs.LeapTables.{rook_table, rook_table_to, row_of}
use Rattle.c960_rules.proofs.tables.rook_lines.rook_lines.Goals as goal

pub returns : goal.returns
returns c =
    let n = c.number.ensures in
    record {
      from = row_of (λ s. where_set (is_rook_line s)) ROOK_LINES rook_table n.bound n.value;
      to = row_of (λ t. where_set (λ s. is_rook_line s t)) ROOK_LINES rook_table_to n.bound n.value;
    }
