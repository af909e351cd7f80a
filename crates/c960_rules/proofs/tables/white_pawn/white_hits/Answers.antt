use Rattle.c960_board.specs.declared.piece.Colour.TheVariants.{White}
use Rattle.c960_rules.specs.declared.tables.white_pawn.TheConstants.{WHITE_PAWN}
use Rattle.c960_rules.specs.Inner.Wheres.{where_set, is_pawn_hit}
use Rattle.c960_rules.proofs.LeapTables.{white_table, row_of}
use Rattle.c960_rules.proofs.tables.white_pawn.white_hits.Goals as goal

pub returns : goal.returns
returns c = row_of (λ s. where_set (is_pawn_hit White s)) WHITE_PAWN white_table c.number.ensures.bound c.number.ensures.value
