use Rattle.c960_board.specs.declared.piece.Colour.TheVariants.{White}
use Rattle.c960_rules.specs.declared.tables.black_pawn.TheConstants.{BLACK_PAWN}
use Rattle.c960_rules.specs.Inner.Wheres.{where_set, is_pawn_hit}
use Rattle.c960_rules.proofs.LeapTables.{white_table_to, row_of}
use Rattle.c960_rules.proofs.tables.black_pawn.white_hits_on.Goals as goal

pub returns : goal.returns
returns c = row_of (λ t. where_set (λ s. is_pawn_hit White s t)) BLACK_PAWN white_table_to c.number.ensures.bound c.number.ensures.value
