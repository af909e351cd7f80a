use Rattle.c960_board.specs.declared.piece.Colour.TheVariants.{Black}
use Rattle.c960_rules.specs.declared.tables.white_pawn.TheConstants.{WHITE_PAWN}
use Rattle.c960_rules.specs.Inner.Wheres.{where_set, is_pawn_hit}
use Rattle.c960_rules.proofs.LeapTables.{black_table_to, row_of}
use Rattle.c960_rules.proofs.tables.white_pawn.black_hits_on.Goals as goal

pub returns : goal.returns
returns c = row_of (λ t. where_set (λ s. is_pawn_hit Black s t)) WHITE_PAWN black_table_to c.number.ensures.bound c.number.ensures.value
