use Rattle.c960_board.specs.declared.piece.Colour.TheVariants.{Black}
use Rattle.c960_rules.specs.declared.tables.black_pawn.TheConstants.{BLACK_PAWN}
use Rattle.c960_rules.specs.Inner.Wheres.{where_set, is_pawn_hit}
use Rattle.c960_rules.proofs.LeapTables.{black_table, row_of}
use Rattle.c960_rules.proofs.tables.black_pawn.black_hits.Goals as goal

pub returns : goal.returns
returns c = row_of (λ s. where_set (is_pawn_hit Black s)) BLACK_PAWN black_table c.number.ensures.bound c.number.ensures.value
