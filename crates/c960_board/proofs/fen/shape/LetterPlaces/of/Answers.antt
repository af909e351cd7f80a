use Rattle.c960_board.proofs.Written.RankShape.{places_entry}
use Rattle.c960_board.proofs.fen.shape.LetterPlaces.of.Goals as goal

pub returns : goal.returns
returns c = places_entry c.args.files c.requires
