use Rattle.std.proofs.Common.{rules, ap}
use Rattle.c960_board.specs.declared.piece.Kind.{Kind}
use Rattle.c960_board.specs.Fen.Letters.{letter_of}
use Rattle.c960_board.specs.Sets.{is_in}
use Rattle.c960_board.specs.Inner.PieceLetters.{colour_by}
use Rattle.c960_board.proofs.Written.PieceLetters.{kind_is_numbered}
use Rattle.c960_board.proofs.fen.letters.Letters.of.Goals as goal

pub returns : goal.returns
returns c =
    let s = c.args.sets.now in
    λ u l.
    ap (λ (k : Kind). letter_of (colour_by (is_in s.white u)) k)
    (kind_is_numbered s.pawns s.knights s.bishops s.rooks s.queens u (search rules) (search rules) (search rules) (search rules) (search rules) l)
