use Rattle.c960_board.proofs.Written.PieceLetters.{letters_in}
use Rattle.c960_board.proofs.fen.letters.Letters.rank.Goals as goal

pub returns : goal.returns
returns c =
    let l = c.args.self.now in
    λ file m.
    letters_in l.ones l.twos l.fours l.white _ _ _ _ c.args.rank file m
    c.spread_rank.ensures.bits c.spread_rank-2.ensures.bits c.spread_rank-3.ensures.bits c.spread_rank-4.ensures.bits
