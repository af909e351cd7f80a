use Rattle.std.proofs.Common.{bit_or}
use Rattle.c960_board.proofs.Written.RankBits.{rank_bits}
use Rattle.c960_board.proofs.fen.files.occupied_files.Goals as goal

pub returns-clause-occupied : goal.returns-clause-occupied
returns-clause-occupied c =
    let s = c.args.sets.now in
    λ file l. rank_bits (bit_or s.white s.black) c.args.rank file l
