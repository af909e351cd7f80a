use Rattle.c960_board.proofs.fen.placement.+read_ranks.Given as goal

abbrev pub decreases-read_ranks : goal.decreases-read_ranks
decreases-read_ranks l = l.highest
