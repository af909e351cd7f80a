-- Where a pawn goes, rank by rank.
use Rattle.std.proofs.Common.{◌≡◌, ◌≢◌, ℕ, ◌<◌, arith}
use Rattle.c960_board.specs.declared.piece.Colour.{Colour}
use Rattle.c960_board.specs.declared.piece.Colour.TheVariants.{White, Black}
use Rattle.c960_board.specs.Squares.{rank_of, home_rank, ahead}
use Rattle.c960_board.specs.Pieces.{other}
use Rattle.c960_rules.specs.Lines.{rank_distance}
use Rattle.c960_rules.specs.Attacks.{IsForward}
use Rattle.c960_rules.specs.Reaches.{pawn_rank}

-- one rank forward is not the home rank
pub forward_leaves : (c : Colour) (s t : ℕ) → s < 64 → IsForward c s t → rank_of t ≢ home_rank c
forward_leaves White s t l h e = omega arith
forward_leaves Black s t l h e = omega arith

-- one rank forward is one rank away
pub forward_is_one : (c : Colour) (s t : ℕ) → IsForward c s t → rank_distance s t ≡ 1
forward_is_one White s t h = omega arith
forward_is_one Black s t h = omega arith

-- a double step does not end on the home rank
pub double_leaves : (c : Colour) (s t : ℕ) → rank_of s ≡ pawn_rank c → t ≡ ahead c (ahead c s) → rank_of t ≢ home_rank c
double_leaves White s t h e f = omega arith
double_leaves Black s t h e f = omega arith

-- a double step does not end on the last rank
pub double_stops : (c : Colour) (s t : ℕ) → rank_of s ≡ pawn_rank c → t ≡ ahead c (ahead c s)
    → rank_of t ≢ home_rank (other c)
double_stops White s t h e f = omega arith
double_stops Black s t h e f = omega arith
