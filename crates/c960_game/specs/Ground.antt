-- The grounds of endings (FIDE Laws, Articles 9.2 and 9.3, for positions on the board; claims with an announced move are left
-- out).
use Rattle.std.specs.Prelude.{ℕ, ◌≡◌, ◌≤◌, List}
use Rattle.c960_board.specs.Moves.{Triple}
use Rattle.c960_game.specs.declared.ending.Ending.{Ending}
use Rattle.c960_game.specs.declared.ending.Ending.TheVariants.{Resigns, Agreed, Abandoned, ClaimThreefold, ClaimFifty, LosesOnTime, Decided}
use Rattle.c960_game.specs.Positions.{last_position}
use Rattle.c960_game.specs.Times.{times}

-- For both claims the claimant has the move. For a threefold claim the present position has appeared at least three times,
-- the present one counted; for a fifty-move claim the half-move counter is at least 100. Every other ending has its ground.
abbrev pub Ground : ℕ → List Triple → Ending → Type 0
Ground n l (ClaimThreefold c) = ((last_position n l).turn ≡ c) × (3 ≤ times n l)
Ground n l (ClaimFifty c) = ((last_position n l).turn ≡ c) × (100 ≤ (last_position n l).half_moves)
Ground n l (Resigns c) = Unit {0}
Ground n l Agreed = Unit {0}
Ground n l Abandoned = Unit {0}
Ground n l (LosesOnTime c) = Unit {0}
Ground n l (Decided r) = Unit {0}
