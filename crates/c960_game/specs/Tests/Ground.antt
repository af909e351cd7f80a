-- The grounds of endings, as a test that computes.
use Rattle.std.specs.Prelude.{ℕ, nat_le, List, Bool, true, ◌&&◌}
use Rattle.c960_board.specs.Moves.{Triple}
use Rattle.c960_board.specs.Pieces.{same_colour}
use Rattle.c960_game.specs.declared.ending.Ending.{Ending}
use Rattle.c960_game.specs.declared.ending.Ending.TheVariants.{Resigns, Agreed, Abandoned, ClaimThreefold, ClaimFifty, LosesOnTime, Decided}
use Rattle.c960_game.specs.Positions.{last_position}
use Rattle.c960_game.specs.Times.{times}

abbrev pub has_ground : ℕ → List Triple → Ending → Bool
has_ground n l (ClaimThreefold c) = same_colour (last_position n l).turn c && nat_le 3 (times n l)
has_ground n l (ClaimFifty c) = same_colour (last_position n l).turn c && nat_le 100 (last_position n l).half_moves
has_ground n l (Resigns c) = true
has_ground n l Agreed = true
has_ground n l Abandoned = true
has_ground n l (LosesOnTime c) = true
has_ground n l (Decided r) = true
