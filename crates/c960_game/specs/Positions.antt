-- The positions of a game, read off its start number and its list of moves. They are meaningful if each move is legal in
-- its position and the number is below 960.
use Rattle.std.specs.Prelude.{ℕ, nat_le, List, [], ◌∷◌, length, take, Option, Some, None, cond}
use Rattle.c960_board.specs.declared.parts.Parts.{Parts}
use Rattle.c960_board.specs.Moves.{Triple}
use Rattle.c960_board.specs.Start.{start}
use Rattle.c960_rules.specs.After.{after}

-- the position after the moves of a list
unfoldable pub position_after : Parts → List Triple → Parts
position_after p [] = p
position_after p (m ∷ ms) = position_after (after p m) ms

-- a position and the position after each move of a list
unfoldable pub positions_from : Parts → List Triple → List Parts
positions_from p [] = p ∷ []
positions_from p (m ∷ ms) = p ∷ positions_from (after p m) ms

-- the present position of the game from start n with these moves
abbrev pub last_position : ℕ → List Triple → Parts
last_position n l = position_after (start n) l

-- the start and the position after each move
abbrev pub positions : ℕ → List Triple → List Parts
positions n l = positions_from (start n) l

-- the position after that many of the moves, or none if fewer were made
unfoldable pub position_at : ℕ → List Triple → ℕ → Option Parts
position_at n l place = cond (nat_le place (length l)) (Some (last_position n (take place l))) None
