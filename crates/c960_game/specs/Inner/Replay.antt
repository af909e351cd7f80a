-- Moves that can be made one after another.
use Rattle.std.specs.Prelude.{List, [], ◌∷◌}
use Rattle.c960_board.specs.declared.parts.Parts.{Parts}
use Rattle.c960_board.specs.Moves.{Triple}
use Rattle.c960_rules.specs.After.{after}
use Rattle.c960_rules.specs.Legal.{Legal}

-- each move is legal in its position
unfoldable pub AllLegal : Parts → List Triple → Type 0
AllLegal p [] = Unit {0}
AllLegal p (m ∷ ms) = Legal p m × AllLegal (after p m) ms
