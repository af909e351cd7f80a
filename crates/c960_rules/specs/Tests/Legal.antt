-- Legality, as a test that computes, and the list of all legal moves.
use Rattle.std.specs.Prelude.{List, [], ◌∷◌, Bool, true, false, ◌||◌, not, Option, Some, None, map, filter}
use Rattle.std.specs.List.{flat_map}
use Rattle.c960_board.specs.declared.piece.Kind.{Kind}
use Rattle.c960_board.specs.declared.piece.Kind.TheVariants.{Knight, Bishop, Rook, Queen}
use Rattle.c960_board.specs.declared.parts.Parts.{Parts}
use Rattle.c960_board.specs.Moves.{Triple}
use Rattle.c960_rules.specs.Lines.{squares}
use Rattle.c960_rules.specs.Tests.Check.{in_check}
use Rattle.c960_rules.specs.Tests.Reaches.{reaches}
use Rattle.c960_rules.specs.Tests.Castles.{castles}
use Rattle.c960_rules.specs.After.{placement_after}

-- for a triple that is a move; for one with squares off the board it means nothing
unfoldable pub is_legal : Parts → Triple → Bool
is_legal p m = elim (reaches p m || castles p m) [ true ↦ not (in_check (placement_after p m) p.turn) | false ↦ false ]

-- none, knight, bishop, rook, queen
abbrev pub promotions : List (Option Kind)
promotions = None ∷ Some Knight ∷ Some Bishop ∷ Some Rook ∷ Some Queen ∷ []

-- all triples of a square, a square and a promotion, ascending by the square that is left, then by the goal, then by the
-- promotion: none, knight, bishop, rook, queen
unfoldable pub all_moves : List Triple
all_moves = flat_map (λ s. flat_map (λ t. map (λ k. record { from = s; to = t; promotion = k }) promotions) squares) squares

unfoldable pub legal_list : Parts → List Triple
legal_list p = filter (is_legal p) all_moves
