-- The stretches of the list of all legal moves, and the legal moves from a square. Only the contracts of inner functions
-- cite these definitions; the rules do not depend on them.
use Rattle.std.specs.Prelude.{ℕ, ◌<◌, ◌==◌, ◌&&◌, ◌||◌, not, Bool, true, false, cond, List, [], ◌∷◌, Option, Some, None, map, filter, bit_and}
use Rattle.std.specs.List.{range_with_len, flat_map}
use Rattle.c960_board.specs.declared.piece.Colour.TheVariants.{White, Black}
use Rattle.c960_board.specs.declared.piece.Kind.{Kind}
use Rattle.c960_board.specs.declared.piece.Kind.TheVariants.{Pawn, Knight, Bishop, Rook, Queen}
use Rattle.c960_board.specs.declared.parts.Parts.{Parts}
use Rattle.c960_board.specs.Squares.{rank_of}
use Rattle.c960_board.specs.Pieces.{is_of, holds}
use Rattle.c960_board.specs.Cells.{cell_at}
use Rattle.c960_board.specs.Moves.{Triple}
use Rattle.c960_rules.specs.Tests.Attacks.{attacks}
use Rattle.c960_rules.specs.Reaches.{last_rank, is_target, Reaches}
use Rattle.c960_rules.specs.Tests.Reaches.{steps, steps_twice, takes}
use Rattle.c960_rules.specs.Castles.{Castles}
use Rattle.c960_rules.specs.Legal.{Legal}
use Rattle.c960_rules.specs.Tests.Legal.{is_legal, promotions}
use Rattle.c960_board.specs.Sets.{is_in}
use Rattle.c960_rules.specs.Inner.Wheres.{where_set}

-- a pawn of the side to move is on s, and t is on its last rank
abbrev pub promotes : Parts → ℕ → ℕ → Bool
promotes p s t = holds p.turn Pawn (cell_at p.placement s) && (rank_of t == last_rank p.turn)

-- t is on the last rank of a side, and so on the first rank or the last
abbrev pub is_on_end_rank : ℕ → Bool
is_on_end_rank t = (rank_of t == last_rank White) || (rank_of t == last_rank Black)

-- a pawn that goes to t may be promoted or take en passant
abbrev pub is_special : Parts → ℕ → Bool
is_special p t = is_on_end_rank t || is_target p.target t

-- a move from s to one of the goals promotes no pawn and takes nothing en passant
abbrev pub are_plain : Parts → ℕ → ℕ → Bool
are_plain p s goals = not (holds p.turn Pawn (cell_at p.placement s)) || (bit_and goals (where_set (is_special p)) == 0)

-- the triple with two squares and a promotion
abbrev pub triple : ℕ → ℕ → Option Kind → Triple
triple s t k = record { from = s; to = t; promotion = k }

-- the triples of two squares, by their promotion
unfoldable pub moves_between : ℕ → ℕ → List Triple
moves_between s t = map (triple s t) promotions

-- the triples from s to the squares below n
unfoldable pub moves_to_below : ℕ → ℕ → List Triple
moves_to_below s n = flat_map (moves_between s) (range_with_len 0 n)

-- all triples from s
unfoldable pub moves_from : ℕ → List Triple
moves_from s = moves_to_below s 64

-- the triples from the squares below n
unfoldable pub moves_from_below : ℕ → List Triple
moves_from_below n = flat_map moves_from (range_with_len 0 n)

-- the move alone if it is legal, and nothing if it is not
unfoldable pub legal_one : Parts → Triple → List Triple
legal_one p m = filter (is_legal p) (m ∷ [])

-- the legal moves between two squares that name a promotion
unfoldable pub legal_promotions : Parts → ℕ → ℕ → List Triple
legal_promotions p s t =
    filter (is_legal p) (map (triple s t) (Some Knight ∷ Some Bishop ∷ Some Rook ∷ Some Queen ∷ []))

-- the legal moves between two squares
unfoldable pub legal_between : Parts → ℕ → ℕ → List Triple
legal_between p s t = filter (is_legal p) (moves_between s t)

-- the legal moves from s to the squares below n
unfoldable pub legal_to_below : Parts → ℕ → ℕ → List Triple
legal_to_below p s n = filter (is_legal p) (moves_to_below s n)

-- the legal moves from s
unfoldable pub legal_on : Parts → ℕ → List Triple
legal_on p s = filter (is_legal p) (moves_from s)

-- some move from s to t is legal
pub record HasMoveBetween (p : Parts) (s t : ℕ) : Type 0 where
  pub promotion : Option Kind
  pub legal : Legal p (record { from = s; to = t; promotion = promotion })

-- some move from s is legal
pub record HasMoveFrom (p : Parts) (s : ℕ) : Type 0 where
  pub to : ℕ
  pub on_board : to < 64
  pub between : HasMoveBetween p s to

-- a pawn of the side to move on s goes to t, whatever it is promoted to
unfoldable pub pawn_goes : Parts → ℕ → ℕ → Bool
pawn_goes p s t =
    steps p.placement p.turn s t || (steps_twice p.placement p.turn s t || takes p.placement p.turn p.target s t)

-- the piece of the side to move on s goes to t, whatever a pawn is promoted to
unfoldable pub goes_to : Parts → ℕ → ℕ → Bool
goes_to p s t =
    elim (is_of p.turn (cell_at p.placement s) && not (is_of p.turn (cell_at p.placement t))) [
      | false ↦ false
      | true ↦ elim (holds p.turn Pawn (cell_at p.placement s)) [ true ↦ pawn_goes p s t | false ↦ attacks p.placement s t ]
    ]

-- no move from s to t goes by its piece's rules, and none is castling
pub record NoneGoes (p : Parts) (s t : ℕ) : Type 0 where
  pub reaches : (k : Option Kind) → Reaches p (triple s t k) → ⊥
  pub castles : (k : Option Kind) → Castles p (triple s t k) → ⊥

-- the stretches of the squares of a set
unfoldable pub stretches_in : (ℕ → List Triple) → ℕ → List ℕ → List Triple
stretches_in f set squares = flat_map (λ t. cond (is_in set t) (f t) []) squares

-- the one move between two squares that names no promotion
abbrev pub one_plain : ℕ → ℕ → List Triple
one_plain s t = triple s t None ∷ []
