-- What the tests on cells say.
use Rattle.std.proofs.Common.{◌≡◌, ◌≢◌, ℕ, Bool, true, refl, ap, Some, None, ◌⊎◌, inl, inr}
use Rattle.c960_board.specs.declared.piece.Colour.{Colour}
use Rattle.c960_board.specs.declared.piece.Colour.TheVariants.{White, Black}
use Rattle.c960_board.specs.declared.piece.Kind.{Kind}
use Rattle.c960_board.specs.declared.piece.Kind.TheVariants.{Pawn, Knight, Bishop, Rook, Queen, King}
use Rattle.c960_board.specs.declared.parts.Parts.{Parts}
use Rattle.c960_board.specs.Pieces.{Cell, man, other, is_of, holds}
use Rattle.c960_board.specs.Cells.{cell_at}
use Rattle.c960_board.specs.Moves.{Triple}
use Rattle.c960_board.proofs.lemmas.Colours.{same_colour_is, same_colour_self}
use Rattle.c960_board.proofs.lemmas.SetFacts.{man_says}

-- what a square of the position holds
abbrev pub piece_on : Parts → ℕ → Cell
piece_on p s = cell_at p.placement s

-- whether the move goes to a piece of the mover's own side
abbrev pub goes_to_own : Parts → Triple → Bool
goes_to_own p m = is_of p.turn (cell_at p.placement m.to)

-- the colour of what a cell holds
colour_in : Colour → Cell → Colour
colour_in c None = c
colour_in c (Some p) = p.colour

-- the kind of what a cell holds
kind_in : Kind → Cell → Kind
kind_in k None = k
kind_in k (Some p) = p.kind

-- a cell holds one piece, so of one colour
pub one_colour : (c d : Colour) (k j : Kind) → man c k ≡ man d j → c ≡ d
unfolding colour_in
one_colour c d k j e = ap (colour_in c) e

-- and of one kind
pub one_kind : (c d : Colour) (k j : Kind) → man c k ≡ man d j → k ≡ j
unfolding kind_in
one_kind c d k j e = ap (kind_in k) e

-- the opponent's opponent is the side itself
pub other_other : (c : Colour) → other (other c) ≡ c
other_other White = refl
other_other Black = refl

-- no side is its own opponent
pub not_other : (c : Colour) → c ≡ other c → ⊥
not_other White e = cc
not_other Black e = cc

-- there are two sides
pub same_or_other : (c d : Colour) → (d ≡ c) ⊎ (d ≡ other c)
same_or_other White White = inl refl
same_or_other Black Black = inl refl
same_or_other White Black = inr refl
same_or_other Black White = inr refl

-- a kind is the king or it is not
pub king_or_not : (k : Kind) → (k ≡ King) ⊎ (k ≢ King)
king_or_not King = inl refl
king_or_not Pawn = inr (λ e. cc)
king_or_not Knight = inr (λ e. cc)
king_or_not Bishop = inr (λ e. cc)
king_or_not Rook = inr (λ e. cc)
king_or_not Queen = inr (λ e. cc)

-- an empty square holds no piece
pub no_man : (c : Colour) (k : Kind) → None ≡ man c k → ⊥
no_man c k e = cc

-- a piece, from its test
pub holds_is : (c : Colour) (k : Kind) (o : Cell) → holds c k o ≡ true → o ≡ man c k
holds_is c k o h = (man_says c k o).0 h

-- and to its test
pub is_holds : (c : Colour) (k : Kind) (o : Cell) → o ≡ man c k → holds c k o ≡ true
is_holds c k o e = (man_says c k o).1 e

-- a piece of the colour
pub record IsOwn (c : Colour) (o : Cell) : Type 0 where
  pub kind : Kind
  pub is : o ≡ man c kind

-- a piece of the colour, from its test
pub own_is : (c : Colour) (o : Cell) → is_of c o ≡ true → IsOwn c o
own_is c None h = cc
own_is c (Some p) h = record { kind = p.kind; is = let colour = same_colour_is p.colour c h in rw (← colour) refl }

-- and to its test
pub is_own : (c : Colour) (k : Kind) (o : Cell) → o ≡ man c k → is_of c o ≡ true
is_own c k o e = rw e (same_colour_self c)
