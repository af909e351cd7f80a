-- Squares to which no move goes, and castling's goal.
use Rattle.std.proofs.Common.{◌≡◌, ℕ, ◌<◌, true, ◌&&◌, [], Option, Some, refl, ap, ◌∙◌, inl, inr, ◌⊎◌, arith}
use Rattle.std.proofs.lemmas.Bool.{and_from, false_from_ne_true}
use Rattle.c960_board.specs.declared.piece.Colour.{Colour}
use Rattle.c960_board.specs.declared.piece.Kind.{Kind}
use Rattle.c960_board.specs.declared.piece.Kind.TheVariants.{Rook}
use Rattle.c960_board.specs.declared.piece.Piece.{Piece}
use Rattle.c960_board.specs.declared.parts.Parts.{Parts}
use Rattle.c960_board.specs.Moves.{Triple}
use Rattle.c960_board.specs.Squares.{file_of}
use Rattle.c960_board.specs.Pieces.{Cell, man, is_of}
use Rattle.c960_board.specs.Position.{IsPosition}
use Rattle.c960_board.specs.Sets.{is_kind}
use Rattle.c960_rules.specs.Reaches.{Reaches}
use Rattle.c960_rules.specs.Castles.{Castles}
use Rattle.c960_rules.specs.Tests.Legal.{is_legal, promotions}
use Rattle.c960_rules.specs.Inner.Listing.{triple, moves_between, legal_between, NoneGoes, HasMoveBetween}
use Rattle.c960_rules.proofs.lemmas.PieceFacts.{piece_on, one_colour, is_own, own_is}
use Rattle.c960_rules.proofs.ListFacts.{none_passes, goes_by_test}

none_goes : (p : Parts) (s t : ℕ) (k : Option Kind) → ((k : Option Kind) → Reaches p (triple s t k) → ⊥)
    → ((k : Option Kind) → Castles p (triple s t k) → ⊥) → Reaches p (triple s t k) ⊎ Castles p (triple s t k) → ⊥
none_goes p s t k reach castle (inl w) = reach k w
none_goes p s t k reach castle (inr w) = castle k w

-- if no move goes there, nothing is listed
pub none_between : (p : Parts) (s t : ℕ) → NoneGoes p s t → legal_between p s t ≡ []
unfolding legal_between moves_between
none_between p s t n =
    none_passes (is_legal p) s t promotions
    (λ k. false_from_ne_true (is_legal p (triple s t k)) (λ e. none_goes p s t k n.reaches n.castles (goes_by_test p (triple s t k) e)))

-- and no move is legal
pub no_between : (p : Parts) (s t : ℕ) → NoneGoes p s t → HasMoveBetween p s t → ⊥
no_between p s t n w = none_goes p s t w.promotion n.reaches n.castles w.legal.goes

-- castling goes to a rook of the side
pub castle_rook : (p : Parts) (m : Triple) → IsPosition p → Castles p m → m.to < 64
    → (is_of p.turn (piece_on p m.to) && is_kind Rook (piece_on p m.to)) ≡ true
castle_rook p m valid w l =
    let rook = (valid.rights p.turn).rook (file_of m.to) (omega arith) w.right in
    let at : piece_on p m.to ≡ man p.turn Rook = ap (λ (s : ℕ). piece_on p s) w.rook ∙ rook in
    rw at (and_from (is_of p.turn (man p.turn Rook)) true (is_own p.turn Rook (man p.turn Rook) refl) refl)

-- the colour of a piece, from the test
pub side_of : (q : Piece) (d c : Colour) (o : Cell) → is_of d o ≡ true → o ≡ Some q → d ≡ c → q.colour ≡ c
side_of q d c o h is e =
    let w = own_is d (Some q) (rw is at h) in
    one_colour q.colour d q.kind w.kind w.is ∙ e
