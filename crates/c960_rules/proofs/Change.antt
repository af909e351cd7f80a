-- What every legal move does to the placement, whatever its kind.
use Rattle.std.proofs.Common.{◌≡◌, ◌≢◌, ℕ, ◌<◌, refl, sym, ◌∙◌, ◌⊎◌, inl, inr}
use Rattle.c960_board.specs.declared.piece.Colour.{Colour}
use Rattle.c960_board.specs.declared.piece.Kind.{Kind}
use Rattle.c960_board.specs.declared.piece.Kind.TheVariants.{Pawn, King}
use Rattle.c960_board.specs.declared.parts.Parts.{Parts}
use Rattle.c960_board.specs.Squares.{rank_of, IsEndRank}
use Rattle.c960_board.specs.Pieces.{Cell, man, other}
use Rattle.c960_board.specs.Moves.{Triple}
use Rattle.c960_rules.proofs.lemmas.PieceFacts.{piece_on, not_other, same_or_other, king_or_not, one_colour, one_kind}

-- one king of the colour, on its square
pub record HasKing (cell : ℕ → Cell) (c : Colour) : Type 0 where
  pub square : ℕ
  pub on_board : square < 64
  pub stands : cell square ≡ man c King
  pub only : (u : ℕ) → u < 64 → cell u ≡ man c King → u ≡ square

-- a piece of the mover's, put on u: no pawn on an end rank, and a king only where a king moves
pub record Came (p : Parts) (m : Triple) (u : ℕ) (c : Colour) (k : Kind) : Type 0 where
  pub own : c ≡ p.turn
  pub pawn : k ≡ Pawn → IsEndRank (rank_of u) → ⊥
  pub king : k ≡ King → piece_on p m.from ≡ man p.turn King

-- Away from the two squares of the move all but pawns stay; what is on a square was there before or came with the move;
-- and no king is taken.
pub record IsChange (p : Parts) (m : Triple) (cell : ℕ → Cell) : Type 0 where
  pub kind : Kind
  pub mover : piece_on p m.from ≡ man p.turn kind
  pub stays : (u : ℕ) (c : Colour) (k : Kind) → u < 64 → k ≢ Pawn → u ≢ m.from → u ≢ m.to → piece_on p u ≡ man c k
      → cell u ≡ man c k
  pub came : (u : ℕ) (c : Colour) (k : Kind) → u < 64 → cell u ≡ man c k → (piece_on p u ≡ man c k) ⊎ Came p m u c k
  pub king : kind ≡ King → HasKing cell p.turn
  pub spares_other : piece_on p m.to ≢ man (other p.turn) King
  pub spares_own : kind ≢ King → piece_on p m.to ≢ man p.turn King

-- a king is not a pawn
pub king_no_pawn : King ≢ Pawn
king_no_pawn e = cc

-- a king on neither square of the move stays, if the move puts none of its colour anywhere
king_stays : (p : Parts) (m : Triple) (cell : ℕ → Cell) (c : Colour) → IsChange p m cell → (h : HasKing (piece_on p) c)
    → h.square ≢ m.from → h.square ≢ m.to → ((u : ℕ) → Came p m u c King → ⊥) → HasKing cell c
king_stays p m cell c w h off_from off_to none = record {
  square = h.square;
  on_board = h.on_board;
  stands = w.stays h.square c King h.on_board king_no_pawn off_from off_to h.stands;
  only = λ u l q. elim (w.came u c King l q) [ inl old ↦ h.only u l old | inr new ↦ absurd (none u new) ];
}

-- the king of the side that did not move stays
other_king : (p : Parts) (m : Triple) (cell : ℕ → Cell) (c : Colour) → IsChange p m cell → c ≡ other p.turn
    → HasKing (piece_on p) c
    → HasKing cell c
other_king p m cell c w e h =
    let stands = h.stands in
    let mover = w.mover in
    let apart : p.turn ≢ c = λ f. not_other p.turn (f ∙ e) in
    let off_from : h.square ≢ m.from =
    λ f. apart (let g : man p.turn w.kind ≡ man c King = cc in one_colour p.turn c w.kind King g) in
    let off_to : h.square ≢ m.to = λ f. w.spares_other (cc) in
    king_stays p m cell c w h off_from off_to (λ u new. apart (sym new.own))

-- the mover's king stays if another piece moves
own_king : (p : Parts) (m : Triple) (cell : ℕ → Cell) (c : Colour) (w : IsChange p m cell) → c ≡ p.turn → w.kind ≢ King
    → HasKing (piece_on p) c → HasKing cell c
own_king p m cell c w e officer h =
    let stands = h.stands in
    let mover = w.mover in
    let off_from : h.square ≢ m.from =
    λ f. officer (let g : man p.turn w.kind ≡ man c King = cc in one_kind p.turn c w.kind King g) in
    let off_to : h.square ≢ m.to = λ f. w.spares_own officer (cc) in
    king_stays p m cell c w h off_from off_to
    (λ u new. officer (one_kind p.turn p.turn w.kind King (sym mover ∙ new.king refl)))

-- the mover's king if it moves
moved_king : (p : Parts) (m : Triple) (cell : ℕ → Cell) (c : Colour) (w : IsChange p m cell) → c ≡ p.turn
    → w.kind ≡ King → HasKing cell c
moved_king p m cell c w e is = rw e (w.king is)

-- each side still has one king
pub king_kept : (p : Parts) (m : Triple) (cell : ℕ → Cell) (c : Colour) → IsChange p m cell → HasKing (piece_on p) c
    → HasKing cell c
king_kept p m cell c w h =
    elim (same_or_other p.turn c) [
      | inr e ↦ other_king p m cell c w e h
      | inl e ↦ elim (king_or_not w.kind) [
        | inl is ↦ moved_king p m cell c w e is
        | inr not_king ↦ own_king p m cell c w e not_king h
      ]
    ]
