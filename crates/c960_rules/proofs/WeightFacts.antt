-- What pieces weigh, and that a pawn weighs more after its move.
use Rattle.std.proofs.Common.{◌≡◌, ◌≢◌, ℕ, ◌<◌, ◌≤◌, refl, arith, Option, Some, None, inl, inr}
use Rattle.std.specs.Prelude.{IsTrue}
use Rattle.c960_board.specs.declared.piece.Colour.{Colour}
use Rattle.c960_board.specs.declared.piece.Colour.TheVariants.{White, Black}
use Rattle.c960_board.specs.declared.piece.Kind.{Kind}
use Rattle.c960_board.specs.declared.piece.Kind.TheVariants.{Pawn, Knight, Bishop, Rook, Queen, King}
use Rattle.c960_board.specs.declared.parts.Parts.{Parts}
use Rattle.c960_board.specs.Squares.{rank_of, ahead, IsEndRank}
use Rattle.c960_board.specs.Pieces.{Cell, man}
use Rattle.c960_board.specs.Position.{IsPosition}
use Rattle.c960_board.specs.Moves.{Triple, IsMove, is_promotion}
use Rattle.c960_rules.specs.Attacks.{IsForward}
use Rattle.c960_rules.specs.Reaches.{GoesAsPawn, pawn_rank}
use Rattle.c960_rules.specs.After.{landed}
use Rattle.c960_rules.specs.Progress.{ranks_behind, piece_weight, weight}
use Rattle.c960_rules.proofs.lemmas.PieceFacts.{piece_on}
use Rattle.c960_rules.proofs.AttackWays.{pawn_way}
use Rattle.c960_rules.proofs.lemmas.Reached.{officer_only}

-- ---- Bounds.

-- the board has eight ranks
behind_bound : (c : Colour) (s : ℕ) → s < 64 → ranks_behind c s ≤ 7
behind_bound White s l = omega arith
behind_bound Black s l = omega arith

-- a piece weighs at most 7
pub piece_bound : (k : Kind) (c : Colour) (s : ℕ) → s < 64 → piece_weight k c s ≤ 7
piece_bound Pawn c s l = behind_bound c s l
piece_bound Knight c s l = omega arith
piece_bound Bishop c s l = omega arith
piece_bound Rook c s l = omega arith
piece_bound Queen c s l = omega arith
piece_bound King c s l = omega arith

-- a square weighs at most 8
pub weight_bound : (o : Cell) (s : ℕ) → s < 64 → weight o s ≤ 8
weight_bound None s l = omega arith
weight_bound (Some p) s l = let h = piece_bound p.kind p.colour s l in omega arith

-- a piece that is not a pawn weighs 7
pub officer_weight : (k : Kind) (c : Colour) (s : ℕ) → k ≢ Pawn → piece_weight k c s ≡ 7
officer_weight Pawn c s officer = absurd (officer refl)
officer_weight Knight c s officer = refl
officer_weight Bishop c s officer = refl
officer_weight Rook c s officer = refl
officer_weight Queen c s officer = refl
officer_weight King c s officer = refl

-- what a square weighs, by what it holds
pub weight_of : (o : Cell) (c : Colour) (k : Kind) (s : ℕ) → o ≡ man c k → weight o s ≡ piece_weight k c s
weight_of o c k s e = rw e refl

-- an empty square weighs 8
pub weight_none : (o : Cell) (s : ℕ) → o ≡ None → weight o s ≡ 8
weight_none o s e = rw e refl

-- ---- A pawn's move.

-- one rank forward
forward_adds : (c : Colour) (s t : ℕ) → s < 64 → IsForward c s t → ranks_behind c s < ranks_behind c t
forward_adds White s t l h = omega arith
forward_adds Black s t l h = omega arith

-- two squares forward
twice_adds : (c : Colour) (s t : ℕ) → rank_of s ≡ pawn_rank c → t ≡ ahead c (ahead c s)
    → ranks_behind c s < ranks_behind c t
twice_adds White s t h e = omega arith
twice_adds Black s t h e = omega arith

-- off the end ranks a pawn's last rank is still ahead of it
below_last : (c : Colour) (s : ℕ) → s < 64 → (IsEndRank (rank_of s) → ⊥) → ranks_behind c s < 7
below_last White s l h = let ne : rank_of s ≢ 7 = λ e. h (inr e) in omega arith
below_last Black s l h = let ne : rank_of s ≢ 0 = λ e. h (inl e) in omega arith

-- a pawn goes forward
pawn_goes_on : (p : Parts) (m : Triple) → IsMove m → GoesAsPawn p m
    → ranks_behind p.turn m.from < ranks_behind p.turn m.to
pawn_goes_on p m move r =
    elim (pawn_way p m r) [
      | inl forward ↦ forward_adds p.turn m.from m.to move.from forward
      | inr w ↦ twice_adds p.turn m.from m.to w.first w.goal
    ]

-- what a pawn becomes weighs more than the pawn
becomes_more : (o : Cell) (c : Colour) (q : Option Kind) (n t : ℕ) → o ≡ man c Pawn → IsTrue (is_promotion q) → n < 7
    → n < ranks_behind c t → n < weight (landed o q) t
becomes_more o c None n t e h low more = rw e more
becomes_more o c (Some j) n t e h low more =
    let heavy = officer_weight j c t (officer_only j h).0 in
    rw e (let l : n < piece_weight j c t = omega arith in l)

-- a pawn weighs more after its move
pub pawn_lands_more : (p : Parts) (m : Triple) → IsPosition p → IsMove m → GoesAsPawn p m
    → weight (piece_on p m.from) m.from < weight (landed (piece_on p m.from) m.promotion) m.to
pawn_lands_more p m valid move r =
    let here = weight_of (piece_on p m.from) p.turn Pawn m.from r.mover in
    let inner : IsEndRank (rank_of m.from) → ⊥ = λ e. valid.placement.no_end_pawn p.turn m.from move.from e r.mover in
    let low = below_last p.turn m.from move.from inner in
    let gone = pawn_goes_on p m move r in
    let light : ℕ = ranks_behind p.turn m.from in
    let more =
    becomes_more (piece_on p m.from) p.turn m.promotion light m.to r.mover move.promotion low gone in
    omega arith
