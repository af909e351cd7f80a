-- What a legal move does to the pieces of the other side.
use Rattle.std.proofs.Common.{◌≡◌, ◌≢◌, ℕ, ◌<◌, sym, ◌∙◌, ap, inl, inr}
use Rattle.std.proofs.lemmas.Bool.{both_ways}
use Rattle.c960_board.specs.declared.piece.Kind.{Kind}
use Rattle.c960_board.specs.declared.piece.Kind.TheVariants.{Pawn, Rook, King}
use Rattle.c960_board.specs.declared.parts.Parts.{Parts}
use Rattle.c960_board.specs.Pieces.{man, other}
use Rattle.c960_board.specs.Position.{IsPosition}
use Rattle.c960_board.specs.Cells.{cell_at}
use Rattle.c960_board.specs.Moves.{Triple}
use Rattle.c960_rules.specs.Check.{IsLawful}
use Rattle.c960_rules.specs.After.{cell_after, after}
use Rattle.c960_rules.specs.Castles.{Castles}
use Rattle.c960_rules.specs.Reaches.{Reaches}
use Rattle.c960_rules.specs.Effects.{IsTakenOn}
use Rattle.c960_rules.specs.Legal.{Legal}
use Rattle.c960_rules.proofs.lemmas.PieceFacts.{piece_on, goes_to_own, not_other, no_man, one_colour, one_kind}
use Rattle.c960_rules.proofs.CellFacts.{moved_cases}
use Rattle.c960_rules.proofs.Ordinary.{IsOrdinary}
use Rattle.c960_rules.proofs.lemmas.Reached.{at_target, ordinary}
use Rattle.c960_rules.proofs.CastlingFacts.{IsCastling, castling, own_rook, stays}
use Rattle.c960_rules.proofs.lemmas.AfterFacts.{cells_after, legal_change}

-- what is on a square after a move
pub stands_after : (p : Parts) (m : Triple) (u : ℕ) → u < 64 → cell_at (after p m).placement u ≡ cell_after p m u
unfolding after
stands_after p m u l = cells_after p m u l

-- one piece does not belong to both sides
pub not_both : (p : Parts) (j k : Kind) → man p.turn j ≡ man (other p.turn) k → ⊥
not_both p j k e = not_other p.turn (one_colour p.turn (other p.turn) j k e)

-- an ordinary and a castling move differ
pub not_both_ways : (p : Parts) (m : Triple) → IsPosition p → Reaches p m → Castles p m → ⊥
not_both_ways p m valid r w = both_ways (goes_to_own p m) r.goal (own_rook p m (castling p m valid w))

-- a square that holds a piece of the other side is not the one that the mover leaves
off_from : (p : Parts) (m : Triple) (j k : Kind) (u : ℕ) → piece_on p m.from ≡ man p.turn j
    → piece_on p u ≡ man (other p.turn) k → u ≢ m.from
off_from p m j k u mover is e = not_both p j k (sym mover ∙ ap (λ (s : ℕ). piece_on p s) (sym e) ∙ is)

-- a piece of the other side that an ordinary move does not take stays
stays_ordinary : (p : Parts) (m : Triple) (u : ℕ) (k : Kind) → IsOrdinary p m → piece_on p u ≡ man (other p.turn) k
    → (IsTakenOn p m u → ⊥) → cell_after p m u ≡ man (other p.turn) k
stays_ordinary p m u k r is spared =
    elim (moved_cases p m u r.free) [
      | inl w ↦ absurd (spared (inl w.square))
      | inr (inl w) ↦ elim w.square [
        | inl from ↦ absurd (off_from p m r.kind k u r.mover is from)
        | inr passed ↦ absurd (spared (inr (passed.en_passant, passed.square)))
      ]
      | inr (inr w) ↦ w.holds ∙ is
    ]

-- nor does castling change it
stays_castling : (p : Parts) (m : Triple) (u : ℕ) (k : Kind) → IsCastling p m → piece_on p u ≡ man (other p.turn) k
    → (IsTakenOn p m u → ⊥) → cell_after p m u ≡ man (other p.turn) k
stays_castling p m u k r is spared =
    stays p m r u (other p.turn) k (off_from p m King k u r.castles.king is) (λ e. spared (inl e)) is

-- a piece of the other side that a legal move does not take stays
pub other_stays : (p : Parts) (m : Triple) → IsPosition p → IsLawful p → Legal p m → (u : ℕ) (k : Kind) → u < 64
    → cell_at p.placement u ≡ man (other p.turn) k → (IsTakenOn p m u → ⊥)
    → cell_at (after p m).placement u ≡ man (other p.turn) k
other_stays p m valid lawful legal u k l is spared =
    stands_after p m u l ∙ elim legal.goes [
      | inl r ↦ stays_ordinary p m u k (ordinary p m valid lawful legal.move r) is spared
      | inr r ↦ stays_castling p m u k (castling p m valid r) is spared
    ]

-- a piece of the other side was already on its square
pub other_stood : (p : Parts) (m : Triple) → IsPosition p → IsLawful p → Legal p m → (u : ℕ) (k : Kind) → u < 64
    → cell_at (after p m).placement u ≡ man (other p.turn) k → cell_at p.placement u ≡ man (other p.turn) k
other_stood p m valid lawful legal u k l is =
    let change = legal_change p m valid lawful legal in
    elim (change.came u (other p.turn) k l (sym (stands_after p m u l) ∙ is)) [
      | inl old ↦ old
      | inr new ↦ absurd (not_other p.turn (sym new.own))
    ]

-- an ordinary move leaves no piece of the other side where it takes
taken_ordinary : (p : Parts) (m : Triple) (u : ℕ) (k : Kind) → IsOrdinary p m → IsTakenOn p m u
    → cell_after p m u ≢ man (other p.turn) k
taken_ordinary p m u k r taken is =
    elim (moved_cases p m u r.free) [
      | inl w ↦ not_other p.turn (sym (let new = r.arrives (other p.turn) k (sym w.holds ∙ is) in new.own))
      | inr (inl w) ↦ no_man (other p.turn) k (sym w.holds ∙ is)
      | inr (inr w) ↦ elim taken [
        | inl e ↦ w.off_to e
        | inr e ↦ w.not_passed (record { en_passant = e.0; square = e.1 })
      ]
    ]

-- castling takes nothing: the mover's rook was on its goal
taken_castling : (p : Parts) (m : Triple) (u : ℕ) (k : Kind) → IsCastling p m → IsTakenOn p m u
    → piece_on p u ≢ man (other p.turn) k
taken_castling p m u k r (inl e) is =
    not_both p Rook k (sym r.rook ∙ ap (λ (s : ℕ). piece_on p s) (sym e) ∙ is)
taken_castling p m u k r (inr e) is =
    let w = at_target p m e.0 in
    let kind = one_kind p.turn p.turn Pawn King (sym w.pawn ∙ r.castles.king) in
    cc

-- a legal move leaves no piece of the other side where it takes
pub other_taken : (p : Parts) (m : Triple) → IsPosition p → IsLawful p → Legal p m → (u : ℕ) (k : Kind) → u < 64
    → IsTakenOn p m u → cell_at (after p m).placement u ≢ man (other p.turn) k
other_taken p m valid lawful legal u k l taken is =
    elim legal.goes [
      | inl r ↦
          let here = ordinary p m valid lawful legal.move r in
          taken_ordinary p m u k here taken (sym (stands_after p m u l) ∙ is)
      | inr r ↦ taken_castling p m u k (castling p m valid r) taken (other_stood p m valid lawful legal u k l is)
    ]
