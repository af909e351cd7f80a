-- No legal move lowers the progress, and what restarts the half-move counter raises it.
use Rattle.std.proofs.Common.{◌≡◌, ◌≢◌, ℕ, ◌+◌, ◌<◌, ◌≤◌, Bool, true, false, ◌||◌, refl, sym, ◌∙◌, arith, ◌⊎◌, inl, inr}
use Rattle.std.proofs.lemmas.Bool.{or_cases}
use Rattle.c960_board.specs.declared.piece.Kind.{Kind}
use Rattle.c960_board.specs.declared.piece.Kind.TheVariants.{Pawn, Rook, King}
use Rattle.c960_board.specs.declared.parts.Parts.{Parts}
use Rattle.c960_board.specs.Pieces.{man, other, is_of, holds}
use Rattle.c960_board.specs.Position.{IsPosition}
use Rattle.c960_board.specs.Moves.{Triple, IsMove}
use Rattle.c960_rules.specs.Check.{IsLawful}
use Rattle.c960_rules.specs.Reaches.{GoesAsOfficer}
use Rattle.c960_rules.specs.After.{half_moves_after, after}
use Rattle.c960_rules.specs.Legal.{Legal}
use Rattle.c960_rules.specs.Progress.{progress, Advances}
use Rattle.c960_rules.proofs.lemmas.PieceFacts.{piece_on, one_kind, own_is, holds_is}
use Rattle.c960_rules.proofs.Change.{king_no_pawn}
use Rattle.c960_rules.proofs.Ordinary.{IsOrdinary}
use Rattle.c960_rules.proofs.lemmas.Reached.{ordinary}
use Rattle.c960_rules.proofs.CastlingFacts.{IsCastling, castling}
use Rattle.c960_rules.proofs.MoveLaws.{not_both}
use Rattle.c960_rules.proofs.Exchange.{pawn_rises, officer_keeps, officer_takes}
use Rattle.c960_rules.proofs.CastlingWeights.{castling_keeps}

-- whether the half-move counter restarts
abbrev begins_anew : Parts → Triple → Bool
begins_anew p m = holds p.turn Pawn (piece_on p m.from) || is_of (other p.turn) (piece_on p m.to)

-- what every legal move does to the progress
record Grows (p : Parts) (m : Triple) : Type 0 where
  pub never_back : progress p ≤ progress (after p m)
  pub rises : begins_anew p m ≡ true → progress p < progress (after p m)

-- no officer is a pawn
no_pawn : (p : Parts) (m : Triple) (k : Kind) → piece_on p m.from ≡ man p.turn k → k ≢ Pawn
    → holds p.turn Pawn (piece_on p m.from) ≡ true → ⊥
no_pawn p m k mover officer h =
    officer (one_kind p.turn p.turn k Pawn (sym mover ∙ holds_is p.turn Pawn (piece_on p m.from) h))

-- another piece restarts the counter only with a capture
officer_grows : (p : Parts) (m : Triple) → IsMove m → IsOrdinary p m → GoesAsOfficer p m → Grows p m
officer_grows p m move r w = record {
  never_back = officer_keeps p m move r w;
  rises = λ anew. elim (or_cases (holds p.turn Pawn (piece_on p m.from)) (is_of (other p.turn) (piece_on p m.to)) anew) [
    | inl pawn ↦ absurd (no_pawn p m w.kind w.mover w.officer pawn)
    | inr prey ↦ officer_takes p m move r w prey
  ];
}

-- castling does not restart the counter
castling_goes_on : (p : Parts) (m : Triple) → IsCastling p m → begins_anew p m ≡ true → ⊥
castling_goes_on p m r anew =
    elim (or_cases (holds p.turn Pawn (piece_on p m.from)) (is_of (other p.turn) (piece_on p m.to)) anew) [
      | inl pawn ↦ no_pawn p m King r.castles.king king_no_pawn pawn
      | inr prey ↦
          let taken = own_is (other p.turn) (piece_on p m.to) prey in
          not_both p Rook taken.kind (sym r.rook ∙ taken.is)
    ]

-- a pawn's move, another piece's, or castling
legal_grows : (p : Parts) (m : Triple) → IsPosition p → IsLawful p → Legal p m → Grows p m
legal_grows p m valid lawful legal =
    elim legal.goes [
      | inl r ↦
          let here = ordinary p m valid lawful legal.move r in
          elim r.goes [
            | inl w ↦ officer_grows p m legal.move here w
            | inr w ↦
                let more = pawn_rises p m valid legal.move here w in
                record { never_back = omega arith; rises = λ _. more }
          ]
      | inr r ↦
          let here = castling p m valid r in
          record {
            never_back = castling_keeps p m legal.move here;
            rises = λ anew. absurd (castling_goes_on p m here anew);
          }
    ]

-- the counter, by the test that it is cleared by
counted_by : (anew : Bool) (n a b : ℕ) → (anew ≡ true → a < b)
    → (elim anew as (λ _. ℕ) [ true ↦ 0 | false ↦ n + 1 ] ≡ n + 1)
    ⊎ ((elim anew as (λ _. ℕ) [ true ↦ 0 | false ↦ n + 1 ] ≡ 0) × (a < b))
counted_by true n a b h = inr (refl, h refl)
counted_by false n a b h = inl refl

-- each legal move advances
pub advances : (p : Parts) (m : Triple) → IsPosition p → IsLawful p → Legal p m → Advances p m
unfolding after half_moves_after
advances p m valid lawful legal =
    let grows = legal_grows p m valid lawful legal in
    record {
      never_back = grows.never_back;
      counted = counted_by (begins_anew p m) p.half_moves (progress p) (progress (after p m)) grows.rises;
    }

-- positions with the same placement have made the same progress, whatever their turn, rights, target and counters
pub same_progress : (p q : Parts) → p.placement ≡ q.placement → progress p ≡ progress q
unfolding progress
same_progress p q e = rw e refl
