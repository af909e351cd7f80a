-- An ordinary move of a pawn or of another piece, made from a lawful position.
use Rattle.std.proofs.Common.{◌≡◌, ◌≢◌, ℕ, Option, Some, None, true, false, refl, sym, ◌∙◌, ap, subst, inl, inr}
use Rattle.std.specs.Prelude.{IsTrue, IsSome, not}
use Rattle.std.proofs.lemmas.Bool.{and_parts, not-true, eqb-true}
use Rattle.c960_board.specs.declared.piece.Colour.{Colour}
use Rattle.c960_board.specs.declared.piece.Colour.TheVariants.{White, Black}
use Rattle.c960_board.specs.declared.piece.Kind.{Kind}
use Rattle.c960_board.specs.declared.piece.Kind.TheVariants.{Pawn, Knight, Bishop, Rook, Queen, King}
use Rattle.c960_board.specs.declared.parts.Parts.{Parts}
use Rattle.c960_board.specs.Squares.{rank_of, home_rank, ahead, IsEndRank}
use Rattle.c960_board.specs.Pieces.{Cell, man, other, holds}
use Rattle.c960_board.specs.Position.{IsPosition, IsTarget}
use Rattle.c960_board.specs.Moves.{Triple, IsMove, is_promotion}
use Rattle.c960_rules.specs.Lines.{same_file}
use Rattle.c960_rules.specs.Attacks.{Attacks, AttackedBy}
use Rattle.c960_rules.specs.Check.{IsLawful}
use Rattle.c960_rules.specs.Reaches.{last_rank, is_target, GoesAsOfficer, GoesAsPawn, Reaches}
use Rattle.c960_rules.specs.After.{landed, is_en_passant}
use Rattle.c960_rules.proofs.lemmas.PieceFacts.{piece_on, goes_to_own, other_other, one_colour, one_kind, holds_is}
use Rattle.c960_rules.proofs.AttackWays.{attacked_from, pawn_way}
use Rattle.c960_rules.proofs.PawnFacts.{forward_leaves, double_leaves}
use Rattle.c960_rules.proofs.Change.{Came}
use Rattle.c960_rules.proofs.Ordinary.{IsOrdinary}

-- a king of the side that does not have the move is not attacked
no_king_attacked : (p : Parts) (m : Triple) (k : Kind) → IsLawful p → IsMove m → piece_on p m.from ≡ man p.turn k
    → Attacks p.placement m.from m.to
    → piece_on p m.to ≢ man (other p.turn) King
no_king_attacked p m k lawful move own attack e =
    lawful (record {
      square = m.to;
      on_board = move.to;
      king = e;
      attack = subst (λ (c : Colour). AttackedBy p.placement c m.to) (sym (other_other p.turn))
          (attacked_from p.placement p.turn k m.from m.to move.from own attack);
    })

-- an empty square holds no king
empty_spares : (o : Cell) (c : Colour) → o ≡ None → o ≢ man c King
empty_spares o c e f = let g : None ≡ man c King = sym e ∙ f in cc

-- a pawn takes no king
pawn_spares : (p : Parts) (m : Triple) → IsLawful p → IsMove m → GoesAsPawn p m
    → piece_on p m.to ≢ man (other p.turn) King
pawn_spares p m lawful move r =
    elim r.way [
      | inl w ↦ empty_spares (piece_on p m.to) (other p.turn) w.empty
      | inr (inl w) ↦ empty_spares (piece_on p m.to) (other p.turn) w.empty
      | inr (inr w) ↦ no_king_attacked p m Pawn lawful move r.mover w.attack
    ]

-- a pawn does not go to its home rank
pawn_leaves : (p : Parts) (m : Triple) → IsMove m → GoesAsPawn p m → rank_of m.to ≢ home_rank p.turn
pawn_leaves p m move r =
    elim (pawn_way p m r) [
      | inl forward ↦ forward_leaves p.turn m.from m.to move.from forward
      | inr w ↦ double_leaves p.turn m.from m.to w.first w.goal
    ]

-- an end rank is the home rank or the last rank
no_end : (c : Colour) (r : ℕ) → r ≢ home_rank c → r ≢ last_rank c → IsEndRank r → ⊥
no_end White r home last (inl e) = home e
no_end White r home last (inr e) = last e
no_end Black r home last (inl e) = last e
no_end Black r home last (inr e) = home e

-- a promotion makes no pawn and no king
pub officer_only : (j : Kind) → IsTrue (is_promotion (Some j)) → (j ≢ Pawn) × (j ≢ King)
officer_only Pawn h = cc
officer_only King h = cc
officer_only Knight h = (λ e. cc, λ e. cc)
officer_only Bishop h = (λ e. cc, λ e. cc)
officer_only Rook h = (λ e. cc, λ e. cc)
officer_only Queen h = (λ e. cc, λ e. cc)

-- what a pawn becomes
becomes : (o : Cell) (c : Colour) (j : Kind) → o ≡ man c Pawn → landed o (Some j) ≡ man c j
becomes o c j e = rw e refl

-- what a pawn's move puts on its square
pawn_lands : (p : Parts) (m : Triple) (o : Cell) (q : Option Kind) → o ≡ man p.turn Pawn
    → rank_of m.to ≢ home_rank p.turn
    → (rank_of m.to ≡ last_rank p.turn → IsSome q) → IsTrue (is_promotion q) → (c : Colour) (k : Kind)
    → landed o q ≡ man c k → Came p m m.to c k
pawn_lands p m o None e leaves last h c k is =
    let kind = one_kind p.turn c Pawn k (sym e ∙ is) in
    record {
      own = sym (one_colour p.turn c Pawn k (sym e ∙ is));
      pawn = λ _. no_end p.turn (rank_of m.to) leaves (λ at. let named = last at in cc);
      king = λ f. cc;
    }
pawn_lands p m o (Some j) e leaves last h c k is =
    let lands = sym (becomes o p.turn j e) ∙ is in
    let kind = one_kind p.turn c j k lands in
    let only = officer_only j h in
    record {
      own = sym (one_colour p.turn c j k lands);
      pawn = λ f. absurd (only.0 (kind ∙ f));
      king = λ f. absurd (only.1 (kind ∙ f));
    }

-- the test of the target
pub is_target_is : (o : Option ℕ) (t : ℕ) → is_target o t ≡ true → o ≡ Some t
is_target_is None t h = cc
is_target_is (Some u) t h = ap Some (eqb-true u t h)

-- a pawn that goes to the target
pub record IsAtTarget (p : Parts) (m : Triple) : Type 0 where
  pub pawn : piece_on p m.from ≡ man p.turn Pawn
  pub target : p.target ≡ Some m.to
  pub file : same_file m.from m.to ≡ false

-- a capture en passant goes to the target
pub at_target : (p : Parts) (m : Triple) → is_en_passant p m ≡ true → IsAtTarget p m
unfolding is_en_passant
at_target p m h =
    let w = and_parts (holds p.turn Pawn (piece_on p m.from)) _ h in
    let v = and_parts (is_target p.target m.to) (not (same_file m.from m.to)) w.1 in
    record {
      pawn = holds_is p.turn Pawn (piece_on p m.from) w.0;
      target = is_target_is p.target m.to v.0;
      file = not-true (same_file m.from m.to) v.1;
    }

-- the pawn that is taken en passant
pub passed_pawn : (p : Parts) (m : Triple) → IsPosition p → is_en_passant p m ≡ true
    → piece_on p (ahead (other p.turn) m.to) ≡ man (other p.turn) Pawn
passed_pawn p m valid h =
    let t : IsTarget p.placement p.turn m.to = valid.target m.to (at_target p m h).target in
    t.pawn

-- a pawn's move is ordinary
pawn_ordinary : (p : Parts) (m : Triple) → IsPosition p → IsLawful p → IsMove m → goes_to_own p m ≡ false
    → GoesAsPawn p m → IsOrdinary p m
pawn_ordinary p m valid lawful move free r = record {
  kind = Pawn;
  mover = r.mover;
  free = free;
  to_in = move.to;
  plain = λ n. absurd (n refl);
  arrives =
      let leaves = pawn_leaves p m move r in
      pawn_lands p m (piece_on p m.from) m.promotion r.mover leaves r.promotion.last move.promotion;
  spares = pawn_spares p m lawful move r;
  passed = passed_pawn p m valid;
}

-- what another piece's move puts on its square
officer_lands : (p : Parts) (m : Triple) (r : GoesAsOfficer p m) (c : Colour) (k : Kind)
    → landed (piece_on p m.from) m.promotion ≡ man c k → Came p m m.to c k
officer_lands p m r c k is =
    let lands = sym r.mover ∙ (let plain = r.no_promotion in rw plain at is) in
    let kind = one_kind p.turn c r.kind k lands in
    record {
      own = sym (one_colour p.turn c r.kind k lands);
      pawn = λ e. absurd (r.officer (kind ∙ e));
      king = λ e. r.mover ∙ ap (λ (j : Kind). man p.turn j) (kind ∙ e);
    }

-- another piece's move is ordinary
officer_ordinary : (p : Parts) (m : Triple) → IsPosition p → IsLawful p → IsMove m → goes_to_own p m ≡ false
    → GoesAsOfficer p m
    → IsOrdinary p m
officer_ordinary p m valid lawful move free r = record {
  kind = r.kind;
  mover = r.mover;
  free = free;
  to_in = move.to;
  plain = λ _. r.no_promotion;
  arrives = officer_lands p m r;
  spares = no_king_attacked p m r.kind lawful move r.mover r.attack;
  passed = passed_pawn p m valid;
}

-- a move that reaches its square is ordinary
pub ordinary : (p : Parts) (m : Triple) → IsPosition p → IsLawful p → IsMove m → Reaches p m → IsOrdinary p m
ordinary p m valid lawful move r =
    elim r.goes [
      | inl w ↦ officer_ordinary p m valid lawful move r.goal w
      | inr w ↦ pawn_ordinary p m valid lawful move r.goal w
    ]
