-- A legal capture en passant comes from one of the 64 squares, goes to the target and names no promotion.
use Rattle.std.proofs.Common.{◌≡◌, ◌≢◌, ℕ, ◌<◌, arith, subst, true, refl, sym, ◌∙◌, Option, Some, None, inl, inr}
use Rattle.std.proofs.lemmas.Bool.{and_from, both_ways, eq-eqb}
use Rattle.c960_board.specs.declared.piece.Colour.{Colour}
use Rattle.c960_board.specs.declared.piece.Colour.TheVariants.{White, Black}
use Rattle.c960_board.specs.declared.piece.Kind.{Kind}
use Rattle.c960_board.specs.declared.piece.Kind.TheVariants.{Pawn, King}
use Rattle.c960_board.specs.declared.parts.Parts.{Parts}
use Rattle.c960_board.specs.Squares.{file_of, rank_of, ahead}
use Rattle.c960_board.specs.Pieces.{man, holds}
use Rattle.c960_board.specs.Sets.{is_occupied, set_of}
use Rattle.c960_board.specs.Position.{target_rank, IsTarget, IsPosition}
use Rattle.c960_board.specs.Moves.{Triple}
use Rattle.c960_rules.specs.Lines.{same_file}
use Rattle.c960_rules.specs.Attacks.{Attacks}
use Rattle.c960_rules.specs.Reaches.{pawn_rank, last_rank}
use Rattle.c960_rules.specs.Inner.Wheres.{is_pawn_hit, is_taker}
use Rattle.c960_rules.specs.Legal.{LegalEnPassant}
use Rattle.c960_rules.proofs.AttackAgree.{attacks_agree}
use Rattle.c960_rules.proofs.lemmas.AttackTests.{attacks_from}
use Rattle.c960_rules.proofs.lemmas.PieceFacts.{piece_on, is_holds, one_kind}
use Rattle.c960_rules.proofs.lemmas.Reached.{at_target}

-- an option holds one value or none
none_some : (o : Option ℕ) (t : ℕ) → o ≡ None → o ≡ Some t → ⊥
none_some o t e f = cc

-- without a target there is no capture en passant
pub has_target : (p : Parts) → p.target ≡ None → (m : Triple) × LegalEnPassant p m → ⊥
has_target p e h = let w = at_target p h.0 h.1.takes in none_some p.target h.0.to e w.target

-- the target's rank is not the last
target_short : (c : Colour) (t : ℕ) → rank_of t ≡ target_rank c → rank_of t ≢ last_rank c
target_short White t h e = omega arith
target_short Black t h e = omega arith

-- a capture en passant promotes no pawn
no_promotion : (p : Parts) (m : Triple) → IsPosition p → LegalEnPassant p m → m.promotion ≡ None
no_promotion p m valid h =
    let target : IsTarget p.placement p.turn m.to = valid.target m.to (at_target p m h.takes).target in
    elim h.legal.goes [
      | inl r ↦ elim r.goes [
        | inl w ↦ w.no_promotion
        | inr w ↦ w.promotion.others (target_short p.turn m.to target.on_rank)
      ]
      | inr r ↦ r.no_promotion
    ]

-- an option holds one value
same_target : (o : Option ℕ) (s t : ℕ) → o ≡ Some s → o ≡ Some t → s ≡ t
same_target o s t e f = cc

-- the capture from one square on another
abbrev pub capture : ℕ → ℕ → Triple
capture s t = record { from = s; to = t; promotion = None }

-- a capture en passant is one on the target, without a promotion
on_target : (p : Parts) (m : Triple) (t : ℕ) → IsPosition p → p.target ≡ Some t → LegalEnPassant p m
    → LegalEnPassant p (capture m.from t)
on_target p m t valid e h =
    let w = at_target p m h.takes in
    let plain = no_promotion p m valid h in
    let same = same_target p.target m.to t w.target e in
    let unpromoted = subst (λ (q : Option Kind). LegalEnPassant p (record { from = m.from; to = m.to; promotion = q }))
    plain h in
    subst (λ (u : ℕ). LegalEnPassant p (capture m.from u)) same unpromoted

-- if no square has a capture there is none
pub no_target : (p : Parts) (t : ℕ) → IsPosition p → p.target ≡ Some t
    → ((s : ℕ) → s < 64 → LegalEnPassant p (capture s t) → ⊥) → (m : Triple) × LegalEnPassant p m → ⊥
no_target p t valid e none h = none h.0.from h.1.legal.move.from (on_target p h.0 t valid e h.1)

-- the squares of a double step lie on one file
twice_file : (c : Colour) (s t : ℕ) → rank_of s ≡ pawn_rank c → t ≡ ahead c (ahead c s) → same_file s t ≡ true
twice_file White s t first goal = eq-eqb (file_of s) (file_of t) (omega arith)
twice_file Black s t first goal = eq-eqb (file_of s) (file_of t) (omega arith)

-- a pawn's attack, as a test
pawn_attack : (p : Parts) (s t : ℕ) → IsPosition p → piece_on p s ≡ man p.turn Pawn → Attacks p.placement s t
    → is_pawn_hit p.turn s t ≡ true
pawn_attack p s t valid e w =
    let occupied = set_of is_occupied p.placement in
    let attack = sym (attacks_agree p.placement occupied s t valid.placement.full refl) ∙ attacks_from p.placement s t w in
    rw e at attack

-- a legal capture en passant is a pawn's that attacks the target
pub legal_taker : (p : Parts) (s t : ℕ) → IsPosition p → LegalEnPassant p (capture s t) → is_taker p s t ≡ true
legal_taker p s t valid h =
    let w = at_target p (capture s t) h.takes in
    let target : IsTarget p.placement p.turn t = valid.target t w.target in
    let pawn = is_holds p.turn Pawn (piece_on p s) w.pawn in
    let hit : is_pawn_hit p.turn s t ≡ true =
    elim h.legal.goes [
      | inl r ↦ elim r.goes [
        | inl v ↦ absurd (v.officer (one_kind p.turn p.turn v.kind Pawn (sym v.mover ∙ w.pawn)))
        | inr v ↦ elim v.way [
          | inl x ↦ absurd (both_ways (same_file s t) w.file x.file)
          | inr (inl x) ↦ absurd (both_ways (same_file s t) w.file (twice_file p.turn s t x.first x.goal))
          | inr (inr x) ↦ pawn_attack p s t valid w.pawn x.attack
        ]
      ]
      | inr r ↦ absurd (let k = one_kind p.turn p.turn King Pawn (sym r.king ∙ w.pawn) in let f : King ≡ Pawn = k in cc)
    ] in
    and_from (is_pawn_hit p.turn s t) (holds p.turn Pawn (piece_on p s)) hit pawn
