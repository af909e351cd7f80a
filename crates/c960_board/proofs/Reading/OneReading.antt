-- No text belongs to two positions, none has two faults, and none has a fault and a position.
use Rattle.std.proofs.Common.{◌≡◌, ◌≢◌, ℕ, ◌+◌, ◌/◌, ◌%◌, ◌<◌, ◌≤◌, List, [], ◌∷◌, Option, Some, None, Result, Ok, Err, refl, sym, ap, subst, ◌∙◌, arith, inl, inr}
use Rattle.std.specs.Prelude.{◌⊎◌, MatchResult}
use Rattle.std.proofs.lemmas.Bool.{cases_lt}
use Rattle.c960_board.specs.declared.piece.Colour.{Colour}
use Rattle.c960_board.specs.declared.piece.Colour.TheVariants.{White, Black}
use Rattle.c960_board.specs.declared.rights.CastlingRights.{CastlingRights}
use Rattle.c960_board.specs.declared.parts.Parts.{Parts}
use Rattle.c960_board.specs.declared.fen.fault.FenFault.{FenFault}
use Rattle.c960_board.specs.declared.fen.fault.FenFault.TheVariants.{Fields, Placement, Turn, Castling, EnPassant, Counters}
use Rattle.c960_board.specs.Pieces.{Cell}
use Rattle.c960_board.specs.Fen.Letters.{turn_text}
use Rattle.c960_board.specs.Fen.Fields.{Six, IsSix}
use Rattle.c960_board.specs.Fen.Placement.{IsPlacementField}
use Rattle.c960_board.specs.Fen.Rights.{IsRightsField}
use Rattle.c960_board.specs.Fen.Target.{IsTargetField, target_text}
use Rattle.c960_board.specs.Fen.Text.{Spells, FenText}
use Rattle.c960_board.specs.Fen.Faults.{fen_fault_code, FaultIn, IsFault}
use Rattle.c960_board.proofs.Reading.SixFields.{same_six}
use Rattle.c960_board.proofs.Reading.RanksText.{same_ranks}
use Rattle.c960_board.proofs.Reading.RightsText.{same_rights_field}
use Rattle.c960_board.proofs.Reading.Counters.{same_counters}

-- texts of one byte differ if their bytes do
other_letter : (a b : ℕ) → a ≢ b → a ∷ [] ≡ b ∷ [] → ⊥
other_letter a b ne e = ne (cc)

-- a text names one side
pub same_turn : (a b : Colour) → turn_text a ≡ turn_text b → a ≡ b
same_turn White White e = refl
same_turn White Black e = absurd (other_letter 119 98 (omega arith) e)
same_turn Black White e = absurd (other_letter 98 119 (omega arith) e)
same_turn Black Black e = refl

-- a text names one target
pub same_target : (a b : Option ℕ) → target_text a ≡ target_text b → a ≡ b
same_target None None e = refl
same_target None (Some t) e = absurd cc
same_target (Some s) None e = absurd cc
same_target (Some s) (Some t) e =
    let file : 97 + s % 8 ≡ 97 + t % 8 = cc in
    let rank : 49 + s / 8 ≡ 49 + t / 8 = cc in
    let same : s ≡ t = omega arith in
    ap (λ (x : ℕ). Some x) same

-- a field belongs to one placement
pub same_placement : (text : List ℕ) (x y : List Cell) → IsPlacementField text x → IsPlacementField text y → x ≡ y
same_placement text x y a b = same_ranks 7 text x y a.ranks b.ranks

-- parts are equal if each one is
same_parts : (p q : Parts) → p.placement ≡ q.placement → p.turn ≡ q.turn → p.rights ≡ q.rights → p.target ≡ q.target →
    p.half_moves ≡ q.half_moves → p.number ≡ q.number → p ≡ q
same_parts p q a b c d e f = rw (a, b, c, d, e, f) refl

-- rights that fit a placement fit the only placement of the field
pub rights_at : (f : Six) (x y : List Cell) (r : CastlingRights) → IsPlacementField f.placement x →
    IsPlacementField f.placement y → IsRightsField x f.rights r → IsRightsField y f.rights r
rights_at f x y r a b h = subst (λ (z : List Cell). IsRightsField z f.rights r) (same_placement f.placement x y a b) h

-- a target that fits a placement and a side fits the only ones of the fields
pub target_at : (f : Six) (x y : List Cell) (c d : Colour) (t : Option ℕ) → IsPlacementField f.placement x →
    IsPlacementField f.placement y → f.turn ≡ turn_text c → f.turn ≡ turn_text d →
    IsTargetField x c f.target t → IsTargetField y d f.target t
target_at f x y c d t a b m n h =
    subst (λ (e : Colour). IsTargetField y e f.target t) (same_turn c d (sym m ∙ n))
    (subst (λ (z : List Cell). IsTargetField z c f.target t) (same_placement f.placement x y a b) h)

-- six fields spell one position
same_spelt : (f : Six) (p q : Parts) → Spells f p → Spells f q → p ≡ q
same_spelt f p q x y =
    let rights = rights_at f q.placement p.placement q.rights y.placement x.placement y.rights in
    let numbers =
    same_counters f.half_moves f.number p.half_moves p.number q.half_moves q.number x.counters y.counters in
    same_parts p q (same_placement f.placement p.placement q.placement x.placement y.placement)
    (same_turn p.turn q.turn (sym x.turn ∙ y.turn))
    (same_rights_field p.placement f.rights p.rights q.rights x.rights rights)
    (same_target p.target q.target (sym x.target.spelt ∙ y.target.spelt))
    numbers.0 numbers.1

-- no text belongs to two positions
pub one_position : (text : List ℕ) (p q : Parts) → FenText p text → FenText q text → p ≡ q
one_position text p q x y =
    let same = same_six x.fields y.fields text x.six y.six in
    same_spelt y.fields p q (subst (λ (f : Six). Spells f p) same x.spelt) y.spelt

-- fields that spell a position have no fault
no_fault_in : (f : Six) (e : FenFault) (p : Parts) → Spells f p → FaultIn e f → ⊥
no_fault_in f Fields p s h = h
no_fault_in f Placement p s h = h p.placement s.placement
no_fault_in f Turn p s h = h.2 p.turn s.turn
no_fault_in f Castling p s h = h.4 p.rights (rights_at f p.placement h.0 p.rights s.placement h.2 s.rights)
no_fault_in f EnPassant p s h =
    h.6 p.target (target_at f p.placement h.0 p.turn h.1 p.target s.placement h.3 s.turn h.4 s.target)
no_fault_in f Counters p s h = h.8 p.half_moves p.number s.counters

-- a fault in one of six fields
pub record IsInField (e : FenFault) (text : List ℕ) : Type 0 where
  pub fields : Six
  pub six : IsSix fields text
  pub fault : FaultIn e fields

-- the text is not six fields, or the fault is in one of them
in_field : (e : FenFault) (text : List ℕ) → IsFault e text → (e ≡ Fields) ⊎ IsInField e text
in_field Fields text h = inl refl
in_field Placement text h = inr (record { fields = h.0; six = h.1; fault = h.2 })
in_field Turn text h = inr (record { fields = h.0; six = h.1; fault = h.2 })
in_field Castling text h = inr (record { fields = h.0; six = h.1; fault = h.2 })
in_field EnPassant text h = inr (record { fields = h.0; six = h.1; fault = h.2 })
in_field Counters text h = inr (record { fields = h.0; six = h.1; fault = h.2 })

-- a text with the first fault is not six fields
no_six : (e : FenFault) (text : List ℕ) → e ≡ Fields → IsFault e text → (f : Six) → IsSix f text → ⊥
no_six e text is h =
    let here : IsFault Fields text = subst (λ (d : FenFault). IsFault d text) is h in
    here

-- no text has a fault and a position
pub no_fault : (text : List ℕ) (e : FenFault) (p : Parts) → FenText p text → IsFault e text → ⊥
no_fault text e p t h =
    elim (in_field e text h) [
      | inl is ↦ no_six e text is h t.fields t.six
      | inr x ↦ no_fault_in t.fields e p t.spelt
          (subst (FaultIn e) (same_six x.fields t.fields text x.six t.six) x.fault)
    ]

-- there are six codes
fen_fault_code-le : (e : FenFault) → fen_fault_code e ≤ 6
fen_fault_code-le Fields = omega arith
fen_fault_code-le Placement = omega arith
fen_fault_code-le Turn = omega arith
fen_fault_code-le Castling = omega arith
fen_fault_code-le EnPassant = omega arith
fen_fault_code-le Counters = omega arith

-- of two faults in different fields, one is in an earlier field than the other, and that field has no fault
one_before : (f : Six) (d e : FenFault) → FaultIn d f → FaultIn e f → fen_fault_code d < fen_fault_code e → ⊥
one_before f Fields e x y l = x
one_before f Placement Turn x y l = x y.0 y.1
one_before f Placement Castling x y l = x y.0 y.2
one_before f Placement EnPassant x y l = x y.0 y.3
one_before f Placement Counters x y l = x y.0 y.4
one_before f Turn Castling x y l = x.2 y.1 y.3
one_before f Turn EnPassant x y l = x.2 y.1 y.4
one_before f Turn Counters x y l = x.2 y.1 y.5
one_before f Castling EnPassant x y l = x.4 y.2 (rights_at f y.0 x.0 y.2 y.3 x.2 y.5)
one_before f Castling Counters x y l = x.4 y.2 (rights_at f y.0 x.0 y.2 y.4 x.2 y.6)
one_before f EnPassant Counters x y l = x.6 y.3 (target_at f y.0 x.0 y.1 x.1 y.3 y.4 x.3 y.5 x.4 y.7)
one_before f d e x y l = absurd (omega (arith, fen_fault_code-le e))

-- the code determines the fault
same_code : (d e : FenFault) → fen_fault_code d ≡ fen_fault_code e → d ≡ e
same_code Fields Fields h = refl
same_code Placement Placement h = refl
same_code Turn Turn h = refl
same_code Castling Castling h = refl
same_code EnPassant EnPassant h = refl
same_code Counters Counters h = refl
same_code d e h = absurd (omega arith)

-- six fields have one fault
one_in : (f : Six) (d e : FenFault) → FaultIn d f → FaultIn e f → d ≡ e
one_in f d e x y =
    elim (cases_lt (fen_fault_code d) (fen_fault_code e)) [
      | inl l ↦ absurd (one_before f d e x y l)
      | inr m ↦
          elim (cases_lt (fen_fault_code e) (fen_fault_code d)) [
            | inl l ↦ absurd (one_before f e d y x l)
            | inr l ↦ same_code d e (omega arith)
          ]
    ]

-- no text has two faults
pub one_fault : (text : List ℕ) (d e : FenFault) → IsFault d text → IsFault e text → d ≡ e
one_fault text d e x y =
    elim (in_field d text x) [
      | inl a ↦
          elim (in_field e text y) [
            | inl b ↦ a ∙ sym b
            | inr b ↦ absurd (no_six d text a x b.fields b.six)
          ]
      | inr a ↦
          elim (in_field e text y) [
            | inl b ↦ absurd (no_six e text b y a.fields a.six)
            | inr b ↦ one_in b.fields d e (subst (FaultIn d) (same_six a.fields b.fields text a.six b.six) a.fault)
                b.fault
          ]
    ]

-- a fault of the fields is a fault of their text
fault_of : (text : List ℕ) (f : Six) (e : FenFault) → IsSix f text → FaultIn e f → IsFault e text
fault_of text f Fields six h = absurd h
fault_of text f Placement six h = (f, six, h)
fault_of text f Turn six h = (f, six, h)
fault_of text f Castling six h = (f, six, h)
fault_of text f EnPassant six h = (f, six, h)
fault_of text f Counters six h = (f, six, h)

-- what is read from the six fields is read from their text
pub answer_of : (text : List ℕ) (f : Six) (r : Result Parts FenFault) → IsSix f text →
    MatchResult r (λ p. Spells f p) (λ e. FaultIn e f) → MatchResult r (λ p. FenText p text) (λ e. IsFault e text)
answer_of text f (Ok p) six h = record { fields = f; six = six; spelt = h }
answer_of text f (Err e) six h = fault_of text f e six h

-- an answer is the only position
pub only_position : (text : List ℕ) (r : Result Parts FenFault) →
    MatchResult r (λ p. FenText p text) (λ e. IsFault e text) → (p : Parts) → FenText p text → r ≡ Ok p
only_position text (Ok q) h p t = ap (λ (x : Parts). Ok x) (one_position text q p h t)
only_position text (Err e) h p t = absurd (no_fault text e p t h)

-- an answer is the only fault
pub only_fault : (text : List ℕ) (r : Result Parts FenFault) →
    MatchResult r (λ p. FenText p text) (λ e. IsFault e text) → (e : FenFault) → IsFault e text → r ≡ Err e
only_fault text (Ok p) h e f = absurd (no_fault text e p h f)
only_fault text (Err d) h e f = ap (λ (x : FenFault). Err x) (one_fault text d e h f)
