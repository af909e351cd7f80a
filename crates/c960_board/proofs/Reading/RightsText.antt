-- What a text of rights says of each letter, and that it says it in one way.
use Rattle.std.proofs.Common.{◌≡◌, ◌≢◌, ℕ, ◌+◌, ◌<◌, ◌≤◌, Bool, true, false, List, [], ◌∷◌, Option, Some, None, length, get_or, take, refl, sym, ap, subst, ◌∙◌, arith, inl, inr, cond, eq-eqb}
use Rattle.std.specs.Prelude.{◌==◌, MatchOption}
use Rattle.std.proofs.lemmas.List.{ext_get_or}
use Rattle.std.proofs.lemmas.List.Sums.{sum_by_more, sum_by-take-le}
use Rattle.c960_board.specs.declared.piece.Colour.{Colour}
use Rattle.c960_board.specs.declared.piece.Colour.TheVariants.{White, Black}
use Rattle.c960_board.specs.declared.rights.CastlingRights.{CastlingRights}
use Rattle.c960_board.specs.Pieces.{Cell}
use Rattle.c960_board.specs.Cells.{has_right}
use Rattle.c960_board.specs.Fen.Letters.{right_letter, dash}
use Rattle.c960_board.specs.Fen.Rights.{IsRightLetter, times, once, SpellsRights, IsRightsField}
use Rattle.c960_board.specs.Fen.Reading.{NamesRights}

-- `once` is at most one
once-le : (x : Bool) → once x ≤ 1
once-le true = omega arith
once-le false = omega arith

-- `once` determines whether
once_is : (x y : Bool) → once x ≡ once y → x ≡ y
once_is true true e = refl
once_is true false e = absurd (omega arith)
once_is false true e = absurd (omega arith)
once_is false false e = refl

-- one byte more
times_more : (b : ℕ) (text : List ℕ) (i : ℕ) → i < length text →
    times b (take (i + 1) text) ≡ times b (take i text) + cond (get_or text i 0 == b) 1 0
times_more b text i l = sum_by_more (λ x. cond (x == b) 1 0) text i 0 l

-- A text of letters so far: each right that is held has its letter once.
pub record SpellsSoFar (text : List ℕ) (i : ℕ) (r : CastlingRights) : Type 0 where
  pub letters : (k : ℕ) → k < i → IsRightLetter (get_or text k 0)
  pub each : (c : Colour) (f : ℕ) → f < 8 → times (right_letter c f) (take i text) ≡ once (has_right r c f)

-- a letter that occurs twice names no rights
pub letter_again : (text : List ℕ) (i : ℕ) (r : CastlingRights) (c : Colour) (f : ℕ) → SpellsSoFar text i r →
    i < length text → f < 8 → get_or text i 0 ≡ right_letter c f → has_right r c f ≡ true →
    (s : CastlingRights) → SpellsRights text s → ⊥
letter_again text i r c f so l m e held s spelt =
    let before : times (right_letter c f) (take i text) ≡ 1 = so.each c f m ∙ ap once held in
    let more : times (right_letter c f) (take (i + 1) text) ≡ times (right_letter c f) (take i text) + 1 =
    times_more (right_letter c f) text i l
    ∙ ap (λ (b : Bool). times (right_letter c f) (take i text) + cond b 1 0)
    (eq-eqb (get_or text i 0) (right_letter c f) e) in
    let within : times (right_letter c f) (take (i + 1) text) ≤ times (right_letter c f) text =
    sum_by-take-le (λ x. cond (x == right_letter c f) 1 0) text (i + 1) in
    let one : times (right_letter c f) text ≡ once (has_right s c f) = spelt.each c f m in
    let least = once-le (has_right s c f) in
    omega arith

-- a dash is not a letter
no_dash : (c : Colour) (f : ℕ) → 45 ≡ right_letter c f → ⊥
no_dash White f e = omega arith
no_dash Black f e = omega arith

-- a dash spells no rights
dash_is_none : (text : List ℕ) (r : CastlingRights) → text ≡ dash → SpellsRights text r → ⊥
dash_is_none text r e spelt =
    let here : SpellsRights (45 ∷ []) r = subst (λ (t : List ℕ). SpellsRights t r) e spelt in
    let letter : IsRightLetter 45 = here.letters 0 (omega arith) in
    no_dash letter.colour letter.file letter.letter

-- a text that is not a dash names rights by their letters
pub named_by_letters : (x : Option CastlingRights) (text : List ℕ) → text ≢ dash →
    MatchOption x ((r : CastlingRights) → SpellsRights text r → ⊥) (λ r. SpellsRights text r) → MatchOption x
    ((r : CastlingRights) → NamesRights text r → ⊥) (λ r. NamesRights text r)
named_by_letters None text ne h = λ r named. elim named [ inl d ↦ ne d.is_dash | inr s ↦ h r s ]
named_by_letters (Some r) text ne h = inr h

-- a text names each right in one way
same_right : (text : List ℕ) (r s : CastlingRights) → NamesRights text r → NamesRights text s → (c : Colour) (f : ℕ) →
    f < 8 → has_right r c f ≡ has_right s c f
same_right text r s (inl x) (inl y) c f l = x.none c f ∙ sym (y.none c f)
same_right text r s (inl x) (inr y) c f l = absurd (dash_is_none text s x.is_dash y)
same_right text r s (inr x) (inl y) c f l = absurd (dash_is_none text r y.is_dash x)
same_right text r s (inr x) (inr y) c f l =
    once_is (has_right r c f) (has_right s c f) (sym (x.each c f l) ∙ y.each c f l)

-- both sides have eight files
pub record HaveFiles (r : CastlingRights) : Type 0 where
  pub white : length r.white ≡ 8
  pub black : length r.black ≡ 8

-- rights are equal if those of each side are
rights_is : (r s : CastlingRights) → r.white ≡ s.white → r.black ≡ s.black → r ≡ s
rights_is r s a b = rw (a, b) refl

-- a text names its rights in one way
pub same_rights : (text : List ℕ) (r s : CastlingRights) → NamesRights text r → NamesRights text s → HaveFiles r →
    HaveFiles s → r ≡ s
same_rights text r s x y p q =
    let a = p.white in
    let b = q.white in
    let c = p.black in
    let d = q.black in
    rights_is r s
    (ext_get_or false r.white s.white (omega arith) (λ i l. same_right text r s x y White i (omega arith)))
    (ext_get_or false r.black s.black (omega arith) (λ i l. same_right text r s x y Black i (omega arith)))

-- rights that fit have eight files a side
pub files_of : (cells : List Cell) (text : List ℕ) (r : CastlingRights) → IsRightsField cells text r → HaveFiles r
files_of cells text r field = record { white = (field.rights White).width; black = (field.rights Black).width }

-- a field names its rights in one way
pub same_rights_field : (cells : List Cell) (text : List ℕ) (r s : CastlingRights) → IsRightsField cells text r →
    IsRightsField cells text s → r ≡ s
same_rights_field cells text r s x y =
    same_rights text r s x.spelt y.spelt (files_of cells text r x) (files_of cells text s y)
