-- A side holds at most two rights: one on each side of its king.
use Rattle.std.proofs.Common.{◌≡◌, ℕ, zero, suc, ◌+◌, ◌<◌, ◌≤◌, Bool, true, false, cond, List, [], ◌∷◌, length, get_or, None, refl, sym, ap, ◌∙◌, arith, inl, inr, IsTrue}
use Rattle.std.specs.Prelude.{count_by}
use Rattle.std.proofs.lemmas.Bool.{cases_lt, lt-ltb, le-ltb}
use Rattle.std.proofs.lemmas.List.Sums.{sum_by-cons}
use Rattle.c960_board.specs.declared.piece.Colour.{Colour}
use Rattle.c960_board.specs.declared.piece.Kind.TheVariants.{King}
use Rattle.c960_board.specs.declared.rights.CastlingRights.{CastlingRights}
use Rattle.c960_board.specs.Squares.{file_of}
use Rattle.c960_board.specs.Pieces.{Cell, man, holds}
use Rattle.c960_board.specs.Position.{IsPlacement, AreRights}
use Rattle.c960_board.specs.Cells.{cell_at, has_right}
use Rattle.c960_board.specs.Fen.Letters.{right_letter}
use Rattle.c960_board.specs.Fen.Canonical.{side_text}
use Rattle.c960_board.proofs.lemmas.SetFacts.{man_says}

-- ---- the king's square

-- a king that is counted is somewhere
some_place : (c : Colour) (cells : List Cell) → 0 < count_by (holds c King) cells
    → (s : ℕ) × (s < length cells) × (get_or cells s None ≡ man c King)
some_place c [] l = absurd (omega arith)
some_place c (x ∷ xs) l =
    elim (holds c King x) as (λ (b : Bool). holds c King x ≡ b → (s : ℕ) × (s < length (x ∷ xs)) × (get_or (x ∷ xs) s None ≡ man c King)) [
      | true ↦ λ e. (0, omega arith, (man_says c King x).0 e)
      | false ↦ λ e.
          let step : count_by (holds c King) (x ∷ xs) ≡ cond {A = ℕ} (holds c King x) 1 0 + count_by (holds c King) xs =
          sum_by-cons (λ y. cond (holds c King y) 1 0) x xs in
          let none : cond {A = ℕ} (holds c King x) 1 0 ≡ 0 = ap (λ (b : Bool). cond {A = ℕ} b 1 0) e in
          let rest = some_place c xs (omega arith) in
          (suc rest.0, omega (arith, rest.1), rest.2)
    ] refl

-- a side's king is on the board
pub king_stands : (cells : List Cell) (c : Colour) → IsPlacement cells
    → (s : ℕ) × (s < 64) × (cell_at cells s ≡ man c King)
king_stands cells c p =
    let one = p.one_king c in
    let full = p.full in
    let found = some_place c cells (omega arith) in
    (found.0, omega (arith, found.1), found.2)

-- ---- at most one on each side of it

-- no right from m on below n
abbrev NoneFrom : CastlingRights → Colour → ℕ → ℕ → Type 0
NoneFrom r c m n = (f : ℕ) → m ≤ f → f < n → IsTrue (has_right r c f) → ⊥

-- if no right is held, nothing is written
none_length : (r : CastlingRights) (c : Colour) (m n : ℕ) → m ≤ n → NoneFrom r c m n
    → length (side_text r c n) ≡ length (side_text r c m)
unfolding side_text
none_length r c m zero l none = let e : m ≡ 0 = omega arith in rw e refl
none_length r c m (suc n) l none =
    elim (cases_lt n m) [
      | inl k ↦ let e : m ≡ suc n = omega arith in rw e refl
      | inr k ↦
          elim (has_right r c n) as (λ (b : Bool). has_right r c n ≡ b → length (cond b (right_letter c n ∷ side_text r c n) (side_text r c n)) ≡ length (side_text r c m)) [
            | true ↦ λ e. absurd (none n k (omega arith) e)
            | false ↦ λ e. none_length r c m n k (λ f a b h. none f a (omega arith) h)
          ] refl
    ]

-- any two rights from m on below n are equal
abbrev OneFrom : CastlingRights → Colour → ℕ → ℕ → Type 0
OneFrom r c m n =
    (f g : ℕ) → m ≤ f → f < n → m ≤ g → g < n → IsTrue (has_right r c f) → IsTrue (has_right r c g) → f ≡ g

-- if at most one right is held, at most one letter is written
one_length : (r : CastlingRights) (c : Colour) (m n : ℕ) → m ≤ n → OneFrom r c m n
    → length (side_text r c n) ≤ length (side_text r c m) + 1
unfolding side_text
one_length r c m zero l one = let e : m ≡ 0 = omega arith in rw e (omega arith)
one_length r c m (suc n) l one =
    elim (cases_lt n m) [
      | inl k ↦ let e : m ≡ suc n = omega arith in rw e (omega arith)
      | inr k ↦
          elim (has_right r c n) as (λ (b : Bool). has_right r c n ≡ b → length (cond b (right_letter c n ∷ side_text r c n) (side_text r c n)) ≤ length (side_text r c m) + 1) [
            | true ↦ λ e.
                let none : NoneFrom r c m n =
                λ f a b h. let same = one f n a (omega arith) k (omega arith) h e in omega arith in
                let rest = none_length r c m n k none in
                omega arith
            | false ↦ λ e. one_length r c m n k (λ f g a b d h p q. one f g a (omega arith) d (omega arith) p q)
          ] refl
    ]

-- a side's rights have at most two letters
pub side_length : (cells : List Cell) (r : CastlingRights) (c : Colour) → IsPlacement cells → AreRights cells r c
    → length (side_text r c 8) ≤ 2
unfolding side_text
side_length cells r c p rights =
    let king = king_stands cells c p in
    let s = king.0 in
    let k = file_of s in
    let on : s < 64 = king.1 in
    let stands : cell_at cells s ≡ man c King = king.2 in
    let below : OneFrom r c 0 k = λ f g a b d h x y.
    rights.one_each_side f g s (omega arith) (omega arith) on x y stands (lt-ltb f k b ∙ sym (lt-ltb g k h)) in
    let above : OneFrom r c k 8 = λ f g a b d h x y.
    rights.one_each_side f g s b h on x y stands (le-ltb f k a ∙ sym (le-ltb g k d)) in
    let first = one_length r c 0 k (omega arith) below in
    let last = one_length r c k 8 (omega arith) above in
    omega arith
