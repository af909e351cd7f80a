-- Lists of notes, and what a note says after a load.
use Rattle.std.proofs.Common.{◌≡◌, ◌≢◌, ℕ, ◌+◌, ◌-◌, ◌/◌, ◌%◌, ◌<◌, zero, suc, List, [], ◌∷◌, set, get_or, length, sym, refl, ap, ◌∙◌, cond, eqb, eqb-true, arith}
use Rattle.atomic_table.proofs.Lists.{set_here, set_else}
use mathlib.Core.Option.{some, some-injective, some-ne-none}
use lib.ListN.{get_elem?}
use Rattle.live_board.specs.declared.words.TheConstants.{MARK}
use Rattle.live_board.specs.declared.note.Note.{Note}
use Rattle.live_board.specs.declared.note.Note.TheVariants.{Vacant, Open, Closed}
use Rattle.live_board.specs.Words.{joined_noted, note_after}
use Rattle.live_board.proofs.lemmas.Cases.{pick}

pub note_there : (l : List Note) (k : ℕ) → k < length l → (n : Note) × (get_elem? l k ≡ some n)
note_there [] k h = absurd (omega arith)
note_there (x ∷ xs) zero h = (x, refl)
note_there (x ∷ xs) (suc k) h = note_there xs k (omega arith)

pub note_read : (l : List Note) (k : ℕ) (n : Note) → get_elem? l k ≡ some n → get_or l k Vacant ≡ n
note_read [] k n e = absurd (some-ne-none n (sym e))
note_read (x ∷ xs) zero n e = some-injective x n e
note_read (x ∷ xs) (suc k) n e = note_read xs k n e

pub at_within : (l : List Note) (k : ℕ) (n : Note) → get_elem? l k ≡ some n → k < length l
at_within [] k n e = absurd (some-ne-none n (sym e))
at_within (x ∷ xs) zero n e = omega arith
at_within (x ∷ xs) (suc k) n e = omega (arith, at_within xs k n e)

pub same_open : (i j x y : ℕ) → Open i x ≡ Open j y → x ≡ y
same_open i j x y e = cc

pub vacant_open : (j b : ℕ) → Vacant ≡ Open j b → ⊥
vacant_open j b e = cc

pub vacant_closed : (c : ℕ) → Vacant ≡ Closed c → ⊥
vacant_closed c e = cc

pub closed_open : (c j b : ℕ) → Closed c ≡ Open j b → ⊥
closed_open c j b e = cc

-- the word of a cursor that is noted open
pub open_back : (n : Note) (r j b : ℕ) → note_after n r ≡ Open j b → (r / MARK ≡ 1) × (r % MARK ≡ b)
open_back n r j b = pick (λ (x : Note). x ≡ Open j b → (r / MARK ≡ 1) × (r % MARK ≡ b)) (eqb r 0) Vacant (cond (eqb (r / MARK) 1) (Open (joined_noted n) (r % MARK)) (Closed (r / MARK - 2)))
    (λ _ e. absurd (vacant_open j b e))
    (λ _. pick (λ (x : Note). x ≡ Open j b → (r / MARK ≡ 1) × (r % MARK ≡ b)) (eqb (r / MARK) 1) (Open (joined_noted n) (r % MARK)) (Closed (r / MARK - 2))
    (λ q e. (eqb-true (r / MARK) 1 q, same_open (joined_noted n) j (r % MARK) b e))
    (λ _ e. absurd (closed_open (r / MARK - 2) j b e)))

-- ---- A note is set at the cursor k.

pub at_place : (l : List Note) (k : ℕ) (n : Note) → k < length l → get_elem? (set l (k + 2 - 2) n) k ≡ some n
at_place l k n low = let here : k + 2 - 2 ≡ k = omega arith in ap (λ (x : ℕ). get_elem? (set l x n) k) here ∙ set_here l k n low

pub at_other : (l : List Note) (k j : ℕ) (n : Note) → j ≢ k → get_elem? (set l (k + 2 - 2) n) j ≡ get_elem? l j
at_other l k j n ne = let here : k + 2 - 2 ≡ k = omega arith in ap (λ (x : ℕ). get_elem? (set l x n) j) here ∙ set_else l k j n ne
