-- There is one way to cut a text at the first occurrence of a byte.
use Rattle.std.proofs.Common.{◌≡◌, ◌≢◌, ℕ, zero, suc, List, [], ◌∷◌, ◌++◌, refl, arith}
use Rattle.c960_board.specs.Fen.Fields.{Lacks}

-- what a text lacks, its tail lacks
Lacks-tail : (s b : ℕ) (bs : List ℕ) → Lacks s (b ∷ bs) → Lacks s bs
Lacks-tail s b bs h k l = h (suc k) (omega arith)

-- a byte that a text lacks is not its first
Lacks-head : (s b : ℕ) (bs : List ℕ) → Lacks s (b ∷ bs) → b ≢ s
Lacks-head s b bs h = h 0 (omega arith)

-- a byte is lacking if it is not the first and the tail lacks it
pub Lacks-cons : (s b : ℕ) (bs : List ℕ) → b ≢ s → Lacks s bs → Lacks s (b ∷ bs)
Lacks-cons s b bs ne h zero l = ne
Lacks-cons s b bs ne h (suc k) l = h k (omega arith)

-- a text that lacks a byte is not cut at it
pub no_cut : (s : ℕ) (a x : List ℕ) → Lacks s (a ++ s ∷ x) → ⊥
no_cut s [] x h = Lacks-head s s x h refl
no_cut s (b ∷ bs) x h = no_cut s bs x (Lacks-tail s b (bs ++ s ∷ x) h)

-- there is one way to cut a text at the first such byte
pub same_cut : (s : ℕ) (a b x y : List ℕ) → Lacks s a → Lacks s b → a ++ s ∷ x ≡ b ++ s ∷ y → (a ≡ b) × (x ≡ y)
same_cut s [] [] x y p q e = (refl, cc)
same_cut s [] (b ∷ bs) x y p q e = absurd (Lacks-head s b bs q (cc))
same_cut s (a ∷ us) [] x y p q e = absurd (Lacks-head s a us p (cc))
same_cut s (a ∷ us) (b ∷ bs) x y p q e =
    let tails : us ++ s ∷ x ≡ bs ++ s ∷ y = cc in
    let rest = same_cut s us bs x y (Lacks-tail s a us p) (Lacks-tail s b bs q) tails in
    let heads : a ≡ b = cc in
    (let t : us ≡ bs = rest.0 in cc, rest.1)
