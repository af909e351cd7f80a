-- Committed lines are read after every crash.
use Rattle.std.proofs.Common.{refl, ◌≡◌, ℕ, ◌+◌, ◌-◌, ◌<◌, ◌≤◌, true, List, ◌++◌, length, take, ◌∙◌, ap, arith, length-append, inl, inr}
use Rattle.std.specs.Prelude.{replicate}
use Rattle.std.proofs.lemmas.Bool.{cases_lt}
use Rattle.std.proofs.Math.Seq.{take-append-add}
use Rattle.std.proofs.lemmas.List.{length-take, take_all, take_at, take-take}
use Rattle.chained_lines.specs.Journals.{IsFrontOf}
use Rattle.chained_lines.specs.Left.{IsLeft}
use Rattle.chained_lines.specs.Lines.{Line, are_lines, file_of, no_seal, read_lines}
use Rattle.chained_lines.proofs.Torn.{left_reads_back}

-- a front of a front, and what is synced lies in it
abbrev pub FrontOfFront : ℕ → ℕ → List ℕ → Type 0
FrontOfFront n m bytes = (k : ℕ) × (take n (take m bytes) ≡ take k bytes) × ((s : ℕ) → s ≤ n → s ≤ length (take m bytes) → s ≤ k)

front_of_front : (n m : ℕ) (bytes : List ℕ) → FrontOfFront n m bytes
front_of_front n m bytes = elim (cases_lt m n) [ inl lt ↦ by_all lt | inr ge ↦ (n, take-take n m bytes ge, λ s le _. le) ]
  where
    size : length (take m bytes) ≤ m
    size = omega (arith, length-take m bytes)

    by_all : m < n → FrontOfFront n m bytes
    by_all lt = (m, take_all n (take m bytes) (omega (arith, size, lt)), λ s le within. omega (arith, size, within))

pub committed_lines_stay : (ls more : List Line) (put : List ℕ) (synced : ℕ) (left : List ℕ) → are_lines (ls ++ more) ≡ true → IsFrontOf put (ls ++ more)
    → length (file_of no_seal ls) ≤ synced → synced ≤ length put → IsLeft put synced left
    → (later : ℕ) × (read_lines no_seal left ≡ ls ++ take later more)
committed_lines_stay ls more put synced left ok front kept within is =
    let all = ls ++ more in
    let part = front_of_front is.front front.count (file_of no_seal all) in
    let size = ap length front.front in
    let whole : IsLeft (file_of no_seal all) synced left = record {
      front = part.0;
      at_least = part.2 synced is.at_least (omega (arith, within, size));
      zeros = is.zeros;
      bytes = is.bytes ∙ ap (λ (t : List ℕ). take is.front t ++ replicate is.zeros 0) front.front
          ∙ ap (λ (t : List ℕ). t ++ replicate is.zeros 0) part.1;
    } in
    let read = left_reads_back no_seal all synced left ok whole in
    let mine : take (length ls) all ≡ ls = take_at ls more (length ls) refl in
    let fits = ap (λ (t : List Line). length (file_of no_seal t)) mine in
    let many = read.at_least (length ls) (omega (arith, length-append ls more)) (omega (arith, fits, kept)) in
    let count : read.count ≡ length ls + (read.count - length ls) = omega (arith, many) in
    (read.count - length ls, read.front ∙ ap (λ (n : ℕ). take n all) count ∙ take-append-add ls more (read.count - length ls))
