-- What is read of a front of a file of lines, with zeros behind it.
use Rattle.std.proofs.Common.{refl, ◌≡◌, ℕ, zero, suc, ◌+◌, ◌-◌, ◌<◌, ◌≤◌, Bool, true, List, [], ◌∷◌, ◌++◌, length, take, ◌∙◌, ap, arith, append_assoc, length-append, inl, inr}
use Rattle.std.specs.Prelude.{◌&&◌, replicate}
use Rattle.std.proofs.lemmas.List.{take-append-le}
use Rattle.std.proofs.lemmas.Bool.{cases_lt}
use Rattle.std.proofs.lemmas.List.Folds.{list_all-append}
use Rattle.std.proofs.Math.Seq.{take-append-add}
use Rattle.chained_lines.specs.Left.{IsLeft, ReadsBack}
use Rattle.chained_lines.specs.Lines.{Line, are_lines, bytes_of, file_of, has_no_feed, is_no_feed, read_lines, seal_after}
use Rattle.chained_lines.proofs.Whole.{line_first, read_none, text_no_feed, whole_text}

pub zeros_no_feed : (n : ℕ) → has_no_feed (replicate n 0) ≡ true
zeros_no_feed zero = refl
zeros_no_feed (suc n) = zeros_no_feed n

front_no_feed : (n : ℕ) (text : List ℕ) → has_no_feed text ≡ true → has_no_feed (take n text) ≡ true
front_no_feed zero text ok = refl
front_no_feed (suc n) [] ok = refl
front_no_feed (suc n) (b ∷ text) ok =
    let rest = front_no_feed n text (grind (arith, ok)) in
    grind (arith, ok, rest)

-- a part of a line, and then zeros
pub part_no_feed : (before : List ℕ) (l : Line) (n z : ℕ) → has_no_feed l.body ≡ true → has_no_feed (take n (whole_text before l) ++ replicate z 0) ≡ true
part_no_feed before l n z ok =
    let part = front_no_feed n (whole_text before l) (text_no_feed before l ok) in
    list_all-append is_no_feed (take n (whole_text before l)) (replicate z 0) ∙ ap (λ (b : Bool). b && has_no_feed (replicate z 0)) part ∙ zeros_no_feed z

part_none : (before : List ℕ) (l : Line) (n z : ℕ) → has_no_feed l.body ≡ true → n ≤ length (whole_text before l)
    → read_lines before (take n (whole_text before l) ++ replicate z 0) ≡ []
part_none before l n z ok le = read_none before [] (take n (whole_text before l) ++ replicate z 0) (part_no_feed before l n z ok)

-- a front of so many bytes is read as so many lines: all that are whole within it
abbrev pub Fronts : List ℕ → List Line → ℕ → List Line → Type 0
Fronts before ls n read = (m : ℕ) × (read ≡ take m ls) × ((j : ℕ) → j ≤ length ls → length (file_of before (take j ls)) ≤ n → j ≤ m)

cut : (before : List ℕ) (ls : List Line) (n z : ℕ) → are_lines ls ≡ true → Fronts before ls n (read_lines before (take n (file_of before ls) ++ replicate z 0))
unfolding file_of
cut before [] n z ok = (0, nothing n, λ j le _. le)
  where
    nothing : (n : ℕ) → read_lines before (take n [] ++ replicate z 0) ≡ []
    nothing zero = read_none before [] (replicate z 0) (zeros_no_feed z)
    nothing (suc n) = read_none before [] (replicate z 0) (zeros_no_feed z)
cut before (l ∷ ls) n z ok =
    let this : has_no_feed l.body ≡ true = grind (arith, ok) in
    let others : are_lines ls ≡ true = grind (arith, ok) in
    let rest = cut (seal_after before l) ls (n - length (bytes_of before l)) z others in
    elim (cases_lt n (length (bytes_of before l))) [ inl lt ↦ within this lt | inr ge ↦ past this rest ge ]
  where
    line : List ℕ
    line = bytes_of before l

    more : List ℕ
    more = file_of (seal_after before l) ls

    size : length line ≡ length (whole_text before l) + 1
    size = length-append (whole_text before l) (10 ∷ [])

    -- its end lies within the first line
    within : has_no_feed l.body ≡ true → n < length line → Fronts before (l ∷ ls) n (read_lines before (take n (line ++ more) ++ replicate z 0))
    within this lt =
        let short : n ≤ length (whole_text before l) = omega (arith, size, lt) in
        let front : take n (line ++ more) ≡ take n (whole_text before l) =
        take-append-le n line more (omega (arith, lt)) ∙ take-append-le n (whole_text before l) (10 ∷ []) short in
        let none = ap (λ (t : List ℕ). read_lines before (t ++ replicate z 0)) front ∙ part_none before l n z this short in
        (0, none, few)
      where
        few : (j : ℕ) → j ≤ length (l ∷ ls) → length (file_of before (take j (l ∷ ls))) ≤ n → j ≤ 0
        few zero le fits = omega arith
        few (suc j) le fits =
            let two = length-append line (file_of (seal_after before l) (take j ls)) in
            absurd (omega (arith, two, fits, lt))

    -- or behind it
    past : has_no_feed l.body ≡ true → Fronts (seal_after before l) ls (n - length line) (read_lines (seal_after before l) (take (n - length line) more ++ replicate z 0))
        → length line ≤ n → Fronts before (l ∷ ls) n (read_lines before (take n (line ++ more) ++ replicate z 0))
    past this rest ge =
        let so : n ≡ length line + (n - length line) = omega (arith, ge) in
        let front : take n (line ++ more) ≡ line ++ take (n - length line) more = ap (λ (k : ℕ). take k (line ++ more)) so ∙ take-append-add line more (n - length line) in
        let whole : take n (line ++ more) ++ replicate z 0 ≡ line ++ (take (n - length line) more ++ replicate z 0) =
        ap (λ (t : List ℕ). t ++ replicate z 0) front ∙ append_assoc line (take (n - length line) more) (replicate z 0) in
        let first = ap (λ (t : List ℕ). read_lines before t) whole ∙ line_first before l this (take (n - length line) more ++ replicate z 0)
        ∙ ap (λ (t : List Line). l ∷ t) rest.1 in
        (suc rest.0, first, all rest.0 rest.2)
      where
        all : (m : ℕ) → ((j : ℕ) → j ≤ length ls → length (file_of (seal_after before l) (take j ls)) ≤ n - length line → j ≤ m)
            → (j : ℕ) → j ≤ length (l ∷ ls) → length (file_of before (take j (l ∷ ls))) ≤ n → j ≤ suc m
        all m fewer zero le fits = omega arith
        all m fewer (suc j) le fits =
            let two = length-append line (file_of (seal_after before l) (take j ls)) in
            let one_less = fewer j (omega (arith, le)) (omega (arith, two, fits)) in
            omega (arith, one_less)

pub left_reads_back : (before : List ℕ) (ls : List Line) (synced : ℕ) (left : List ℕ) → are_lines ls ≡ true → IsLeft (file_of before ls) synced left
    → ReadsBack before ls synced (read_lines before left)
left_reads_back before ls synced left ok is =
    let read = cut before ls is.front is.zeros ok in
    record {
      count = read.0;
      front = ap (λ (t : List ℕ). read_lines before t) is.bytes ∙ read.1;
      at_least = λ n le fits. read.2 n le (omega (arith, fits, is.at_least));
    }
