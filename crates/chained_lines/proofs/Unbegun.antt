-- What a crash leaves behind whole lines has no line feed, so no line that begins a write.
use Rattle.std.proofs.Common.{refl, ◌≡◌, ℕ, zero, suc, ◌+◌, ◌-◌, ◌<◌, ◌≤◌, Bool, true, List, [], ◌∷◌, ◌++◌, length, take, ◌∙◌, sym, ap, arith, append_assoc, length-append, inl, inr}
use Rattle.std.specs.Prelude.{◌&&◌, replicate, None}
use Rattle.std.proofs.lemmas.Bool.{cases_lt}
use Rattle.std.proofs.lemmas.List.{append-nil, append_cancel_left, take-append-le}
use Rattle.std.proofs.Math.Seq.{take-append-add}
use Rattle.chained_lines.specs.Later.{later_write}
use Rattle.chained_lines.specs.Left.{IsLeft}
use Rattle.chained_lines.specs.Lines.{Line, are_lines, bytes_of, file_of, has_no_feed, last_seal, read_lines, seal_after}
use Rattle.chained_lines.proofs.Search.{search_none}
use Rattle.chained_lines.proofs.Torn.{part_no_feed, zeros_no_feed}
use Rattle.chained_lines.proofs.Whole.{read_none, whole_first, whole_text}

-- these bytes are whole lines, and behind them a part of one
record Parts (before bytes : List ℕ) : Type 0 where
  whole : List Line
  part : List ℕ
  are : are_lines whole ≡ true
  is : bytes ≡ file_of before whole ++ part
  no_feed : has_no_feed part ≡ true

parts : (before : List ℕ) (ls : List Line) (n z : ℕ) → are_lines ls ≡ true → Parts before (take n (file_of before ls) ++ replicate z 0)
unfolding file_of
parts before [] n z ok = record { whole = []; part = take n [] ++ replicate z 0; are = refl; is = refl; no_feed = nothing n }
  where
    nothing : (n : ℕ) → has_no_feed (take n [] ++ replicate z 0) ≡ true
    nothing zero = zeros_no_feed z
    nothing (suc n) = zeros_no_feed z
parts before (l ∷ ls) n z ok =
    let this : has_no_feed l.body ≡ true = grind (arith, ok) in
    let others : are_lines ls ≡ true = grind (arith, ok) in
    let rest = parts (seal_after before l) ls (n - length (bytes_of before l)) z others in
    elim (cases_lt n (length (bytes_of before l))) [ inl lt ↦ within this lt | inr ge ↦ past this rest ge ]
  where
    line : List ℕ
    line = bytes_of before l

    more : List ℕ
    more = file_of (seal_after before l) ls

    within : has_no_feed l.body ≡ true → n < length line → Parts before (take n (line ++ more) ++ replicate z 0)
    within this lt =
        let size : length line ≡ length (whole_text before l) + 1 = length-append (whole_text before l) (10 ∷ []) in
        let front : take n (line ++ more) ≡ take n (whole_text before l) =
        take-append-le n line more (omega (arith, lt)) ∙ take-append-le n (whole_text before l) (10 ∷ []) (omega (arith, size, lt)) in
        record {
          whole = [];
          part = take n (line ++ more) ++ replicate z 0;
          are = refl;
          is = refl;
          no_feed = ap (λ (t : List ℕ). has_no_feed (t ++ replicate z 0)) front ∙ part_no_feed before l n z this;
        }

    past : has_no_feed l.body ≡ true → Parts (seal_after before l) (take (n - length line) more ++ replicate z 0) → length line ≤ n
        → Parts before (take n (line ++ more) ++ replicate z 0)
    past this rest ge =
        let so : n ≡ length line + (n - length line) = omega (arith, ge) in
        let front : take n (line ++ more) ≡ line ++ take (n - length line) more =
        ap (λ (k : ℕ). take k (line ++ more)) so ∙ take-append-add line more (n - length line) in
        record {
          whole = l ∷ rest.whole;
          part = rest.part;
          are = ap (λ (b : Bool). b && are_lines rest.whole) this ∙ rest.are;
          is = ap (λ (t : List ℕ). t ++ replicate z 0) front ∙ append_assoc line (take (n - length line) more) (replicate z 0)
              ∙ ap (λ (t : List ℕ). line ++ t) rest.is ∙ sym (append_assoc line (file_of (seal_after before l) rest.whole) rest.part);
          no_feed = rest.no_feed;
        }

pub left_begins_nothing : (before : List ℕ) (ls : List Line) (synced : ℕ) (left rest : List ℕ) → are_lines ls ≡ true
    → IsLeft (file_of before ls) synced left → left ≡ file_of before (read_lines before left) ++ rest → later_write rest ≡ None
left_begins_nothing before ls synced left rest ok is stands =
    let cut = parts before ls is.front is.zeros ok in
    let whole : left ≡ file_of before cut.whole ++ cut.part = is.bytes ∙ cut.is in
    let read : read_lines before left ≡ cut.whole =
    ap (λ (t : List ℕ). read_lines before t) whole ∙ whole_first before cut.whole cut.part cut.are
    ∙ ap (λ (t : List Line). cut.whole ++ t) (read_none (last_seal before cut.whole) [] cut.part cut.no_feed) ∙ append-nil cut.whole in
    let same = sym stands ∙ whole in
    let is_rest : rest ≡ cut.part =
    append_cancel_left (file_of before cut.whole) rest cut.part (ap (λ (t : List Line). file_of before t ++ rest) (sym read) ∙ same) in
    search_none 0 0 rest (ap has_no_feed is_rest ∙ cut.no_feed)
