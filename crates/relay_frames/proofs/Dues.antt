-- What is due of an output.
use Rattle.std.proofs.Common.{◌≡◌, ℕ, ◌+◌, ◌≤◌, ◌++◌, List, length, drop, take, sym, ap, ◌∙◌}
use Rattle.std.proofs.lemmas.List.{drop-append-le, drop-drop, drop-take}
use Rattle.std.proofs.Math.Seq.{take-append_seam}

-- more is put
pub due_more : (w : ℕ) (xs ys frame : List ℕ) → w ≤ length xs → ys ≡ xs ++ frame → drop w ys ≡ drop w xs ++ frame
due_more w xs ys frame within is = rw is (rw drop-append-le)

-- all but the first is taken back
pub due_less : (w n : ℕ) (xs ys : List ℕ) → ys ≡ take (w + n) xs → drop w ys ≡ take n (drop w xs)
due_less w n xs ys is = ap (drop w) is ∙ drop-take w n xs

-- more of it is written
pub due_later : (w n : ℕ) (xs : List ℕ) → drop (w + n) xs ≡ drop n (drop w xs)
due_later w n xs = sym (drop-drop n w xs)

-- what stood before is what is kept of it and of what was put behind it
pub put_behind : (xs ys frame : List ℕ) → ys ≡ xs ++ frame → take (length xs) ys ≡ xs
put_behind xs ys frame is = ap (take (length xs)) is ∙ take-append_seam xs frame
