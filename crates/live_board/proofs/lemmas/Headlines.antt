-- What a follower has taken is a stretch of the log.
use Rattle.std.proofs.Common.{◌≡◌, ℕ, ◌+◌, ◌≤◌, List, ◌++◌, length, take, drop, Option, refl, sym, ap, ◌∙◌, arith, length-drop}
use Rattle.std.proofs.Math.Seq.{take-append_seam, drop-append_seam}
use Rattle.std.proofs.lemmas.List.{drop-drop, length-take-le, take-append-le, take-append-drop, drop-append-le}
use Rattle.c960_board.specs.Moves.{Triple}
use Rattle.relay_core.specs.Following.{stretch}
use Rattle.live_board.specs.declared.view.Part.{Part}
use Rattle.live_board.specs.Views.{next_of}
use Rattle.live_board.specs.Sound.{BearsOut, end_of}

-- the first moves of a stretch are a shorter stretch
first_of_stretch : (j n m : ℕ) (l xs rest : List Triple) → xs ++ rest ≡ stretch j m l → j + length xs ≡ n → n ≤ m → m ≤ length l → xs ≡ stretch j n l
first_of_stretch j n m l xs rest is long low short =
    let all : List Triple = take m l in
    let wide : length all ≡ m = length-take-le m l short in
    let same : take n l ≡ take n all = ap (take n) (sym (take-append-drop m l)) ∙ take-append-le n all (drop m l) (omega arith) in
    let near : length (take n all) ≡ n = length-take-le n all (omega arith) in
    let apart : drop j all ≡ drop j (take n all) ++ drop n all = ap (drop j) (sym (take-append-drop n all)) ∙ drop-append-le j (take n all) (drop n all) (omega arith) in
    let count : length (drop j (take n all)) ≡ length xs = let d = length-drop j (take n all) in omega (arith, d, near, long) in
    sym (take-append_seam xs rest) ∙ ap (take (length xs)) (is ∙ apart) ∙ ap (λ (k : ℕ). take k (drop j (take n all) ++ drop n all)) (sym count)
    ∙ take-append_seam (drop j (take n all)) (drop n all) ∙ ap (drop j) (sym same)

-- what was taken is the stretch of the log from the joining place to the next place
pub taken_stretch : (log : List Triple) (closing : Option ℕ) (p : Part) → BearsOut log closing p → p.taken ≡ stretch p.joined (next_of p) log
taken_stretch log closing p h =
    let reached = h.reached in
    first_of_stretch p.joined (next_of p) (end_of log closing) log p.taken (stretch (next_of p) (end_of log closing) log) h.whole refl reached.0 reached.1

-- what was taken since is the stretch of the log from the next place before
pub since_stretch : (log : List Triple) (closing : Option ℕ) (p q : Part) (moves : List Triple) → BearsOut log closing q → q.joined ≡ p.joined → q.taken ≡ p.taken ++ moves
    → moves ≡ stretch (next_of p) (next_of q) log
since_stretch log closing p q moves h joined taken =
    sym (drop-append_seam p.taken moves) ∙ ap (drop (length p.taken)) (sym taken ∙ taken_stretch log closing q h)
    ∙ drop-drop (length p.taken) q.joined (take (next_of q) log) ∙ ap (λ (j : ℕ). drop (j + length p.taken) (take (next_of q) log)) joined
