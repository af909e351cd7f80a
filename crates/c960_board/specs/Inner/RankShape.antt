-- The text of a rank by the files of its occupied squares, without the letters of its pieces: the contracts of src/fen/shape.rt and
-- src/fen/writer.rt use them.
use Rattle.std.specs.Prelude.{ℕ, zero, suc, ◌+◌, ◌==◌, nat_lt, List, ◌∷◌, ◌++◌, cond, map, not, take, replicate, slice_set}
use Rattle.std.specs.List.{prefix_len}
use Rattle.c960_board.specs.Sets.{is_in}
use Rattle.c960_board.specs.Fen.Canonical.{run_text}

-- the marks of the rest of a rank, from a file on, after n vacant squares that have just been passed: a digit stands for itself, and
-- 256 + f for the letter of the file f
abbrev pub marks_from : ℕ → ℕ → ℕ → ℕ → List ℕ
marks_from files file zero n = run_text n
marks_from files file (suc left) n =
    cond (is_in files file) (run_text n ++ (256 + file) ∷ marks_from files (suc file) left 0) (marks_from files (suc file) left (n + 1))

-- those of a rank
unfoldable pub marks : ℕ → List ℕ
marks files = marks_from files 0 8 0

-- the byte of a mark, a dot for a letter
abbrev pub digit_of : ℕ → ℕ
digit_of mark = cond (nat_lt mark 256) mark 46

-- eight bytes: those of the marks, and spaces behind them
unfoldable pub digits_text : ℕ → List ℕ
digits_text files = take 8 (map digit_of (marks files) ++ replicate 8 32)

-- how many marks come before the letter of a file, or how many there are if it has none
unfoldable pub place_of : ℕ → ℕ → ℕ
place_of files file = prefix_len (λ mark. not (mark == 256 + file)) (marks files)

-- the bytes with the letters of the first files, each at its place in the text from a byte on
abbrev pub with_letters : (ℕ → ℕ) → (ℕ → ℕ) → ℕ → ℕ → List ℕ → List ℕ
with_letters place letter at zero bytes = bytes
with_letters place letter at (suc files) bytes = slice_set (with_letters place letter at files bytes) (at + place files) (letter files)
