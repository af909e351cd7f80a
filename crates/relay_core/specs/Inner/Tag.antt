-- A number by a text: texts of different numbers differ.
use Rattle.std.specs.Prelude.{ℕ, ◌+◌, ◌*◌, ◌%◌, List}
use Rattle.std.specs.List.{fold}

-- with one more byte; no three last bytes give the same as three others
abbrev pub tag_after : ℕ → ℕ → ℕ
tag_after tag byte = (tag * 257 + byte) % 4294967296

abbrev pub tag_of : List ℕ → ℕ
tag_of text = fold tag_after 0 text
