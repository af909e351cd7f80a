use Rattle.std.proofs.Common.{◌≡◌, ℕ, ◌≤◌, get_or, None, take, length}
use Rattle.c960_board.proofs.Reading.RankText.{Reads}
use Rattle.c960_board.proofs.fen.rank.read_rank.Given as goal

abbrev pub invariant-loop-byte : goal.invariant-loop-byte
invariant-loop-byte l = record {
  full : length l.cells ≡ 8;
  bound : l.file ≤ 8;
  empty : (k : ℕ) → l.file ≤ k → get_or l.cells k None ≡ None;
  reads : Reads (take l.file l.cells) l.after_digit l.text l.byte-index;
}
