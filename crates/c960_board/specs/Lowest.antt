-- The lowest member of a set that is a number: loops that go through a set take it first (src/fen/files.rt, and c960_rules).
use Rattle.std.specs.Prelude.{ℕ, ◌≡◌, ◌<◌}
use Rattle.std.specs.Int.{bit_at}

-- k is in the set, and nothing below k is
pub record IsLowest (set k : ℕ) : Type 0 where
  pub inside : bit_at set k ≡ 1
  pub least : (i : ℕ) → i < k → bit_at set i ≡ 0
