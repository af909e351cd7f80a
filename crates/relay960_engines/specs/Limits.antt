-- The bounds of a script, and their ranges.
use Rattle.std.specs.Prelude.{◌≤◌}
use Rattle.c960_game.specs.Limits.{LimitNumbers}
use Rattle.relay960_engines.specs.declared.bounds.Bounds.{Bounds}

-- the limits of the relay, and how many lines and bytes an input may have
pub record ScriptNumbers : Type 0 where
  pub limits : LimitNumbers
  pub bounds : Bounds

-- a million lines, a gibibyte
abbrev pub greatest_bounds : Bounds
greatest_bounds = record { lines = 1000000; bytes = 1073741824 }

-- the ranges of the two numbers
pub record AreBounds (b : Bounds) : Type 0 where
  pub some_line : 1 ≤ b.lines
  pub most_lines : b.lines ≤ greatest_bounds.lines
  pub some_byte : 1 ≤ b.bytes
  pub most_bytes : b.bytes ≤ greatest_bounds.bytes
