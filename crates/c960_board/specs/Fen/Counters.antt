-- The texts of the two counters: decimal digits without leading zeros.
use Rattle.std.specs.Prelude.{ℕ, ◌≡◌, List, decimal}
use Rattle.c960_board.specs.Position.{AreCounters}

-- the fields of the half-move counter and the move number
pub record AreCounterFields (half last : List ℕ) (h n : ℕ) : Type 0 where
  pub half_moves : half ≡ decimal h
  pub number : last ≡ decimal n
  pub counters : AreCounters h n
