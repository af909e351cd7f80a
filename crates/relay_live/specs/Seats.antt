-- Who follows, in the order of joining and in that of a map.
use Rattle.std.specs.Prelude.{ℕ, List}
use Rattle.relay_live.specs.declared.seated.Seated.{Seated}

-- the spectators with their seats, in the order of joining and in that of the map, and how many more fit without further memory
pub record SeatRecord : Type 0 where
  pub entries : List (ℕ × Seated)
  pub places : List (ℕ × Seated)
  pub room : ℕ
