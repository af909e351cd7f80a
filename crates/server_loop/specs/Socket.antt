-- How much of a piece was read or written at once.
use Rattle.std.specs.Prelude.{◌≡◌, ◌≤◌, ◌<◌, ℕ, ⊤}
use Rattle.server_loop.specs.declared.socket.Delivery.{Delivery}
use Rattle.server_loop.specs.declared.socket.Delivery.TheVariants as deliveries
use Rattle.server_loop.specs.declared.socket.Intake.{Intake}
use Rattle.server_loop.specs.declared.socket.Intake.TheVariants as intakes
use Rattle.server_loop.specs.declared.socket.Written.{Written}
use Rattle.server_loop.specs.declared.socket.Written.TheVariants as takes

-- something came, and no more than there is room for
abbrev pub IsWithin : Intake → ℕ → Type 0
IsWithin (intakes.Bytes n) most = (0 < n) × (n ≤ most)
IsWithin intakes.Nothing most = ⊤
IsWithin intakes.End most = ⊤
IsWithin intakes.Failed most = ⊤

-- something was written, and no more than there was
abbrev pub IsWrittenOf : Written → ℕ → Type 0
IsWrittenOf (takes.Bytes n) most = (0 < n) × (n ≤ most)
IsWrittenOf takes.Blocked most = ⊤
IsWrittenOf takes.Failed most = ⊤

-- one that took everything took all of these bytes, and one that takes no more now did not
abbrev pub IsLeft : Delivery → ℕ → ℕ → Type 0
IsLeft deliveries.All sent length = sent ≡ length
IsLeft deliveries.Blocked sent length = sent < length
IsLeft deliveries.Failed sent length = ⊤
