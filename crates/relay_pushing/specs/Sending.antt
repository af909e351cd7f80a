-- What an outlet gains by a send, and how it counts the failures of its device.
use Rattle.std.specs.Prelude.{◌≡◌, ◌<◌, ◌≤◌, ◌⊎◌, ◌-◌, ◌^◌, ◌++◌, ◌∷◌, [], ℕ, List, Option, None, Some, Result, Ok, Err, ⊤}
use Rattle.relay_pushing.specs.declared.outlet.SendFault.{SendFault}
use Rattle.relay_pushing.specs.declared.outlet.SendFault.TheVariants.{Device, OutOfMemory}

abbrev pub send_fault_code : SendFault → ℕ
send_fault_code Device = 41
send_fault_code OutOfMemory = 12

-- if the texts are reported, these were added to them, in order
abbrev pub GainsAll : Option (List (List ℕ)) → Option (List (List ℕ)) → List (List ℕ) → Type 0
GainsAll None new more = ⊤
GainsAll (Some texts) new more = new ≡ Some (texts ++ more)

-- if the texts are reported, this one was added to them
abbrev pub Gains : Option (List (List ℕ)) → Option (List (List ℕ)) → List ℕ → Type 0
Gains old new text = GainsAll old new (text ∷ [])

-- the count of failures rose, or is at its greatest value
abbrev pub RoseOrFull : ℕ → ℕ → Type 0
RoseOrFull old new = (old < new) ⊎ (new ≡ 2 ^ 64 - 1)

-- a device's fault is reported only if the count rose or is full
abbrev pub IsCounted : ℕ → ℕ → SendFault → Type 0
IsCounted old new Device = RoseOrFull old new
IsCounted old new OutOfMemory = ⊤

abbrev pub IsErrCounted : ℕ → ℕ → Result Unit SendFault → Type 0
IsErrCounted old new (Ok done) = ⊤
IsErrCounted old new (Err fault) = IsCounted old new fault

-- the count does not fall, and a device's fault is reported only if it rose or is full
pub record Counts (old new : ℕ) (result : Result Unit SendFault) : Type 0 where
  pub kept : old ≤ new
  pub counted : IsErrCounted old new result
