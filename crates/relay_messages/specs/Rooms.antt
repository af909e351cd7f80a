-- How a text is put behind what is in a space, and whether it has room.
use Rattle.std.specs.Prelude.{ℕ, ◌≡◌, ◌+◌, ◌<◌, ◌≤◌, Bool, true, false, List, ◌++◌, length}

-- In a space of this many bytes, what was put leaves room for one byte more. If there is no room for it and one byte more, what was there
-- stays.
abbrev pub PutsWithin : ℕ → List ℕ → List ℕ → Bool → List ℕ → Type 0
PutsWithin room old text true new = (new ≡ old ++ text) × (length new < room)
PutsWithin room old text false new = (new ≡ old) × (room ≤ length old + length text)
