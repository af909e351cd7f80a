-- What a search in a row of tags passes over, and what it keeps.
use Rattle.std.specs.Prelude.{ℕ, ◌≡◌, ◌+◌, ◌≤◌, ◌<◌, ◌==◌, List, true, false, slice_index, length}
use Rattle.std.specs.Int.{bit_at}
use Rattle.relay_core.specs.declared.tags.TagSearch.{TagSearch}

-- no place from `from` on and before `to` has the tag
abbrev pub PassesOver : List ℕ → ℕ → ℕ → ℕ → Type 0
PassesOver tags tag from to = (k : ℕ) → from ≤ k → k < to → (slice_index tags k == tag) ≡ false

-- the search goes on from its place: what is left of its block are the places there that have the tag
pub record IsSearch (tags : List ℕ) (tag : ℕ) (s : TagSearch) : Type 0 where
  pub ordered : s.block ≤ s.ahead
  pub inside : s.ahead ≤ length tags
  pub reached : s.from.value ≤ s.ahead
  pub passed : PassesOver tags tag s.from.value s.block
  pub behind : (k : ℕ) → bit_at s.left k ≡ 1 → s.from.value ≤ s.block + k
  pub within : (k : ℕ) → bit_at s.left k ≡ 1 → s.block + k < s.ahead
  pub have_it : (k : ℕ) → bit_at s.left k ≡ 1 → (slice_index tags (s.block + k) == tag) ≡ true
  pub others : (k : ℕ) → s.from.value ≤ s.block + k → s.block + k < s.ahead → bit_at s.left k ≡ 0 → (slice_index tags (s.block + k) == tag) ≡ false
