-- What is known of a stable storage.
use Rattle.std.specs.Prelude.{◌≡◌, ℕ, ◌<◌, ◌≤◌, List, Option, Some, None, Result, MatchResult, length, ⊤, OnErr}

-- all bytes, where they are known, are among the first so many
abbrev pub IsSynced : Option (List ℕ) → ℕ → Type 0
IsSynced None synced = ⊤
IsSynced (Some bytes) synced = length bytes ≤ synced

-- a known number of failures has grown
abbrev pub Failed : Option ℕ → Option ℕ → Type 0
Failed None new = ⊤
Failed (Some m) None = ⊥
Failed (Some m) (Some n) = m < n

-- a known number of failures has grown, or is the same
abbrev pub FailedOrNot : Option ℕ → Option ℕ → Type 0
FailedOrNot None new = ⊤
FailedOrNot (Some m) None = ⊥
FailedOrNot (Some m) (Some n) = m ≤ n

-- a write that wrote nothing, though there was something to write, has failed
pub record WriteHasCause {E : Type 0} (old new : Option ℕ) (result : Result ℕ E) (bytes : List ℕ) : Type 0 where
  pub later : FailedOrNot old new
  pub failed : MatchResult result (λ n. n ≡ 0 → 0 < length bytes → Failed old new) (λ _. Failed old new)

-- a sync that was not done has failed
pub record SyncHasCause {E : Type 0} (old new : Option ℕ) (result : Result Unit E) : Type 0 where
  pub later : FailedOrNot old new
  pub failed : OnErr result (Failed old new)
