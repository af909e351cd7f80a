-- Of a storage whose bytes or failures are known.
use Rattle.std.proofs.Common.{◌≡◌, ℕ, ◌≤◌, List, ◌++◌, length, ◌∙◌, ap, arith, subst}
use Rattle.std.specs.Prelude.{Option, Some, None}
use Rattle.std.specs.Io.KnownBytes.{Appends, Keeps}
use Rattle.chained_lines.specs.Storage.{Failed, FailedOrNot, IsSynced}

pub appended : (old new : Option (List ℕ)) (bytes more : List ℕ) → old ≡ Some bytes → Appends old new more → new ≡ Some (bytes ++ more)
appended old new bytes more known appends = by_new new (subst (λ (o : Option (List ℕ)). Appends o new more) known appends)
  where
    by_new : (n : Option (List ℕ)) → Appends (Some bytes) n more → n ≡ Some (bytes ++ more)
    by_new None appends = absurd appends
    by_new (Some bs) appends = ap (λ (l : List ℕ). Some l) appends

pub synced_all : (known : Option (List ℕ)) (bytes : List ℕ) (synced : ℕ) → known ≡ Some bytes → IsSynced known synced → length bytes ≤ synced
synced_all known bytes synced is all = subst (λ (o : Option (List ℕ)). IsSynced o synced) is all

-- ---- What was appended is kept.

pub appends_kept : (a b c : Option (List ℕ)) (bytes : List ℕ) → Appends a b bytes → Keeps b c → Appends a c bytes
appends_kept None b c bytes p q = tt
appends_kept (Some x) None c bytes p q = absurd p
appends_kept (Some x) (Some y) None bytes p q = absurd q
appends_kept (Some x) (Some y) (Some z) bytes p q = q ∙ p

-- ---- Failures.

pub same_failures : (a : Option ℕ) → FailedOrNot a a
same_failures None = tt
same_failures (Some m) = omega arith

pub later_failures : (a b c : Option ℕ) → FailedOrNot a b → FailedOrNot b c → FailedOrNot a c
later_failures None b c p q = tt
later_failures (Some k) None c p q = absurd p
later_failures (Some k) (Some m) None p q = absurd q
later_failures (Some k) (Some m) (Some n) p q = omega (arith, p, q)

pub failed_later : (a b c : Option ℕ) → FailedOrNot a b → Failed b c → Failed a c
failed_later None b c p q = tt
failed_later (Some k) None c p q = absurd p
failed_later (Some k) (Some m) None p q = absurd q
failed_later (Some k) (Some m) (Some n) p q = omega (arith, p, q)
