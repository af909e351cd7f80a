-- The journal stands for the boards behind an event of the hall.
use Rattle.std.proofs.Common.{◌≡◌, ℕ, List, Option, subst, sym}
use Rattle.relay_hall.specs.Record.{HallRecord}
use Rattle.relay_journal.specs.Scribes.{ScribeRecord}
use Rattle.relay_durable.specs.Keeping.{IsKept, IsOneEvent}

-- what is noted behind an event stands for the boards as the hall shows them
pub kept_behind : {S : Type 0} (contents : S → Option (List ℕ)) (synced : S → ℕ) (old new : Option (ScribeRecord S)) (before shown now : HallRecord) → shown ≡ now
    → IsOneEvent before now → ((k : HallRecord) → IsOneEvent k shown → IsKept contents synced old k.floor → IsKept contents synced new shown.floor)
    → IsKept contents synced old before.floor → IsKept contents synced new now.floor
kept_behind contents synced old new before shown now same event notes kept =
    subst (λ (k : HallRecord). IsKept contents synced new k.floor) same (notes before (subst (λ (k : HallRecord). IsOneEvent before k) (sym same) event) kept)
