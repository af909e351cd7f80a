-- What a service with a journal shows of its fields, and what is kept true of it.
use Rattle.std.specs.Prelude.{ℕ, List, Option}
use Rattle.relay_durable.specs.declared.durable_service.DurableService.TheInside.{Inside}
use Rattle.relay_durable.specs.Keeping.{IsKept}
use Rattle.relay_durable.specs.Record.{DurableRecord}

abbrev pub durable_of : {S : Type 0} → Inside S → DurableRecord S
durable_of a = record { service = a.service; scribe = a.scribe }

abbrev pub IsDurable : {S : Type 0} → (S → Option (List ℕ)) → (S → ℕ) → Inside S → Type 0
IsDurable contents synced a = IsKept contents synced a.scribe a.service.hall.floor
