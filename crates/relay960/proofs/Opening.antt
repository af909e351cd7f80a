-- A journal in a file, and what it says.
use Rattle.std.proofs.Common.{◌≡◌, ◌*◌, ℕ, nat_lt, true, List, [], ◌∷◌, length, None, Result, Ok, Err, IfOk, refl, subst, sym}
use Rattle.c960_game.specs.Limits.{LimitNumbers}
use Rattle.chained_lines.specs.Lines.{Line}
use Rattle.chained_lines.specs.Records.{JournalRecord}
use Rattle.relay_durable.specs.Keeping.{IsJournalOf}
use Rattle.relay_durable.specs.Record.{DurableRecord}
use Rattle.relay_journal.specs.declared.entry.Entry.{Entry}
use Rattle.relay_journal.specs.declared.unfit.Unfit.{Unfit}
use Rattle.relay_journal.specs.Restarting.{IsRestarted}
use Rattle.relay_service.specs.Resumed.{IsResumed}
use Rattle.relay960.specs.Serving.{GoesOn}
use Rattle.relay_journal.specs.Bodies.{AllBodies, SaysEntries, first_body}

-- Of a storage whose bytes are never known it is a journal of whatever its lines say. One without lines says nothing, and is begun.
pub journal_of : {S : Type 0} (synced : S → ℕ) (j : JournalRecord S) (ls : List Line) (es : List Entry) → SaysEntries ls es
    → IsJournalOf (λ _. None) synced j es
journal_of synced j [] es none = record {
  first = record { is_first = true; body = first_body };
  others = [];
  said = (refl, subst (λ (it : List Entry). AllBodies [] it) (sym none) tt);
  holds = λ written known. absurd cc;
}
journal_of synced j (l ∷ ls) es said = record { first = l; others = ls; said = said; holds = λ written known. absurd cc }

-- what is recovered of some entries goes on with them
pub goes_on : {S : Type 0} (limits : LimitNumbers) (seconds grace : ℕ) (es : List Entry) (made : Result (DurableRecord S) Unfit) → grace ≡ seconds * 1000
    → IfOk made (λ d. IsRestarted limits grace 0 es d.service.hall)
    → IfOk made (λ d. IsResumed limits grace (length es) (nat_lt 0 seconds) d.service.hall d.service) → IfOk made (λ d. GoesOn limits seconds d.service)
goes_on limits seconds grace es (Ok d) same restarted resumed = record {
  entries = es;
  restarted = subst (λ (g : ℕ). IsRestarted limits g 0 es d.service.hall) same restarted;
  resumed = subst (λ (g : ℕ). IsResumed limits g (length es) (nat_lt 0 seconds) d.service.hall d.service) same resumed;
}
goes_on limits seconds grace es (Err unfit) same restarted resumed = tt
