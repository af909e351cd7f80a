-- Of what was written of the lines that a journal holds.
use Rattle.std.proofs.Common.{◌≡◌, ℕ, ◌+◌, List, ◌++◌, length, take, ◌∙◌, sym, ap, subst}
use Rattle.std.specs.Prelude.{Option}
use Rattle.std.proofs.Math.Seq.{take-append-add}
use Rattle.std.specs.Io.KnownBytes.{Appends}
use Rattle.chained_lines.specs.Journals.{HoldsLines, IsKnownFront}
use Rattle.chained_lines.specs.Lines.{Line}
use Rattle.chained_lines.specs.Records.{JournalRecord}
use Rattle.chained_lines.proofs.Known.{appended}

-- what was written, and some first bytes of what was noted
pub front_of : {S : Type 0} (contents : S → Option (List ℕ)) (synced : S → ℕ) (j : JournalRecord S) (ls : List Line) (n : ℕ) (known : Option (List ℕ))
    → HoldsLines contents synced j ls → Appends (contents j.storage) known (take n j.noted) → IsKnownFront known ls
front_of contents synced j ls n known holds appends =
    let bytes = holds.written ++ take n j.noted in (
      bytes,
      appended (contents j.storage) known holds.written (take n j.noted) holds.known appends,
      record {
        count = length holds.written + n;
        front = sym (take-append-add holds.written j.noted n) ∙ ap (λ (t : List ℕ). take (length holds.written + n) t) holds.bytes;
      },
    )

-- some first bytes of what was noted
pub stored_front : {S : Type 0} (contents : S → Option (List ℕ)) (synced : S → ℕ) (j : JournalRecord S) (ls : List Line) (bytes : List ℕ) (known : Option (List ℕ))
    → bytes ≡ j.noted → (n : ℕ) × Appends (contents j.storage) known (take n bytes) → HoldsLines contents synced j ls → IsKnownFront known ls
stored_front contents synced j ls bytes known noted some holds =
    front_of contents synced j ls some.0 known holds (subst (λ (l : List ℕ). Appends (contents j.storage) known (take some.0 l)) noted some.1)
