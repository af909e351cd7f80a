-- What a journal holds after each of its calls.
use Rattle.std.proofs.Common.{◌≡◌, ℕ, ◌≤◌, true, false, List, [], ◌∷◌, ◌++◌, length, ◌∙◌, sym, ap, arith, append_assoc, subst}
use Rattle.std.specs.Prelude.{Option, Result, Ok, Err, OnOk, is_err}
use Rattle.std.proofs.lemmas.List.{append-nil}
use Rattle.std.specs.Io.KnownBytes.{Appends}
use Rattle.chained_lines.specs.Journals.{HoldsLines, KeepsLines}
use Rattle.chained_lines.specs.Lines.{Line, bytes_of, file_of, has_no_feed, no_seal, seal_after}
use Rattle.chained_lines.specs.Records.{JournalRecord}
use Rattle.chained_lines.specs.Storage.{IsSynced}
use Rattle.chained_lines.proofs.Ends.{file_push, lines_push, seal_push}
use Rattle.chained_lines.proofs.Known.{appended, synced_all}

module _ {S : Type 0} (contents : S → Option (List ℕ)) (synced : S → ℕ) (old new : JournalRecord S) (ls : List Line) where
  -- a line was noted
  pub holds_noted : (l : Line) → HoldsLines contents synced old ls → has_no_feed l.body ≡ true → new.storage ≡ old.storage
      → new.noted ≡ old.noted ++ bytes_of old.seal l → new.seal ≡ seal_after old.seal l → new.has_failed ≡ old.has_failed
      → HoldsLines contents synced new (ls ++ l ∷ [])
  holds_noted l holds ok storage noted seal failed = record {
    written = holds.written;
    known = ap contents storage ∙ holds.known;
    lines = lines_push ls l holds.lines ok;
    bytes = ap (λ (t : List ℕ). holds.written ++ t) noted ∙ sym (append_assoc holds.written old.noted (bytes_of old.seal l))
        ∙ ap (λ (t : List ℕ). t ++ bytes_of old.seal l) holds.bytes
        ∙ ap (λ (s : List ℕ). file_of no_seal ls ++ bytes_of s l) holds.seal ∙ sym (file_push no_seal ls l);
    seal = seal ∙ ap (λ (s : List ℕ). seal_after s l) holds.seal ∙ sym (seal_push no_seal ls l);
    settled = subst (λ (s : S). length holds.written ≤ synced s) (sym storage) holds.settled;
    sound = failed ∙ holds.sound;
  }

  -- what was noted was written and synced
  pub holds_stored : HoldsLines contents synced old ls → Appends (contents old.storage) (contents new.storage) old.noted
      → IsSynced (contents new.storage) (synced new.storage) → new.noted ≡ [] → new.seal ≡ old.seal → new.has_failed ≡ false
      → HoldsLines contents synced new ls × KeepsLines synced new ls
  holds_stored holds appends all none seal sound =
      let bytes = holds.written ++ old.noted in
      let known = appended (contents old.storage) (contents new.storage) holds.written old.noted holds.known appends in
      let settled = synced_all (contents new.storage) bytes (synced new.storage) known all in (
        record {
          written = bytes;
          known = known;
          lines = holds.lines;
          bytes = ap (λ (t : List ℕ). bytes ++ t) none ∙ append-nil bytes ∙ holds.bytes;
          seal = seal ∙ holds.seal;
          settled = settled;
          sound = sound;
        },
        subst (λ (t : List ℕ). length t ≤ synced new.storage) holds.bytes settled,
      )

-- nothing was noted
pub keeps_all : {S : Type 0} (contents : S → Option (List ℕ)) (synced : S → ℕ) (j : JournalRecord S) (ls : List Line) → HoldsLines contents synced j ls
    → j.noted ≡ [] → KeepsLines synced j ls
keeps_all contents synced j ls holds none =
    let all = sym (append-nil holds.written) ∙ ap (λ (t : List ℕ). holds.written ++ t) (sym none) ∙ holds.bytes in
    subst (λ (t : List ℕ). length t ≤ synced j.storage) all holds.settled

-- ---- What a call ensures at its success.

pub on_both : {T E P Q R : Type 0} (r : Result T E) → OnOk r P → OnOk r Q → (P → Q → R) → OnOk r R
on_both (Ok x) p q f = f p q
on_both (Err e) p q f = tt

pub on_failed : {T E : Type 0} (P : Type 0) (r : Result T E) → is_err r ≡ true → OnOk r P
on_failed P (Ok x) failed = absurd (grind (arith, failed))
on_failed P (Err e) failed = tt

pub on_any : {T E P : Type 0} (r : Result T E) → P → OnOk r P
on_any (Ok x) p = p
on_any (Err e) p = tt
