-- What a scribe notes is written: the entries that were missing, one after another.
use Rattle.std.proofs.Common.{refl, ◌≡◌, ℕ, Bool, true, false, List, [], ◌∷◌, ◌++◌, length, Option, None, Some, ◌∙◌, sym, ap, subst, arith, append_assoc, length-append}
use Rattle.std.specs.Prelude.{◌==◌, Result, Ok, Err, OnOk, is_err}
use Rattle.std.proofs.lemmas.List.{append-nil}
use Rattle.std.proofs.lemmas.Option.{none-some}
use Rattle.chained_lines.specs.Journals.{HoldsLines, KeepsLines}
use Rattle.chained_lines.specs.Lines.{Line, file_of}
use Rattle.chained_lines.specs.Records.{JournalRecord}
use Rattle.c960_game.specs.Limits.{LimitNumbers}
use Rattle.relay_hall.specs.Record.{FloorRecord, HallRecord, nobody_yet}
use Rattle.relay_journal.specs.declared.entry.Entry.{Entry}
use Rattle.relay_journal.specs.declared.noted.Noted.{Noted}
use Rattle.relay_journal.specs.Behind.{behind_all}
use Rattle.relay_journal.specs.Bodies.{AllBodies, IsBody, SaysEntries, first_body}
use Rattle.relay_journal.specs.Differences.{AllGoOn, missing}
use Rattle.relay_journal.specs.Fitting.{FitsOn}
use Rattle.relay_journal.specs.Kept.{kept_of}
use Rattle.relay_journal.specs.Restarting.{Leads, said_from}
use Rattle.relay_journal.specs.Scribes.{ScribeRecord, noted_in}
use Rattle.relay_journal.specs.Writing.{AreNoted, HoldsIfKnown, IsWritten}
use Rattle.relay_journal.proofs.Behind.{behind_is}
use Rattle.relay_journal.proofs.Missing.{AreApart, missing_leads}
use Rattle.relay_journal.proofs.Noting.{bodies_append, more_stand, said_stand}

module _ {S : Type 0} (contents : S → Option (List ℕ)) (synced : S → ℕ) where
  -- ---- Entries.

  pub none_noted : (j : JournalRecord S) → AreNoted contents synced j j []
  none_noted j = record {
    more = [];
    said = tt;
    lines = λ ls holds. subst (λ (xs : List Line). HoldsLines contents synced j xs) (sym (append-nil ls)) holds;
    storage = refl;
  }

  pub one_noted : (a b : JournalRecord S) (body : List ℕ) (e : Entry) → IsBody body e → b.storage ≡ a.storage
      → ((ls : List Line) → HoldsLines contents synced a ls → HoldsLines contents synced b (ls ++ record { is_first = length a.noted == 0; body = body } ∷ []))
      → AreNoted contents synced a b (e ∷ [])
  one_noted a b body e is storage lines = record {
    more = record { is_first = length a.noted == 0; body = body } ∷ [];
    said = (is, tt);
    lines = lines;
    storage = storage;
  }

  pub noted_then : (a b c : JournalRecord S) (es fs : List Entry) → AreNoted contents synced a b es → AreNoted contents synced b c fs
      → AreNoted contents synced a c (es ++ fs)
  noted_then a b c es fs first then = record {
    more = first.more ++ then.more;
    said = bodies_append first.more then.more es fs first.said then.said;
    lines = λ ls holds. subst (λ (xs : List Line). HoldsLines contents synced c xs) (append_assoc ls first.more then.more)
        (then.lines (ls ++ first.more) (first.lines ls holds));
    storage = then.storage ∙ first.storage;
  }

  -- ---- Boards.

  pub written_on : (old new : ScribeRecord S) (f g : FloorRecord) → AreApart (kept_of g) → AllGoOn (kept_of f) (kept_of g)
      → FitsOn f (missing (kept_of f) (kept_of g)) g → AreNoted contents synced old.journal new.journal (behind_all old.noted (kept_of g)) → new.noted ≡ noted_in g → new.has_failed ≡ old.has_failed
      → IsWritten contents synced old f → IsWritten contents synced new g
  written_on old new f g apart on fits entries noted failed was =
      let same : behind_all old.noted (kept_of g) ≡ missing (kept_of f) (kept_of g) =
      ap (λ (ns : List Noted). behind_all ns (kept_of g)) was.noted ∙ behind_is (kept_of f) (kept_of g) on in
      record {
        ls = was.ls ++ entries.more;
        boards = more_stand was.ls entries.more f g (missing (kept_of f) (kept_of g)) (missing_leads (kept_of f) (kept_of g) apart on) fits was.boards
            (subst (λ (es : List Entry). AllBodies entries.more es) same entries.said);
        noted = noted;
        lines = λ w known. entries.lines was.ls (was.lines w (ap contents (sym entries.storage) ∙ known));
        sound = failed ∙ was.sound;
      }

  -- a commit leaves it so
  pub written_still : (old new : ScribeRecord S) (f : FloorRecord)
      → ((ls : List Line) → HoldsLines contents synced old.journal ls → HoldsLines contents synced new.journal ls × KeepsLines synced new.journal ls)
      → (contents old.journal.storage ≡ None → contents new.journal.storage ≡ None) → new.noted ≡ old.noted → new.has_failed ≡ false
      → IsWritten contents synced old f → IsWritten contents synced new f
  written_still old new f committed unknown noted sound was = record {
    ls = was.ls;
    boards = was.boards;
    noted = noted ∙ was.noted;
    lines = λ w known. by_known w known (contents old.journal.storage) refl;
    sound = sound;
  }
    where
      by_known : (w : List ℕ) → contents new.journal.storage ≡ Some w → (o : Option (List ℕ)) → contents old.journal.storage ≡ o
          → HoldsLines contents synced new.journal was.ls
      by_known w known None none = absurd (none-some w (sym (unknown none) ∙ known))
      by_known w known (Some v) is = (committed was.ls (was.lines v is)).0

  -- whoever goes on with a journal whose entries were said again
  pub written_first : (limits : LimitNumbers) (grace : ℕ) (j : JournalRecord S) (s : ScribeRecord S) (first : Line) (ls : List Line) (es : List Entry) (k : HallRecord)
      → SaysEntries (first ∷ ls) es → HoldsIfKnown contents synced j (first ∷ ls) → Leads (nobody_yet limits grace) [] (said_from 0 es) k
      → s ≡ record { journal = j; noted = noted_in k.floor; has_failed = false } → IsWritten contents synced s k.floor
  written_first limits grace j s first ls es k says holds leads is =
      subst (λ (x : ScribeRecord S). IsWritten contents synced x k.floor) (sym is) (record {
        ls = first ∷ ls;
        boards = said_stand limits grace first ls es k says.0 says.1 leads;
        noted = refl;
        lines = holds;
        sound = refl;
      })

  -- a journal without a line has one
  pub begun : (a b : JournalRecord S) → b.storage ≡ a.storage
      → ((ls : List Line) → HoldsLines contents synced a ls → HoldsLines contents synced b (ls ++ record { is_first = length a.noted == 0; body = first_body } ∷ []))
      → HoldsIfKnown contents synced a [] → HoldsIfKnown contents synced b (record { is_first = true; body = first_body } ∷ [])
  unfolding file_of
  begun a b storage lines nothing = λ w known.
      let holds = nothing w (ap contents (sym storage) ∙ known) in
      let none : length (holds.written ++ a.noted) ≡ 0 = ap length holds.bytes in
      let size = length-append holds.written a.noted in
      let first : (length a.noted == 0) ≡ true = grind (arith, none, size) in
      subst (λ (t : Bool). HoldsLines contents synced b (record { is_first = t; body = first_body } ∷ [])) first (lines [] holds)

  -- ---- Failures.

  -- what was noted, unless that has failed
  pub written_if_noted : {T E : Type 0} (r : Result T E) (s : ScribeRecord S) (failed : Bool) (f : FloorRecord) → failed ≡ is_err r
      → OnOk r (IsWritten contents synced s f) → OnOk r (IsWritten contents synced (record s { has_failed = failed }) f)
  written_if_noted (Ok x) s failed f is was = record { ls = was.ls; boards = was.boards; noted = was.noted; lines = was.lines; sound = is }
  written_if_noted (Err e) s failed f is was = tt

  -- what was committed, unless that has failed
  pub written_if_committed : {T E : Type 0} (r : Result T E) (old new : ScribeRecord S) (f : FloorRecord) → new.noted ≡ old.noted → new.has_failed ≡ is_err r
      → OnOk r ((ls : List Line) → HoldsLines contents synced old.journal ls → HoldsLines contents synced new.journal ls × KeepsLines synced new.journal ls)
      → (contents old.journal.storage ≡ None → contents new.journal.storage ≡ None) → IsWritten contents synced old f → OnOk r (IsWritten contents synced new f)
  written_if_committed (Ok x) old new f noted failed committed unknown was = written_still old new f committed unknown noted failed was
  written_if_committed (Err e) old new f noted failed committed unknown was = tt
