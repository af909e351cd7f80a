-- Lemmas on bytes that were taken, and on a run that stopped within them.
use Rattle.std.proofs.Common.{◌≡◌, ℕ, ◌+◌, ◌<◌, ◌≤◌, List, [], ◌∷◌, ◌++◌, length}
use Rattle.std.proofs.Common.{refl, sym, ap, ◌∙◌, subst, inl, inr, arith, append-nil, append_assoc, length-append}
use Rattle.std.proofs.Common.{Result, Ok, Err, OnOk, OnErr, IfErr}
use Rattle.std.proofs.KnownBytes.{Consumes-trans}
use Rattle.std.specs.Io.KnownBytes.{Appends, Consumes}
use Rattle.relay960_engines.specs.declared.bounds.Bounds.{Bounds}
use Rattle.relay960_engines.specs.declared.fault.RunFault.{RunFault}
use Rattle.relay960_engines.specs.declared.fault.RunFault.TheVariants.{Read, Write, TooLong, OutOfMemory, BadStart}
use Rattle.relay960_engines.specs.declared.progress.Progress.{Progress}
use Rattle.relay960_engines.specs.Lines.{Giving, Between, last_line}
use Rattle.relay960_engines.specs.Runs.{Known, one_read}
use Rattle.relay960_engines.specs.Writing.{AppendsPart}
use Rattle.relay960_engines.specs.Inner.Sending.{Output, settled, SentAnswers, SentPart}
use Rattle.relay960_engines.specs.Inner.Taking.{kept_lines, kept_piece, Within, TookBytes, IsWithin, IsAtBound, Halted, StopsBy, StopsIn, StopsReading}
use Rattle.relay960_engines.proofs.LineFacts.{kept_lines-append, kept_piece-append}
use Rattle.relay960_engines.proofs.SendingFacts.{SentAnswers-nil, SentAnswers-none_part, SentAnswers-trans, SentAnswers-part, SentAnswers-settled, SentAnswers-unsettled, halted_behind}

-- ---- Bytes that were taken.

pub TookBytes-nil : {S : Type 0} (gives : Giving S) (s : S) (p : Progress) (a : Output) → TookBytes gives s s p p [] a a
unfolding kept_lines kept_piece
TookBytes-nil gives s p a =
    record { sent = SentAnswers-nil gives s a; piece = refl; count = omega arith; total = omega arith }

-- the lines of more bytes, if this piece was left
lines_behind : (line piece xs ys : List ℕ) → piece ≡ kept_piece line xs
    → kept_lines line xs ++ kept_lines piece ys ≡ kept_lines line (xs ++ ys)
lines_behind line piece xs ys same =
    ap (λ l. kept_lines line xs ++ kept_lines l ys) same ∙ sym (kept_lines-append line xs ys)

number_behind : (line piece xs ys : List ℕ) → piece ≡ kept_piece line xs
    → length (kept_lines line xs) + length (kept_lines piece ys) ≡ length (kept_lines line (xs ++ ys))
number_behind line piece xs ys same =
    sym (length-append (kept_lines line xs) (kept_lines piece ys)) ∙ ap length (lines_behind line piece xs ys same)

pub TookBytes-trans : {S : Type 0} (gives : Giving S) (s t u : S) (p q r : Progress) (xs ys : List ℕ) (a b c : Output)
    → TookBytes gives s t p q xs a b → TookBytes gives t u q r ys b c → TookBytes gives s u p r (xs ++ ys) a c
TookBytes-trans gives s t u p q r xs ys a b c first second =
    let lines : kept_lines p.line xs ++ kept_lines q.line ys ≡ kept_lines p.line (xs ++ ys) =
    lines_behind p.line q.line xs ys first.piece in
    let number : length (kept_lines p.line xs) + length (kept_lines q.line ys) ≡ length (kept_lines p.line (xs ++ ys)) =
    number_behind p.line q.line xs ys first.piece in
    record {
      sent = subst (λ ls. SentAnswers (Between gives s u) ls a c) lines
          (SentAnswers-trans gives s t u (kept_lines p.line xs) (kept_lines q.line ys) a b c first.sent second.sent);
      piece = second.piece ∙ ap (λ l. kept_piece l ys) first.piece ∙ sym (kept_piece-append p.line xs ys);
      count = omega (arith, first.count, second.count, number);
      total = omega (arith, first.total, second.total, length-append xs ys);
    }

-- ---- A run that stopped.

-- before the first of the bytes the counts are those of the progress
pub within_before : (bounds : Bounds) (p : Progress) → Within bounds p → IsWithin bounds p []
unfolding kept_lines
within_before bounds p within =
    record { lines_within = omega (arith, within.answered_within); bytes_within = omega (arith, within.taken_within) }

-- after bytes that were taken, the counts go on
pub within_behind : {S : Type 0} (gives : Giving S) (s t : S) (p q : Progress) (bounds : Bounds) (xs seen : List ℕ) (a b : Output)
    → TookBytes gives s t p q xs a b → IsWithin bounds q seen → IsWithin bounds p (xs ++ seen)
within_behind gives s t p q bounds xs seen a b first within =
    let number : length (kept_lines p.line xs) + length (kept_lines q.line seen) ≡ length (kept_lines p.line (xs ++ seen)) =
    number_behind p.line q.line xs seen first.piece in
    record {
      lines_within = omega (arith, first.count, number, within.lines_within);
      bytes_within = omega (arith, first.total, length-append xs seen, within.bytes_within);
    }

bound_behind : {S : Type 0} (gives : Giving S) (s t : S) (p q : Progress) (bounds : Bounds) (xs seen : List ℕ) (a b : Output)
    → TookBytes gives s t p q xs a b → IsAtBound bounds q seen → IsAtBound bounds p (xs ++ seen)
bound_behind gives s t p q bounds xs seen a b first (inl h) =
    let number : length (kept_lines p.line xs) + length (kept_lines q.line seen) ≡ length (kept_lines p.line (xs ++ seen)) =
    number_behind p.line q.line xs seen first.piece in
    inl (omega (arith, first.count, number, h))
bound_behind gives s t p q bounds xs seen a b first (inr h) =
    inr (omega (arith, first.total, length-append xs seen, h))

-- what was due was not written completely before the bytes
pub stops_unsent : {S : Type 0} (gives : Giving S) (s : S) (p : Progress) (bounds : Bounds) (bs : List ℕ) (old new : Output)
    (e : RunFault) → Within bounds p → e ≡ Write → AppendsPart old.held new.held old.due → StopsIn gives s s p bounds bs old new e
unfolding kept_lines
stops_unsent gives s p bounds bs old new e within is part =
    subst (λ f. StopsIn gives s s p bounds bs old new f) (sym is)
    (record {
      seen = [];
      unseen = bs;
      split = refl;
      within = within_before bounds p within;
      stop = SentAnswers-none_part gives s old new part;
    })

stop_behind : {S : Type 0} (gives : Giving S) (s t u : S) (p q : Progress) (bounds : Bounds) (xs seen unseen : List ℕ)
    (a b c : Output) (fault : RunFault) → TookBytes gives s t p q xs a b
    → StopsBy gives t u q bounds seen unseen b c fault → StopsBy gives s u p bounds (xs ++ seen) unseen a c fault
stop_behind gives s t u p q bounds xs seen unseen a b c Write first part =
    subst (λ ls. SentPart (Between gives s u) ls a c) (lines_behind p.line q.line xs seen first.piece)
    (SentAnswers-part gives s t u (kept_lines p.line xs) (kept_lines q.line seen) a b c first.sent part)
stop_behind gives s t u p q bounds xs seen unseen a b c OutOfMemory first (none, halted) = (
  kept_piece-append p.line xs seen ∙ ap (λ l. kept_piece l seen) (sym first.piece) ∙ none,
  subst (λ ls. Halted gives s u ls a c) (lines_behind p.line q.line xs seen first.piece)
      (halted_behind gives s t u (kept_lines p.line xs) (kept_lines q.line seen) a b c first.sent halted),
)
stop_behind gives s t u p q bounds xs seen unseen a b c TooLong first (more, wrote, bound) = (
  more,
  subst (λ ls. SentAnswers (Between gives s u) ls a c) (lines_behind p.line q.line xs seen first.piece)
      (SentAnswers-trans gives s t u (kept_lines p.line xs) (kept_lines q.line seen) a b c first.sent wrote),
  bound_behind gives s t p q bounds xs seen a b first bound,
)
stop_behind gives s t u p q bounds xs seen unseen a b c Read first none = absurd none
stop_behind gives s t u p q bounds xs seen unseen a b c BadStart first none = absurd none

-- bytes were taken before
pub stops_behind : {S : Type 0} (gives : Giving S) (s t u : S) (p q : Progress) (bounds : Bounds) (xs ys : List ℕ)
    (a b c : Output) (fault : RunFault) → TookBytes gives s t p q xs a b → StopsIn gives t u q bounds ys b c fault
    → StopsIn gives s u p bounds (xs ++ ys) a c fault
stops_behind gives s t u p q bounds xs ys a b c fault first stops = record {
  seen = xs ++ stops.seen;
  unseen = stops.unseen;
  split = ap (λ l. xs ++ l) stops.split ∙ sym (append_assoc xs stops.seen stops.unseen);
  within = within_behind gives s t p q bounds xs stops.seen a b first stops.within;
  stop = stop_behind gives s t u p q bounds xs stops.seen stops.unseen a b c fault first stops.stop;
}

-- a stop within the bytes of a further read
pub stops_reading : {S : Type 0} (gives : Giving S) (s t u : S) (p q : Progress) (bounds : Bounds) (xs ys : List ℕ)
    (old_input mid_input new_input a b c : Known) (fault : RunFault) → length ys ≤ one_read
    → Consumes old_input mid_input xs → Consumes mid_input new_input ys → TookBytes gives s t p q xs (settled a) (settled b)
    → StopsIn gives t u q bounds ys (settled b) (settled c) fault → StopsReading gives s u p bounds old_input new_input a c fault
unfolding stops_behind
stops_reading gives s t u p q bounds xs ys old_input mid_input new_input a b c fault one before read first stops = record {
  input = xs ++ ys;
  read = Consumes-trans old_input mid_input new_input xs ys before read;
  stop = inl (
    stops_behind gives s t u p q bounds xs ys (settled a) (settled b) (settled c) fault first stops,
    omega (arith, one, ap length stops.split, length-append stops.seen stops.unseen),
  );
}

-- the counts after bytes that were taken
within_taken : {S : Type 0} (gives : Giving S) (s t : S) (p q : Progress) (bounds : Bounds) (xs : List ℕ) (a b : Output)
    → TookBytes gives s t p q xs a b → Within bounds q → IsWithin bounds p xs
within_taken gives s t p q bounds xs a b took within = record {
  lines_within = omega (arith, took.count, within.answered_within);
  bytes_within = omega (arith, took.total, within.taken_within);
}

-- what is due after the bytes is written
pub TookBytes-settled : {S : Type 0} (gives : Giving S) (s t : S) (p q : Progress) (xs : List ℕ) (a b : Output) (c : Known)
    → TookBytes gives s t p q xs a b → Appends b.held c b.due → TookBytes gives s t p q xs a (settled c)
TookBytes-settled gives s t p q xs a b c took whole = record {
  sent = SentAnswers-settled gives s t (kept_lines p.line xs) a b c took.sent whole;
  piece = took.piece;
  count = took.count;
  total = took.total;
}

-- a part of it is
pub stops_at_end : {S : Type 0} (gives : Giving S) (s t : S) (p q : Progress) (bounds : Bounds) (xs : List ℕ) (a b : Output) (c : Known)
    → TookBytes gives s t p q xs a b → Within bounds q → AppendsPart b.held c b.due → StopsIn gives s t p bounds xs a (settled c) Write
stops_at_end gives s t p q bounds xs a b c took within part = record {
  seen = xs;
  unseen = [];
  split = sym (append-nil xs);
  within = within_taken gives s t p q bounds xs a b took within;
  stop = SentAnswers-unsettled gives s t (kept_lines p.line xs) a b c took.sent part;
}

-- the writing of what is due after the bytes
pub taken_sent : {S T : Type 0} (gives : Giving S) (s t : S) (p q : Progress) (xs : List ℕ) (a b : Output) (c : Known)
    (ran : Result T RunFault) → TookBytes gives s t p q xs a b → OnOk ran (Appends b.held c b.due)
    → OnOk ran (TookBytes gives s t p q xs a (settled c))
taken_sent gives s t p q xs a b c (Ok done) took whole = TookBytes-settled gives s t p q xs a b c took whole
taken_sent gives s t p q xs a b c (Err fault) took whole = tt

pub stops_sent : {S T : Type 0} (gives : Giving S) (s t : S) (p q : Progress) (bounds : Bounds) (xs : List ℕ) (a b : Output) (c : Known)
    (ran : Result T RunFault) → TookBytes gives s t p q xs a b → Within bounds q → OnErr ran (AppendsPart b.held c b.due)
    → IfErr ran (λ fault. fault ≡ Write) → IfErr ran (λ fault. StopsIn gives s t p bounds xs a (settled c) fault)
stops_sent gives s t p q bounds xs a b c (Ok done) took within part is = tt
stops_sent gives s t p q bounds xs a b c (Err fault) took within part is =
    subst (λ f. StopsIn gives s t p bounds xs a (settled c) f) (sym is)
    (stops_at_end gives s t p q bounds xs a b c took within part)

-- there is room for a last line
pub last_fits : (line : List ℕ) (answered lines : ℕ) → answered ≤ lines → (0 < length line → answered < lines)
    → answered + length (last_line line) ≤ lines
last_fits [] answered lines few room = omega (arith, few)
last_fits (b ∷ bs) answered lines few room = omega (arith, room (omega arith))

-- a read that failed after the bytes
pub stops_at_read : {S : Type 0} (gives : Giving S) (s t : S) (p q : Progress) (bounds : Bounds) (xs : List ℕ)
    (old_input new_input a b : Known) → Consumes old_input new_input xs → Within bounds q
    → TookBytes gives s t p q xs (settled a) (settled b)
    → StopsReading gives s t p bounds old_input new_input a b Read
stops_at_read gives s t p q bounds xs old_input new_input a b read within took = record {
  input = xs;
  read = read;
  stop = inr (
    refl,
    within_taken gives s t p q bounds xs (settled a) (settled b) took within,
    omega (
      arith,
      took.count,
      last_fits q.line q.answered bounds.lines within.answered_within within.room,
      ap (λ l. length (last_line l)) took.piece,
    ),
    took.sent,
  );
}
