-- Lemmas on a whole run: what was kept of the lines represents the lines.
use Rattle.std.proofs.Common.{◌≡◌, ℕ, ◌+◌, ◌≤◌, List, [], ◌++◌, length, take, map}
use Rattle.std.proofs.Common.{◌∷◌, None, refl, sym, ap, ◌∙◌, subst, inl, inr, arith, append-nil}
use Rattle.std.proofs.Common.{Result, Ok, Err, OnOk, IfOk, IfErr}
use Rattle.std.proofs.lemmas.List.{length-map, length-append, map-append}
use Rattle.std.proofs.KnownBytes.{Appends-trans}
use Rattle.std.specs.Io.KnownBytes.{Appends, Consumes}
use Rattle.relay960_engines.specs.declared.kept_line.TheConstants.{KEPT}
use Rattle.relay960_engines.specs.declared.bounds.Bounds.{Bounds}
use Rattle.relay960_engines.specs.declared.fault.RunFault.{RunFault}
use Rattle.relay960_engines.specs.declared.fault.RunFault.TheVariants.{Read, Write, TooLong, OutOfMemory, BadStart}
use Rattle.relay960_engines.specs.declared.progress.Progress.{Progress}
use Rattle.relay960_engines.specs.Lines.{Giving, Answers, Before, whole_lines, last_piece, last_line, lines_of, Between}
use Rattle.relay960_engines.specs.Runs.{Known, Wrote, WrotePart, Done, RunStopped, IsPast}
use Rattle.relay960_engines.specs.Inner.Sending.{settled, SentAnswers}
use Rattle.relay960_engines.specs.Inner.Taking.{kept_lines, kept_piece, Within, IsWithin, LastFits, TakenAll, Halted, Unwritten, StopsReading}
use Rattle.relay960_engines.proofs.LineFacts.{kept_lines-take, kept_piece-take, last_line-take, lines_ended, piece_none}
use Rattle.relay960_engines.proofs.TakingFacts.{last_fits}
use Rattle.relay960_engines.proofs.StopFacts.{not_begun}
use Rattle.relay960_engines.proofs.AnsweredFacts.{IsCut, Answered-trans, Answered-whole}
use Rattle.relay960_engines.proofs.Prefixes.{part_behind}
use Rattle.relay960_engines.proofs.SendingFacts.{SentAnswers-wrote, SentPart-wrote, halted_behind}

-- ---- The lines of a run.

kept_whole : (line bytes : List ℕ) → line ≡ [] → kept_lines line bytes ≡ map (take KEPT) (whole_lines [] bytes)
kept_whole line bytes new = ap (λ l. kept_lines l bytes) new ∙ kept_lines-take [] bytes

kept_last : (line piece bytes : List ℕ) → line ≡ [] → piece ≡ kept_piece line bytes
    → last_line piece ≡ map (take KEPT) (last_line (last_piece [] bytes))
kept_last line piece bytes new left =
    ap last_line (left ∙ ap (λ l. kept_piece l bytes) new ∙ kept_piece-take [] bytes) ∙ last_line-take (last_piece [] bytes)

kept_all : (line piece bytes : List ℕ) → line ≡ [] → piece ≡ kept_piece line bytes
    → kept_lines line bytes ++ last_line piece ≡ map (take KEPT) (lines_of bytes)
unfolding lines_of
kept_all line piece bytes new left =
    ap (λ ls. ls ++ last_line piece) (kept_whole line bytes new)
    ∙ ap (λ ls. map (take KEPT) (whole_lines [] bytes) ++ ls) (kept_last line piece bytes new left)
    ∙ sym (map-append (take KEPT) (whole_lines [] bytes) (last_line (last_piece [] bytes)))

kept_number : (line bytes : List ℕ) → line ≡ [] → length (kept_lines line bytes) ≡ length (whole_lines [] bytes)
kept_number line bytes new = ap length (kept_whole line bytes new) ∙ length-map (whole_lines [] bytes) (take KEPT)

-- bytes whose last piece keeps nothing end with a line feed
ended_whole : (line bytes : List ℕ) → line ≡ [] → kept_piece line bytes ≡ [] → last_piece [] bytes ≡ []
ended_whole line bytes new none =
    piece_none (last_piece [] bytes)
    (sym (kept_piece-take [] bytes) ∙ ap (λ l. kept_piece l bytes) (sym new) ∙ none)

-- ---- The line at which a run stopped.

-- the last of the images is that of the last
pub record SplitMap {X Y : Type 0} (f : X → Y) (xs : List X) (ys : List Y) (y : Y) : Type 0 where
  pub front : List X
  pub last : X
  pub split : xs ≡ front ++ last ∷ []
  pub images : map f front ≡ ys
  pub image : f last ≡ y

map_split : {X Y : Type 0} (f : X → Y) (xs : List X) (ys : List Y) (y : Y) → map f xs ≡ ys ++ y ∷ [] → SplitMap f xs ys y
map_split f [] [] y e = cc
map_split f [] (z ∷ ys) y e = cc
map_split f (x ∷ []) [] y e = record { front = []; last = x; split = refl; images = refl; image = cc }
map_split f (x ∷ z ∷ xs) [] y e = cc
map_split f (x ∷ xs) (z ∷ ys) y e =
    let tail : map f xs ≡ ys ++ y ∷ [] = cc in
    let head : f x ≡ z = cc in
    let rest = map_split f xs ys y tail in
    record {
      front = x ∷ rest.front;
      last = rest.last;
      split = ap (λ l. x ∷ l) rest.split;
      images = ap (λ l. f x ∷ l) rest.images ∙ ap (λ w. w ∷ ys) head;
      image = rest.image;
    }

-- the lines before the last were answered, and there was no memory for the answer to the last
pub record AtLine {S : Type 0} (gives : Giving S) (s t : S) (lines : List (List ℕ)) (a b : Known) : Type 0 where
  pub before : List (List ℕ)
  pub stopped : List ℕ
  pub split : lines ≡ before ++ stopped ∷ []
  pub answers : List ℕ
  pub given : Before gives s t before answers stopped
  pub written : Appends a b answers

at_line : {S : Type 0} (gives : Giving S) (s t : S) (lines : List (List ℕ)) (a b : Known) → IsCut gives
    → Halted gives s t (map (take KEPT) lines) (settled a) (settled b) → AtLine gives s t lines a b
at_line gives s t lines a b cut halted =
    let whole = map_split (take KEPT) lines halted.before halted.stopped halted.split in
    let wrote : Wrote (Between gives s halted.mid) whole.front a b = Answered-whole gives s halted.mid whole.front cut
    (subst (λ ls. Wrote (Between gives s halted.mid) ls a b) (sym whole.images)
    (SentAnswers-wrote gives s halted.mid halted.before a b halted.sent)) in
    record {
      before = whole.front;
      stopped = whole.last;
      split = whole.split;
      answers = wrote.answers;
      given = (
        halted.mid,
        wrote.given,
        cut halted.mid whole.last None t (subst (λ l. gives halted.mid l None t) (sym whole.image) halted.unanswered),
      );
      written = wrote.written;
    }

-- ---- The end of a run that began with progress p.

module _ {S : Type 0} (gives : Giving S) (cut : IsCut gives) (s : S) (p : Progress) (bounds : Bounds)
    (old_input new_input a : Known) (line : p.line ≡ []) (answered : p.answered ≡ 0) (taken : p.taken ≡ 0) where
  whole : (t : S) (b : Known) (seen : List ℕ) → SentAnswers (Between gives s t) (kept_lines p.line seen) (settled a) (settled b)
      → Wrote (Between gives s t) (whole_lines [] seen) a b
  whole t b seen sent =
      Answered-whole gives s t (whole_lines [] seen) cut
      (subst (λ ls. Wrote (Between gives s t) ls a b) (kept_whole p.line seen line)
      (SentAnswers-wrote gives s t (kept_lines p.line seen) a b sent))

  -- the lines of bytes that leave room for the last of them
  all_fit : (seen : List ℕ) → LastFits bounds p seen → length (lines_of seen) ≤ bounds.lines
  all_fit seen fits =
      let number : length (kept_lines p.line seen) + length (last_line (kept_piece p.line seen)) ≡ length (lines_of seen) =
      sym (length-append (kept_lines p.line seen) (last_line (kept_piece p.line seen)))
      ∙ ap length (kept_all p.line (kept_piece p.line seen) seen line refl) ∙ length-map (lines_of seen) (take KEPT) in
      omega (arith, fits, number)

  few_lines : (seen : List ℕ) → IsWithin bounds p seen → length (whole_lines [] seen) ≤ bounds.lines
  few_lines seen within =
      let number : length (kept_lines p.line seen) ≡ length (whole_lines [] seen) = kept_number p.line seen line in
      omega (arith, within.lines_within, number)

  few_bytes : (seen : List ℕ) → IsWithin bounds p seen → length seen ≤ bounds.bytes
  few_bytes seen within = omega (arith, within.bytes_within)

  -- it stopped within the bytes of the reader
  pub stopped : (t : S) (b : Known) (fault : RunFault)
      → StopsReading gives s t p bounds old_input new_input a b fault
      → RunStopped (Between gives s t) (Before gives s t) bounds old_input new_input a b fault
  stopped t b Read stops = elim stops.stop [
    | inl within ↦ absurd within.0.stop
    | inr at_read ↦ record {
      input = stops.input;
      read = stops.read;
      lines_within = all_fit stops.input at_read.2;
      bytes_within = few_bytes stops.input at_read.1;
      wrote = whole t b stops.input at_read.3;
    }
  ]
  stopped t b Write stops = elim stops.stop [
    | inl (within, one) ↦ record {
      seen = within.seen;
      unseen = within.unseen;
      ahead = one;
      read = subst (Consumes old_input new_input) within.split stops.read;
      bytes_within = few_bytes within.seen within.within;
      wrote = inl (
        few_lines within.seen within.within,
        Answered-whole gives s t (whole_lines [] within.seen) cut
            (subst (λ ls. WrotePart (Between gives s t) ls a b) (kept_whole p.line within.seen line)
            (SentPart-wrote gives s t (kept_lines p.line within.seen) a b within.stop)),
      );
    }
    | inr at_read ↦ let other : Write ≡ Read = at_read.0 in cc
  ]
  stopped t b TooLong stops = elim stops.stop [
    | inl (within, one) ↦
        let (more, wrote, bound) = within.stop in
        let number : length (kept_lines p.line within.seen) ≡ length (whole_lines [] within.seen) =
        kept_number p.line within.seen line in
        let past : IsPast bounds within.seen =
        elim bound [
          | inl h ↦ inl (omega (arith, h, number, answered))
          | inr h ↦ inr (omega (arith, h, taken))
        ] in
        record {
          seen = within.seen;
          unseen = within.unseen;
          more = more;
          ahead = one;
          read = subst (Consumes old_input new_input) within.split stops.read;
          lines_within = few_lines within.seen within.within;
          bytes_within = few_bytes within.seen within.within;
          past = past;
          wrote = whole t b within.seen wrote;
        }
    | inr at_read ↦ let other : TooLong ≡ Read = at_read.0 in cc
  ]
  stopped t b OutOfMemory stops = elim stops.stop [
    | inl (within, one) ↦
        let (none, halted) = within.stop in
        let ended : last_piece [] within.seen ≡ [] = ended_whole p.line within.seen line none in
        let all : whole_lines [] within.seen ≡ lines_of within.seen = lines_ended within.seen ended in
        let at = at_line gives s t (lines_of within.seen) a b cut
        (subst (λ ls. Halted gives s t ls (settled a) (settled b))
        (kept_whole p.line within.seen line ∙ ap (map (take KEPT)) all) halted) in
        inr (record {
          seen = within.seen;
          unseen = within.unseen;
          ahead = one;
          read = subst (Consumes old_input new_input) within.split stops.read;
          before = at.before;
          stopped = at.stopped;
          lines = at.split;
          ended = inl ended;
          lines_within = omega (arith, few_lines within.seen within.within, ap length all);
          bytes_within = few_bytes within.seen within.within;
          answers = at.answers;
          given = at.given;
          written = at.written;
        })
    | inr at_read ↦ let other : OutOfMemory ≡ Read = at_read.0 in cc
  ]
  stopped t b BadStart stops = elim stops.stop [
    | inl within ↦ absurd within.0.stop
    | inr at_read ↦ let other : BadStart ≡ Read = at_read.0 in cc
  ]

  -- it took all bytes of the reader, and then the last line was answered
  module _ (t u : S) (q : Progress) (b c : Known) (took : TakenAll gives s t p q old_input new_input a b) where
    all_lines : kept_lines p.line took.input ++ last_line q.line ≡ map (take KEPT) (lines_of took.input)
    all_lines = kept_all p.line q.line took.input line took.took.piece

    all_number : length (kept_lines p.line took.input) + length (last_line q.line) ≡ length (lines_of took.input)
    all_number =
        sym (length-append (kept_lines p.line took.input) (last_line q.line)) ∙ ap length all_lines
        ∙ length-map (lines_of took.input) (take KEPT)

    taken_wrote : Wrote (Between gives s t) (kept_lines p.line took.input) a b
    taken_wrote = SentAnswers-wrote gives s t (kept_lines p.line took.input) a b took.took.sent

    pub done : Within bounds q → (ran : Result ℕ RunFault) → OnOk ran (Wrote (Between gives t u) (last_line q.line) b c)
        → IfOk ran (λ n. n ≡ q.answered + length (last_line q.line)) → IfOk ran (λ n. n ≤ bounds.lines)
        → IfOk ran (λ n. Done (Between gives s u) bounds old_input new_input a c n)
    done within (Err fault) wrote count few = tt
    done within (Ok n) wrote count few =
        record {
          input = took.input;
          read = took.read;
          at_end = took.at_end;
          wrote = Answered-whole gives s u (lines_of took.input) cut (subst (λ ls. Wrote (Between gives s u) ls a c) all_lines
              (Answered-trans gives s t u (kept_lines p.line took.input) (last_line q.line) (Appends-trans a b c) taken_wrote wrote));
          count = omega (arith, count, took.took.count, answered, all_number);
          lines_within = few;
          bytes_within = omega (arith, within.taken_within, took.took.total, taken);
        }

    last_within : Within bounds q → q.answered + length (last_line q.line) ≤ bounds.lines
    last_within within = last_fits q.line q.answered bounds.lines within.answered_within within.room

    short : Within bounds q → length took.input ≤ bounds.bytes
    short within = omega (arith, within.taken_within, took.took.total)

    -- the answer to the last line was not written completely
    pub stopped_last : Within bounds q → (ran : Result ℕ RunFault) → IfErr ran (λ fault. Unwritten gives t u (last_line q.line) (settled b) (settled c) fault)
        → IfErr ran (λ fault. RunStopped (Between gives s u) (Before gives s u) bounds old_input new_input a c fault)
    stopped_last within (Ok n) part = tt
    stopped_last within (Err Write) part = record {
      seen = took.input;
      unseen = [];
      ahead = omega arith;
      read = subst (Consumes old_input new_input) (sym (append-nil took.input)) took.read;
      bytes_within = short within;
      wrote = inr (
        refl,
        took.at_end,
        omega (arith, last_within within, took.took.count, answered, all_number),
        Answered-whole gives s u (lines_of took.input) cut
            (subst (λ ls. WrotePart (Between gives s u) ls a c) all_lines
            (Answered-trans gives s t u (kept_lines p.line took.input) (last_line q.line) (part_behind a b c) taken_wrote
            (SentPart-wrote gives t u (last_line q.line) b c part))),
      );
    }
    stopped_last within (Err OutOfMemory) halted =
        let at = at_line gives s u (lines_of took.input) a c cut
        (subst (λ ls. Halted gives s u ls (settled a) (settled c)) all_lines
        (halted_behind gives s t u (kept_lines p.line took.input) (last_line q.line) (settled a) (settled b) (settled c)
        took.took.sent halted)) in
        inr (record {
          seen = took.input;
          unseen = [];
          ahead = omega arith;
          read = subst (Consumes old_input new_input) (sym (append-nil took.input)) took.read;
          before = at.before;
          stopped = at.stopped;
          lines = at.split;
          ended = inr (refl, took.at_end);
          lines_within = omega (arith, last_within within, took.took.count, answered, all_number);
          bytes_within = short within;
          answers = at.answers;
          given = at.given;
          written = at.written;
        })
    stopped_last within (Err Read) none = absurd none
    stopped_last within (Err TooLong) none = absurd none
    stopped_last within (Err BadStart) none = absurd none

-- there was no memory for the line: nothing was read
pub stopped_before : {S : Type 0} (gives : Giving S) (s : S) (bounds : Bounds) (input output : Known)
    → RunStopped (Between gives s s) (Before gives s s) bounds input input output output OutOfMemory
unfolding Answers
stopped_before gives s bounds input output =
    not_begun (Between gives s s) (Before gives s s) bounds input output (refl, refl)
