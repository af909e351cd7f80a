-- Lemmas on the front of some bytes: a piece without a line feed, and the line feed after it if there is one.
use Rattle.std.proofs.Common.{◌≡◌, ◌≢◌, ℕ, ◌+◌, ◌-◌, ◌<◌, ◌≤◌, List, [], ◌∷◌, ◌++◌, length, take, drop, slice_index}
use Rattle.std.proofs.Common.{refl, sym, ap, ◌∙◌, subst, inl, inr, arith, take-append-drop}
use Rattle.std.proofs.Math.Seq.{take-add}
use Rattle.std.proofs.lemmas.List.{length-take, length-drop, take_all, take_more}
use Rattle.relay960_engines.specs.declared.kept_line.TheConstants.{KEPT}
use Rattle.relay960_engines.specs.declared.bounds.Bounds.{Bounds}
use Rattle.relay960_engines.specs.declared.fault.RunFault.{RunFault}
use Rattle.relay960_engines.specs.declared.fault.RunFault.TheVariants.{Read, Write, TooLong, OutOfMemory, BadStart}
use Rattle.relay960_engines.specs.declared.progress.Progress.{Progress}
use Rattle.relay960_engines.specs.Lines.{Giving, Between}
use Rattle.relay960_engines.specs.Inner.Sending.{Output, Sends, SentAnswers, SentPart}
use Rattle.relay960_engines.specs.Inner.Taking.{IsPlain, kept_behind, kept_lines, kept_piece, Within, IsWithin, TookBytes, Halted, Unwritten, StopsIn}
use Rattle.relay960_engines.proofs.LineFacts.{kept_lines-plain, kept_piece-plain, kept_lines-ended, kept_piece-ended, plain_front}
use Rattle.relay960_engines.proofs.SendingFacts.{SentAnswers-nil, SentAnswers-none}
use Rattle.relay960_engines.proofs.TakingFacts.{TookBytes-trans, within_before, stops_behind}

-- no byte before this place is a line feed
abbrev pub PlainBelow : List ℕ → ℕ → Type 0
PlainBelow xs end = (k : ℕ) → k < end → slice_index xs k ≢ 10

-- the bytes before the first line feed, and that line feed
pub ended_front : (xs : List ℕ) (end : ℕ) → end < length xs → slice_index xs end ≡ 10 → take end xs ++ 10 ∷ [] ≡ take (end + 1) xs
ended_front xs end below feed = ap (λ b. take end xs ++ b ∷ []) (sym feed) ∙ sym (take_more xs end 0 below)

-- ---- What was taken.

-- a line of which nothing was begun
pub behind_none : (line xs : List ℕ) → length line ≡ 0 → kept_behind line xs ≡ take KEPT xs
behind_none [] xs none = refl
behind_none (b ∷ bs) xs none = absurd (omega arith)

-- a line, and the answer to it
pub taken_line : {S : Type 0} (gives : Giving S) (s t : S) (p q : Progress) (xs : List ℕ) (end n : ℕ) (a b : Output)
    → PlainBelow xs end → end < length xs → slice_index xs end ≡ 10 → n ≡ end + 1
    → SentAnswers (Between gives s t) (kept_behind p.line (take end xs) ∷ []) a b → q.line ≡ [] → q.answered ≡ p.answered + 1
    → q.taken ≡ p.taken + n → TookBytes gives s t p q (take n xs) a b
taken_line gives s t p q xs end n a b plain below feed is sent none count total =
    let line : take end xs ++ 10 ∷ [] ≡ take n xs = ended_front xs end below feed ∙ ap (λ m. take m xs) (sym is) in
    let lines : kept_lines p.line (take n xs) ≡ kept_behind p.line (take end xs) ∷ [] =
    ap (kept_lines p.line) (sym line) ∙ kept_lines-ended p.line (take end xs) (plain_front xs end end plain (omega arith)) in
    record {
      sent = subst (λ ls. SentAnswers (Between gives s t) ls a b) (sym lines) sent;
      piece = none ∙ sym (ap (kept_piece p.line) (sym line) ∙ kept_piece-ended p.line (take end xs));
      count = count ∙ ap (λ ls. p.answered + length ls) (sym lines);
      total = omega (arith, total, is, below, length-take n xs);
    }

-- bytes that end no line
pub taken_piece : {S : Type 0} (gives : Giving S) (s : S) (p q : Progress) (xs : List ℕ) (end n : ℕ) (a : Output)
    → PlainBelow xs end → end ≡ length xs → n ≡ end → q.line ≡ kept_behind p.line xs → q.answered ≡ p.answered
    → q.taken ≡ p.taken + n → TookBytes gives s s p q (take n xs) a a
taken_piece gives s p q xs end n a plain all is line same total =
    let front : take n xs ≡ xs = take_all n xs (omega (arith, is, all)) in
    let plain-front : IsPlain (take n xs) = plain_front xs end n plain (omega (arith, is)) in
    let lines : kept_lines p.line (take n xs) ≡ [] = kept_lines-plain p.line (take n xs) plain-front in
    record {
      sent = subst (λ ls. SentAnswers (Between gives s s) ls a a) (sym lines) (SentAnswers-nil gives s a);
      piece = line ∙ ap (kept_behind p.line) (sym front) ∙ sym (kept_piece-plain p.line (take n xs) plain-front);
      count = omega (arith, same, ap length lines);
      total = omega (arith, total, is, all, ap length front);
    }

-- ---- Where a run stopped.

-- before the bytes the lines that are allowed are answered, and what was due was written
pub stops_at_lines : {S : Type 0} (gives : Giving S) (s : S) (p : Progress) (bounds : Bounds) (xs : List ℕ) (old new : Output)
    → Within bounds p → 0 < length xs → bounds.lines ≤ p.answered → Sends old new [] → StopsIn gives s s p bounds xs old new TooLong
unfolding kept_lines
stops_at_lines gives s p bounds xs old new within more reached sends = record {
  seen = [];
  unseen = xs;
  split = refl;
  within = within_before bounds p within;
  stop = (more, SentAnswers-none gives s old new sends, inl (omega (arith, reached)));
}

-- the bytes that are allowed end no line, and there are more; what was due was written
stops_behind_plain : {S : Type 0} (gives : Giving S) (s : S) (p : Progress) (bounds : Bounds) (xs : List ℕ) (n : ℕ) (old new : Output)
    → Within bounds p → n < length xs → bounds.bytes ≡ p.taken + n → IsPlain (take n xs) → Sends old new []
    → StopsIn gives s s p bounds xs old new TooLong
stops_behind_plain gives s p bounds xs n old new within more room plain sends =
    let lines : kept_lines p.line (take n xs) ≡ [] = kept_lines-plain p.line (take n xs) plain in
    let number : length (kept_lines p.line (take n xs)) ≡ 0 = ap length lines in
    let seen : length (take n xs) ≡ n = omega (arith, more, length-take n xs) in
    record {
      seen = take n xs;
      unseen = drop n xs;
      split = sym (take-append-drop n xs);
      within = record {
        lines_within = omega (arith, within.answered_within, number);
        bytes_within = omega (arith, room, seen);
      };
      stop = (
        omega (arith, more, length-drop n xs),
        subst (λ ls. SentAnswers (Between gives s s) ls old new) (sym lines) (SentAnswers-none gives s old new sends),
        inr (omega (arith, room, seen)),
      );
    }

pub stops_at_bytes : {S : Type 0} (gives : Giving S) (s : S) (p : Progress) (bounds : Bounds) (xs : List ℕ) (end count : ℕ)
    (old new : Output) → Within bounds p → PlainBelow xs end → count ≤ end + 1 → count ≤ length xs
    → bounds.bytes - p.taken < count → Sends old new [] → StopsIn gives s s p bounds xs old new TooLong
stops_at_bytes gives s p bounds xs end count old new within plain near inside past sends =
    stops_behind_plain gives s p bounds xs (bounds.bytes - p.taken) old new within (omega (arith, past, inside))
    (omega (arith, within.taken_within)) (plain_front xs end (bounds.bytes - p.taken) plain (omega (arith, past, near))) sends

-- the bytes end one line
line_alone : (line xs : List ℕ) (end : ℕ) → PlainBelow xs end → end < length xs → slice_index xs end ≡ 10
    → kept_lines line (take (end + 1) xs) ≡ kept_behind line (take end xs) ∷ []
line_alone line xs end plain below feed =
    ap (kept_lines line) (sym (ended_front xs end below feed))
    ∙ kept_lines-ended line (take end xs) (plain_front xs end end plain (omega arith))

-- and it exceeds no bound
line_within : (p : Progress) (bounds : Bounds) (xs : List ℕ) (end : ℕ) → PlainBelow xs end → end < length xs
    → slice_index xs end ≡ 10 → Within bounds p → p.answered < bounds.lines → end + 1 ≤ bounds.bytes - p.taken
    → IsWithin bounds p (take (end + 1) xs)
line_within p bounds xs end plain below feed within few short =
    let number : length (kept_lines p.line (take (end + 1) xs)) ≡ 1 = ap length (line_alone p.line xs end plain below feed) in
    record {
      lines_within = omega (arith, number, few);
      bytes_within = omega (arith, short, within.taken_within, below, length-take (end + 1) xs);
    }

-- the answer to a line was not written completely, or there was no memory for it
pub stops_at_line : {S : Type 0} (gives : Giving S) (s t : S) (p : Progress) (bounds : Bounds) (xs : List ℕ) (end : ℕ)
    (old new : Output) (fault : RunFault) → PlainBelow xs end → end < length xs → slice_index xs end ≡ 10 → Within bounds p
    → p.answered < bounds.lines → end + 1 ≤ bounds.bytes - p.taken
    → Unwritten gives s t (kept_behind p.line (take end xs) ∷ []) old new fault → StopsIn gives s t p bounds xs old new fault
stops_at_line gives s t p bounds xs end old new Write plain below feed within few short part = record {
  seen = take (end + 1) xs;
  unseen = drop (end + 1) xs;
  split = sym (take-append-drop (end + 1) xs);
  within = line_within p bounds xs end plain below feed within few short;
  stop = subst (λ ls. SentPart (Between gives s t) ls old new) (sym (line_alone p.line xs end plain below feed)) part;
}
stops_at_line gives s t p bounds xs end old new OutOfMemory plain below feed within few short halted = record {
  seen = take (end + 1) xs;
  unseen = drop (end + 1) xs;
  split = sym (take-append-drop (end + 1) xs);
  within = line_within p bounds xs end plain below feed within few short;
  stop = (
    ap (kept_piece p.line) (sym (ended_front xs end below feed)) ∙ kept_piece-ended p.line (take end xs),
    subst (λ ls. Halted gives s t ls old new) (sym (line_alone p.line xs end plain below feed)) halted,
  );
}
stops_at_line gives s t p bounds xs end old new Read plain below feed within few short none = absurd none
stops_at_line gives s t p bounds xs end old new TooLong plain below feed within few short none = absurd none
stops_at_line gives s t p bounds xs end old new BadStart plain below feed within few short none = absurd none

-- ---- Front by front.

-- what is left of a chunk
pub left_of : (chunk : List ℕ) (i : ℕ) → take (length chunk - i) (drop i chunk) ≡ drop i chunk
left_of chunk i = take_all (length chunk - i) (drop i chunk) (omega (arith, length-drop i chunk))

-- one more front of a chunk
pub taken_front : {S : Type 0} (gives : Giving S) (s t u : S) (p q r : Progress) (chunk : List ℕ) (i n : ℕ) (a b c : Output)
    → TookBytes gives s t p q (take i chunk) a b → TookBytes gives t u q r (take n (take (length chunk - i) (drop i chunk))) b c
    → TookBytes gives s u p r (take (i + n) chunk) a c
taken_front gives s t u p q r chunk i n a b c first second =
    let front : take i chunk ++ take n (take (length chunk - i) (drop i chunk)) ≡ take (i + n) chunk =
    ap (λ l. take i chunk ++ take n l) (left_of chunk i) ∙ sym (take-add i n chunk) in
    subst (λ l. TookBytes gives s u p r l a c) front
    (TookBytes-trans gives s t u p q r (take i chunk) (take n (take (length chunk - i) (drop i chunk))) a b c first second)

-- a stop within a front
pub stops_at_front : {S : Type 0} (gives : Giving S) (s t u : S) (p q : Progress) (bounds : Bounds) (chunk : List ℕ) (i : ℕ)
    (a b c : Output) (fault : RunFault) → TookBytes gives s t p q (take i chunk) a b
    → StopsIn gives t u q bounds (take (length chunk - i) (drop i chunk)) b c fault → StopsIn gives s u p bounds chunk a c fault
stops_at_front gives s t u p q bounds chunk i a b c fault first stops =
    let whole : take i chunk ++ take (length chunk - i) (drop i chunk) ≡ chunk =
    ap (λ l. take i chunk ++ l) (left_of chunk i) ∙ take-append-drop i chunk in
    subst (λ l. StopsIn gives s u p bounds l a c fault) whole
    (stops_behind gives s t u p q bounds (take i chunk) (take (length chunk - i) (drop i chunk)) a b c fault first stops)
