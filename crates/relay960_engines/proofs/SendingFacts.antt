-- Lemmas on texts that are due to a writer before they are written.
use Rattle.std.proofs.Common.{◌≡◌, ℕ, List, [], ◌∷◌, ◌++◌, refl, sym, ap, ◌∙◌, subst, append_assoc, append-nil}
use Rattle.std.proofs.Common.{Result, Ok, Err, OnOk, OnErr, IfErr, Some, None}
use Rattle.std.proofs.KnownBytes.{Appends-trans, Appends-nil}
use Rattle.std.specs.Io.KnownBytes.{Appends}
use Rattle.relay960_engines.specs.declared.fault.RunFault.{RunFault}
use Rattle.relay960_engines.specs.declared.fault.RunFault.TheVariants.{Write}
use Rattle.relay960_engines.specs.Lines.{Giving, Answers, Between}
use Rattle.relay960_engines.specs.Runs.{Known, Wrote, WrotePart}
use Rattle.relay960_engines.specs.Writing.{AppendsPart}
use Rattle.relay960_engines.specs.Inner.Sending.{Output, output_of, settled, Sends, SentAnswers, SentPart}
use Rattle.relay960_engines.specs.Inner.Taking.{Halted, Unwritten}
use Rattle.relay960_engines.proofs.AnsweredFacts.{Answered-nil, Answered-then, Answered-trans, Answers-append, Answers-one}
use Rattle.relay960_engines.proofs.Prefixes.{part_before, part_behind}

-- ---- A text.

pub Sends-nil : (a : Output) → Sends a a []
Sends-nil a = record { front = []; written = Appends-nil a.held; split = append-nil a.due }

-- the text is due
pub sends_due : (held : Known) (due text new : List ℕ) → new ≡ due ++ text → Sends (output_of held due) (output_of held new) text
sends_due held due text new grown = record { front = []; written = Appends-nil held; split = sym grown }

-- what was due is written, and the text is due
pub sends_after : (a b : Known) (due text none new : List ℕ) → Appends a b due → none ≡ [] → new ≡ none ++ text
    → Sends (output_of a due) (output_of b new) text
sends_after a b due text none new whole empty grown =
    record { front = due; written = whole; split = ap (λ l. due ++ l) (sym (grown ∙ ap (λ l. l ++ text) empty)) }

-- what was due is written, and the text
pub sends_all : (a b c : Known) (due text none : List ℕ) → Appends a b due → Appends b c text → none ≡ []
    → Sends (output_of a due) (output_of c none) text
sends_all a b c due text none first second empty = record {
  front = due ++ text;
  written = Appends-trans a b c due text first second;
  split = sym (ap (λ l. (due ++ text) ++ l) empty ∙ append-nil (due ++ text));
}

-- the same if the text may not be written completely
pub sends_all_ran : {T : Type 0} (a b c : Known) (due text none : List ℕ) (ran : Result T RunFault) → Appends a b due
    → OnOk ran (Appends b c text) → none ≡ [] → OnOk ran (Sends (output_of a due) (output_of c none) text)
sends_all_ran a b c due text none (Ok done) first second empty = sends_all a b c due text none first second empty
sends_all_ran a b c due text none (Err fault) first second empty = tt

-- what was due is written, and nothing after it
pub sends_nothing : (a b : Known) (due : List ℕ) → Appends a b due → Sends (output_of a due) (settled b) []
sends_nothing a b due whole = record { front = due; written = whole; split = refl }

pub Sends-trans : (a b c : Output) (xs ys : List ℕ) → Sends a b xs → Sends b c ys → Sends a c (xs ++ ys)
Sends-trans a b c xs ys first second = record {
  front = first.front ++ second.front;
  written = Appends-trans a.held b.held c.held first.front second.front first.written second.written;
  split = sym (append_assoc a.due xs ys) ∙ ap (λ l. l ++ ys) first.split ∙ append_assoc first.front b.due ys
      ∙ ap (λ l. first.front ++ l) second.split ∙ sym (append_assoc first.front second.front c.due);
}

pub Sends-part : (a b c : Output) (xs ys : List ℕ) → Sends a b xs → AppendsPart b.held c.held (b.due ++ ys)
    → AppendsPart a.held c.held (a.due ++ (xs ++ ys))
Sends-part a b c xs ys first part =
    let whole : first.front ++ (b.due ++ ys) ≡ a.due ++ (xs ++ ys) =
    sym (append_assoc first.front b.due ys) ∙ ap (λ l. l ++ ys) (sym first.split) ∙ append_assoc a.due xs ys in
    subst (AppendsPart a.held c.held) whole
    (part_behind a.held b.held c.held first.front (b.due ++ ys) first.written part)

-- what is due is written
pub Sends-settled : (a b : Output) (c : Known) (text : List ℕ) → Sends a b text → Appends b.held c b.due → Sends a (settled c) text
Sends-settled a b c text first whole = record {
  front = first.front ++ b.due;
  written = Appends-trans a.held b.held c first.front b.due first.written whole;
  split = first.split ∙ sym (append-nil (first.front ++ b.due));
}

-- a part of it is
pub Sends-unsettled : (a b : Output) (c : Known) (text : List ℕ) → Sends a b text → AppendsPart b.held c b.due
    → AppendsPart a.held c (a.due ++ text)
Sends-unsettled a b c text first part =
    subst (AppendsPart a.held c) (sym first.split) (part_behind a.held b.held c first.front b.due first.written part)

-- ---- The answers to lines.

pub SentAnswers-nil : {S : Type 0} (gives : Giving S) (s : S) (a : Output) → SentAnswers (Between gives s s) [] a a
SentAnswers-nil gives s a = Answered-nil gives s (Sends-nil a)

-- no line is answered, and what was due is written or due, or a part of it written
pub SentAnswers-none : {S : Type 0} (gives : Giving S) (s : S) (a b : Output) → Sends a b [] → SentAnswers (Between gives s s) [] a b
SentAnswers-none gives s a b sends = Answered-nil gives s sends

pub SentAnswers-none_part : {S : Type 0} (gives : Giving S) (s : S) (a b : Output) → AppendsPart a.held b.held a.due
    → SentPart (Between gives s s) [] a b
unfolding Answers
SentAnswers-none_part gives s a b part =
    record { answers = []; given = (refl, refl); written = part_before a.held b.held a.due [] part }

pub SentAnswers-kept : {S : Type 0} (gives : Giving S) (s t : S) (ls : List (List ℕ)) (a b c : Output)
    → SentAnswers (Between gives s t) ls a b → Sends b c [] → SentAnswers (Between gives s t) ls a c
SentAnswers-kept gives s t ls a b c first kept =
    Answered-then (λ xs sends. subst (Sends a c) (append-nil xs) (Sends-trans a b c xs [] sends kept)) first

pub SentAnswers-trans : {S : Type 0} (gives : Giving S) (s t u : S) (ls ms : List (List ℕ)) (a b c : Output)
    → SentAnswers (Between gives s t) ls a b → SentAnswers (Between gives t u) ms b c → SentAnswers (Between gives s u) (ls ++ ms) a c
SentAnswers-trans gives s t u ls ms a b c first second = Answered-trans gives s t u ls ms (Sends-trans a b c) first second

pub SentAnswers-part : {S : Type 0} (gives : Giving S) (s t u : S) (ls ms : List (List ℕ)) (a b c : Output)
    → SentAnswers (Between gives s t) ls a b → SentPart (Between gives t u) ms b c → SentPart (Between gives s u) (ls ++ ms) a c
SentAnswers-part gives s t u ls ms a b c first second = record {
  answers = first.answers ++ second.answers;
  given = Answers-append gives s t u ls ms first.answers second.answers first.given second.given;
  written = Sends-part a b c first.answers second.answers first.written second.written;
}

-- what is due of them is written, or a part of it
pub SentAnswers-settled : {S : Type 0} (gives : Giving S) (s t : S) (ls : List (List ℕ)) (a b : Output) (c : Known)
    → SentAnswers (Between gives s t) ls a b → Appends b.held c b.due → SentAnswers (Between gives s t) ls a (settled c)
SentAnswers-settled gives s t ls a b c first whole = Answered-then (λ xs sends. Sends-settled a b c xs sends whole) first

pub SentAnswers-unsettled : {S : Type 0} (gives : Giving S) (s t : S) (ls : List (List ℕ)) (a b : Output) (c : Known)
    → SentAnswers (Between gives s t) ls a b → AppendsPart b.held c b.due → SentPart (Between gives s t) ls a (settled c)
SentAnswers-unsettled gives s t ls a b c first part =
    record { answers = first.answers; given = first.given; written = Sends-unsettled a b c first.answers first.written part }

-- nothing was due before, and nothing is
pub SentAnswers-wrote : {S : Type 0} (gives : Giving S) (s t : S) (ls : List (List ℕ)) (a b : Known)
    → SentAnswers (Between gives s t) ls (settled a) (settled b) → Wrote (Between gives s t) ls a b
SentAnswers-wrote gives s t ls a b sent =
    Answered-then (λ xs (sends : Sends (settled a) (settled b) xs). subst (Appends a b) (sym (sends.split ∙ append-nil sends.front)) sends.written) sent

pub SentPart-wrote : {S : Type 0} (gives : Giving S) (s t : S) (ls : List (List ℕ)) (a b : Known)
    → SentPart (Between gives s t) ls (settled a) (settled b) → WrotePart (Between gives s t) ls a b
SentPart-wrote gives s t ls a b sent = record { answers = sent.answers; given = sent.given; written = sent.written }

-- ---- One answer.

pub sent_answer : {S T : Type 0} (gives : Giving S) (s t : S) (l xs : List ℕ) (a b : Output) (ran : Result T RunFault)
    → gives s l (Some xs) t → OnOk ran (Sends a b xs) → OnOk ran (SentAnswers (Between gives s t) (l ∷ []) a b)
sent_answer gives s t l xs a b (Ok done) one sends =
    record { answers = xs; given = Answers-one gives s t l xs one; written = sends }
sent_answer gives s t l xs a b (Err fault) one sends = tt

-- a part of what was due and the answer after it
pub part_of_answer : {S : Type 0} (gives : Giving S) (s t : S) (l xs : List ℕ) (a b : Output) (e : RunFault) → gives s l (Some xs) t
    → e ≡ Write → AppendsPart a.held b.held (a.due ++ xs) → Unwritten gives s t (l ∷ []) a b e
part_of_answer gives s t l xs a b e one is part =
    subst (λ f. Unwritten gives s t (l ∷ []) a b f) (sym is)
    (record { answers = xs; given = Answers-one gives s t l xs one; written = part })

pub unsent_answer : {S T : Type 0} (gives : Giving S) (s t : S) (l xs : List ℕ) (a b : Output) (ran : Result T RunFault)
    → gives s l (Some xs) t → OnErr ran (AppendsPart a.held b.held (a.due ++ xs)) → IfErr ran (λ fault. fault ≡ Write)
    → IfErr ran (λ fault. Unwritten gives s t (l ∷ []) a b fault)
unsent_answer gives s t l xs a b (Ok done) one part is = tt
unsent_answer gives s t l xs a b (Err fault) one part is = part_of_answer gives s t l xs a b fault one is part

-- a part of what was due, if there was no memory for the answer
pub unspelt_answer : {S : Type 0} (gives : Giving S) (s t : S) (l : List ℕ) (a b : Output) (e : RunFault)
    → (xs : List ℕ) × gives s l (Some xs) t → e ≡ Write → AppendsPart a.held b.held a.due → Unwritten gives s t (l ∷ []) a b e
unspelt_answer gives s t l a b e (xs, one) is part =
    part_of_answer gives s t l xs a b e one is (part_before a.held b.held a.due xs part)

-- what was due was written, and there was no memory for the answer
pub halted_answer : {S : Type 0} (gives : Giving S) (s t : S) (l : List ℕ) (held b : Known) (due : List ℕ) → gives s l None t
    → Appends held b due → Halted gives s t (l ∷ []) (output_of held due) (settled b)
halted_answer gives s t l held b due none whole = record {
  before = [];
  stopped = l;
  split = refl;
  mid = s;
  sent = SentAnswers-none gives s (output_of held due) (settled b) (sends_nothing held b due whole);
  unanswered = none;
}

-- the same after lines that were answered
pub halted_behind : {S : Type 0} (gives : Giving S) (s t u : S) (ls ms : List (List ℕ)) (a b c : Output)
    → SentAnswers (Between gives s t) ls a b → Halted gives t u ms b c → Halted gives s u (ls ++ ms) a c
halted_behind gives s t u ls ms a b c first halted = record {
  before = ls ++ halted.before;
  stopped = halted.stopped;
  split = ap (λ l. ls ++ l) halted.split ∙ sym (append_assoc ls halted.before (halted.stopped ∷ []));
  mid = halted.mid;
  sent = SentAnswers-trans gives s t halted.mid ls halted.before a b c first halted.sent;
  unanswered = halted.unanswered;
}

-- a part of what was due after the answers
pub unsettled_answers : {S : Type 0} (gives : Giving S) (s t : S) (ls : List (List ℕ)) (a b : Output) (c : Known) (e : RunFault)
    → SentAnswers (Between gives s t) ls a b → e ≡ Write → AppendsPart b.held c b.due → Unwritten gives s t ls a (settled c) e
unsettled_answers gives s t ls a b c e sent is part =
    subst (λ f. Unwritten gives s t ls a (settled c) f) (sym is) (SentAnswers-unsettled gives s t ls a b c sent part)
