-- Lemmas on lines that were answered one after another.
use Rattle.std.proofs.Common.{ℕ, List, [], ◌∷◌, ◌++◌, take, map, Option, Some, refl, sym, ap, ◌∙◌, subst}
use Rattle.std.proofs.Common.{append_assoc, append-nil}
use Rattle.relay960_engines.specs.declared.kept_line.TheConstants.{KEPT}
use Rattle.relay960_engines.specs.Lines.{Giving, Answers, Between}
use Rattle.relay960_engines.specs.Runs.{Answered, Answering}

-- some lines followed by more
pub Answers-append : {S : Type 0} (gives : Giving S) (s t u : S) (ls ms : List (List ℕ)) (xs ys : List ℕ)
    → Answers gives s ls xs t → Answers gives t ms ys u → Answers gives s (ls ++ ms) (xs ++ ys) u
unfolding Answers
Answers-append gives s t u [] ms xs ys (none, same) b =
    subst (λ x. Answers gives x ms (xs ++ ys) u) same (subst (λ x. Answers gives t ms (x ++ ys) u) (sym none) b)
Answers-append gives s t u (l ∷ ls) ms xs ys (answer, mid, rest, one, split, others) b = (
  answer,
  mid,
  rest ++ ys,
  one,
  ap (λ x. x ++ ys) split ∙ append_assoc answer rest ys,
  Answers-append gives mid t u ls ms rest ys others b,
)

-- a line is answered as its first 1,025 bytes are
abbrev pub IsCut : {S : Type 0} → Giving S → Type 0
IsCut {S} gives = (s : S) (l : List ℕ) (bytes : Option (List ℕ)) (t : S) → gives s (take KEPT l) bytes t → gives s l bytes t

-- and so are lines
pub Answers-whole : {S : Type 0} (gives : Giving S) (s t : S) (ls : List (List ℕ)) (xs : List ℕ)
    → IsCut gives
    → Answers gives s (map (take KEPT) ls) xs t → Answers gives s ls xs t
unfolding Answers
Answers-whole gives s t [] xs cut a = a
Answers-whole gives s t (l ∷ ls) xs cut (answer, mid, rest, one, split, others) =
    (answer, mid, rest, cut s l (Some answer) mid one, split, Answers-whole gives mid t ls rest cut others)

-- one line
pub Answers-one : {S : Type 0} (gives : Giving S) (s t : S) (l xs : List ℕ) → gives s l (Some xs) t → Answers gives s (l ∷ []) xs t
unfolding Answers
Answers-one gives s t l xs one = (xs, t, [], one, sym (append-nil xs), (refl, refl))

-- no lines
pub Answered-nil : {S : Type 0} (gives : Giving S) (s : S) {W : List ℕ → Type 0} → W [] → Answered W (Between gives s s) []
unfolding Answers
Answered-nil gives s none = record { answers = []; given = (refl, refl); written = none }

-- some lines and then more, if so much is true of both answers together
pub Answered-trans : {S : Type 0} (gives : Giving S) (s t u : S) (ls ms : List (List ℕ)) {V W X : List ℕ → Type 0}
    → ((xs ys : List ℕ) → V xs → W ys → X (xs ++ ys))
    → Answered V (Between gives s t) ls → Answered W (Between gives t u) ms → Answered X (Between gives s u) (ls ++ ms)
Answered-trans gives s t u ls ms join first second = record {
  answers = first.answers ++ second.answers;
  given = Answers-append gives s t u ls ms first.answers second.answers first.given second.given;
  written = join first.answers second.answers first.written second.written;
}

-- what follows of the answers
pub Answered-then : {A : Answering} {ls : List (List ℕ)} {V W : List ℕ → Type 0} → ((xs : List ℕ) → V xs → W xs)
    → Answered V A ls → Answered W A ls
Answered-then then some = record { answers = some.answers; given = some.given; written = then some.answers some.written }

-- lines that are answered as their first 1,025 bytes are
pub Answered-whole : {S : Type 0} (gives : Giving S) (s t : S) (ls : List (List ℕ)) {W : List ℕ → Type 0} → IsCut gives
    → Answered W (Between gives s t) (map (take KEPT) ls) → Answered W (Between gives s t) ls
Answered-whole gives s t ls cut some = record {
  answers = some.answers;
  given = Answers-whole gives s t ls some.answers cut some.given;
  written = some.written;
}
