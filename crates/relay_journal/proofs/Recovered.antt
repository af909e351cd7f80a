-- What is read of a journal that a crash has torn.
use Rattle.std.proofs.Common.{refl, ◌≡◌, ℕ, zero, suc, ◌+◌, ◌-◌, ◌<◌, ◌≤◌, true, List, [], ◌∷◌, ◌++◌, length, take, drop, get_or, Ok, inl, inr, ◌∙◌, sym, ap, subst, arith}
use Rattle.std.specs.Prelude.{◌⊎◌, ◌==◌}
use Rattle.std.proofs.Math.ListN.{get_or-append}
use Rattle.std.proofs.Math.Seq.{get_or-append_seam}
use Rattle.std.proofs.lemmas.Bool.{cases_lt}
use Rattle.std.proofs.lemmas.List.{drop_at, take_at}
use Rattle.std.proofs.lemmas.Option.{same_Some}
use Rattle.chained_lines.specs.Left.{ReadsBack}
use Rattle.chained_lines.specs.Lines.{Line, file_of, no_seal}
use Rattle.relay_core.specs.declared.step.Step.{Step}
use Rattle.relay_messages.specs.Decoding.{decoded}
use Rattle.relay_journal.specs.declared.entry.Entry.{Entry}
use Rattle.relay_journal.specs.Bodies.{AllBodies, AreFirstOf, IsBody, SaysEntries, has_no_space, key_in}
use Rattle.relay_journal.specs.Kept.{entry_with, key_of, step_of}
use Rattle.relay_journal.proofs.Owners.{entry_back}
use Rattle.relay_journal.proofs.Spaces.{no_place}

-- no space of another is before the first
not_before : (o c p d : List ℕ) → o ++ 32 ∷ c ≡ p ++ 32 ∷ d → has_no_space p ≡ true → length o < length p → ⊥
not_before o c p d same whole lt =
    no_place p whole (length o) lt
    (ap (λ (n : ℕ). n == 32) (sym (get_or-append p (32 ∷ d) 0 (length o) lt) ∙ ap (λ (t : List ℕ). get_or t (length o) 0) (sym same) ∙ get_or-append_seam o 32 c 0))

same_length : (o c p d : List ℕ) → o ++ 32 ∷ c ≡ p ++ 32 ∷ d → has_no_space o ≡ true → has_no_space p ≡ true → length o ≡ length p
same_length o c p d same first second =
    elim (cases_lt (length o) (length p)) [ inl lt ↦ absurd (not_before o c p d same second lt) | inr ge ↦ by ge (cases_lt (length p) (length o)) ]
  where
    by : length p ≤ length o → (length p < length o) ⊎ (length o ≤ length p) → length o ≡ length p
    by ge (inl lt) = absurd (not_before p d o c (sym same) first lt)
    by ge (inr le) = omega (arith, ge, le)

same_ok : (a b : Step) (t : List ℕ) → decoded t ≡ Ok a → decoded t ≡ Ok b → a ≡ b
same_ok a b t is other = grind (arith, is, other)

-- a body says one entry
one_entry : (body : List ℕ) (e f : Entry) → IsBody body e → IsBody body f → e ≡ f
one_entry body e f a b =
    let parts = sym a.parts ∙ b.parts in
    let size = same_length a.owner a.command b.owner b.command parts a.whole b.whole in
    let owner : a.owner ≡ b.owner = sym (take_at a.owner (32 ∷ a.command) (length b.owner) size) ∙ ap (λ (t : List ℕ). take (length b.owner) t) parts ∙ take_at b.owner (32 ∷ b.command) (length b.owner) refl in
    let behind : 32 ∷ a.command ≡ 32 ∷ b.command = sym (drop_at a.owner (32 ∷ a.command) (length b.owner) size) ∙ ap (λ (t : List ℕ). drop (length b.owner) t) parts ∙ drop_at b.owner (32 ∷ b.command) (length b.owner) refl in
    let command : a.command ≡ b.command = ap (λ (t : List ℕ). drop 1 t) behind in
    let key : key_of e ≡ key_of f = same_Some _ _ (sym a.key ∙ ap (λ (t : List ℕ). key_in t) owner ∙ b.key) in
    let step : step_of e ≡ step_of f = same_ok (step_of e) (step_of f) b.command (ap (λ (t : List ℕ). decoded t) (sym command) ∙ a.step) b.step in
    same_Some e f (sym (entry_back e) ∙ (λ i. entry_with (key i) (step i)) ∙ entry_back f)

-- and lines say one list of entries
pub same_entries : (ls : List Line) (es fs : List Entry) → AllBodies ls es → AllBodies ls fs → es ≡ fs
same_entries [] [] [] a b = refl
same_entries [] [] (f ∷ fs) a b = absurd b
same_entries [] (e ∷ es) fs a b = absurd a
same_entries (l ∷ ls) [] fs a b = absurd a
same_entries (l ∷ ls) (e ∷ es) [] a b = absurd b
same_entries (l ∷ ls) (e ∷ es) (f ∷ fs) a b = λ i. one_entry l.body e f a.0 b.0 i ∷ same_entries ls es fs a.1 b.1 i

-- behind the entries of the first of some lines are those of the others
pub behind_first : (ls more : List Line) (es got : List Entry) → AllBodies ls es → AllBodies (ls ++ more) got → (later : List Entry) × (got ≡ es ++ later)
behind_first [] more [] got a b = (got, refl)
behind_first [] more (e ∷ es) got a b = absurd a
behind_first (l ∷ ls) more [] got a b = absurd a
behind_first (l ∷ ls) more (e ∷ es) [] a b = absurd b
behind_first (l ∷ ls) more (e ∷ es) (g ∷ got) a b =
    let rest = behind_first ls more es got a.1 b.1 in
    (rest.0, λ i. one_entry l.body g e b.0 a.0 i ∷ rest.1 i)

first_bodies : (n : ℕ) (ls : List Line) (es : List Entry) → AllBodies ls es → AllBodies (take n ls) (take n es)
first_bodies zero ls es all = tt
first_bodies (suc n) [] [] all = tt
first_bodies (suc n) [] (e ∷ es) all = absurd all
first_bodies (suc n) (l ∷ ls) [] all = absurd all
first_bodies (suc n) (l ∷ ls) (e ∷ es) all = (all.0, first_bodies n ls es all.1)

pub bodies_length : (ls : List Line) (es : List Entry) → AllBodies ls es → length es ≡ length ls
bodies_length [] [] all = refl
bodies_length [] (e ∷ es) all = absurd all
bodies_length (l ∷ ls) [] all = absurd all
bodies_length (l ∷ ls) (e ∷ es) all = ap suc (bodies_length ls es all.1)

-- the entries of the first so many lines
first_entries : (n : ℕ) (ls : List Line) (es got : List Entry) → SaysEntries ls es → SaysEntries (take n ls) got → got ≡ take (n - 1) es
first_entries zero ls es got all mine = mine
first_entries (suc n) [] es got all mine = mine ∙ sym (ap (λ (t : List Entry). take (suc n - 1) t) all ∙ nothing (suc n - 1))
  where
    nothing : (m : ℕ) → take {A = Entry} m [] ≡ []
    nothing zero = refl
    nothing (suc m) = refl
first_entries (suc n) (l ∷ ls) es got all mine =
    let behind : n ≡ suc n - 1 = omega arith in
    same_entries (take n ls) got (take n es) mine.1 (first_bodies n ls es all.1) ∙ ap (λ (k : ℕ). take k es) behind

-- at least those whose lines were synced
synced_first : (ls : List Line) (es : List Entry) (synced count : ℕ) → SaysEntries ls es
    → ((n : ℕ) → n ≤ length ls → length (file_of no_seal (take n ls)) ≤ synced → n ≤ count)
    → (n : ℕ) → n ≤ length es → length (file_of no_seal (take (n + 1) ls)) ≤ synced → n ≤ count - 1
synced_first [] es synced count all least n within fits =
    let none : length es ≡ 0 = ap length all in
    omega (arith, none, within)
synced_first (l ∷ ls) es synced count all least n within fits =
    let size = bodies_length ls es all.1 in
    let one_more = least (n + 1) (omega (arith, size, within)) fits in
    omega (arith, one_more)

pub torn_recovered : (ls : List Line) (es : List Entry) (synced : ℕ) (read : List Line) (got : List Entry) → SaysEntries ls es → ReadsBack no_seal ls synced read
    → SaysEntries read got → AreFirstOf ls es synced got
torn_recovered ls es synced read got all back says = record {
  count = back.count - 1;
  at_least = synced_first ls es synced back.count all back.at_least;
  first = first_entries back.count ls es got all (subst (λ (x : List Line). SaysEntries x got) back.front says);
}
