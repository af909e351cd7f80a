-- Lists in which one element has changed, and what events make one after another.
use Rattle.std.proofs.Common.{◌≡◌, ◌≤◌, ◌<◌, ℕ, zero, suc, List, [], ◌∷◌, ◌++◌, length, slice_get, slice_index_or, slice_set, refl, sym, ap, ◌∙◌, arith}
use mathlib.Core.List.{IsPrefix}
use Rattle.std.proofs.lemmas.List.{append-nil, append_assoc}
use Rattle.std.proofs.lemmas.Option.{same_Some}
use Rattle.watch_port.specs.declared.board_table.BoardCopy.{BoardCopy}
use Rattle.watch_port.specs.declared.board_event.Progress.{Progress}
use Rattle.watch_port.specs.declared.board_event.BoardEvent.{BoardEvent}
use Rattle.watch_port.specs.Copies.{HasTaken, TableRecord, changed_at, copied_after, copied_from}
use Rattle.watch_port.specs.Telling.{told_after, told_by, told_from}

module _ {X : Type 0} (f : X → X) where
  -- the element that was there is written as it has changed
  pub set_changes : (xs : List X) (at : ℕ) (d : X) → at < length xs → slice_set xs at (f (slice_index_or xs at d)) ≡ changed_at f at xs
  set_changes [] at d lt = refl
  set_changes (x ∷ xs) zero d lt = refl
  set_changes (x ∷ xs) (suc at) d lt = ap (λ t. x ∷ t) (set_changes xs at d (omega arith))

  -- there is none of that index
  pub changes_nothing : (xs : List X) (at : ℕ) → length xs ≤ at → changed_at f at xs ≡ xs
  changes_nothing [] at le = refl
  changes_nothing (x ∷ xs) zero le = absurd (omega arith)
  changes_nothing (x ∷ xs) (suc at) le = ap (λ t. x ∷ t) (changes_nothing xs at (omega arith))

-- one more event after others
pub copied_more : (plies : ℕ) (boards : List BoardCopy) (xs : List BoardEvent) (x : BoardEvent)
    → copied_from plies boards (xs ++ x ∷ []) ≡ copied_after plies (copied_from plies boards xs) x
copied_more plies boards [] x = refl
copied_more plies boards (y ∷ ys) x = copied_more plies (copied_after plies boards y) ys x

pub told_more : (ts : List Progress) (xs : List BoardEvent) (x : BoardEvent) → told_from ts (xs ++ x ∷ []) ≡ told_after (told_from ts xs) x
told_more ts [] x = refl
told_more ts (y ∷ ys) x = told_more (told_after ts y) ys x

-- ---- As what functions leave.

-- an element was written as f has it
pub written_at : {X : Type 0} (f : X → X) (xs : List X) (at : ℕ) (x y : X) → at < length xs → x ≡ slice_index_or xs at x → y ≡ f x
    → slice_set xs at y ≡ changed_at f at xs
written_at f xs at x y lt is now = ap (slice_set xs at) (now ∙ ap f is) ∙ set_changes f xs at x lt

-- what was peeked at comes next
pub peeked : {T : Type 0} (p x : T) (known rest : List T) → IsPrefix (p ∷ []) known → known ≡ x ∷ rest → p ≡ x
peeked p x known rest first is = same_Some p x (ap (λ l. slice_get l 0) (first.1 ∙ is))

-- boards that were those of all that was told are those of one more
pub table_more : (plies : ℕ) (old new : List BoardCopy) (told more : List BoardEvent) (x : BoardEvent) → old ≡ copied_from plies [] told
    → new ≡ copied_after plies old x → more ≡ told ++ x ∷ [] → new ≡ copied_from plies [] more
table_more plies old new told more x was now is =
    now ∙ ap (λ bs. copied_after plies bs x) was ∙ sym (ap (copied_from plies []) is ∙ copied_more plies [] told x)

pub feed_more : (old new : List Progress) (sent more : List BoardEvent) (x : BoardEvent) → old ≡ told_by sent → new ≡ told_after old x → more ≡ sent ++ x ∷ []
    → new ≡ told_by more
feed_more old new sent more x was now is = now ∙ ap (λ ts. told_after ts x) was ∙ sym (ap told_by is ∙ told_more [] sent x)

-- ---- More was taken in.

pub taken_none : (t : TableRecord) → HasTaken t t
taken_none t = record { plies = refl; more = []; told = sym (append-nil t.told) }

pub taken_more : (a b c : TableRecord) → HasTaken a b → HasTaken b c → HasTaken a c
taken_more a b c first next = record {
  plies = next.plies ∙ first.plies;
  more = first.more ++ next.more;
  told = next.told ∙ ap (λ t. t ++ next.more) first.told ∙ append_assoc a.told first.more next.more;
}
