-- Keys whose boards have waited long enough go, one after another.
use Rattle.std.proofs.Common.{◌≡◌, ◌⊎◌, ℕ, Bool, true, false, true≢false, cond, leb-true, le-leb, List, Option, None, Some, refl, sym, ap, ◌∙◌, subst, inl, inr}
use Rattle.relay_hall.specs.declared.holders.Holder.{Holder}
use Rattle.relay_hall.specs.declared.presence.Presence.{Presence}
use Rattle.relay_hall.specs.declared.presence.Presence.TheVariants.{Here, Waits}
use Rattle.relay_hall.specs.Holders.{AllRunOut, HasRunOut, NoneHasRunOut, OthersStay, has_run_out, presence_of}
use Rattle.relay_hall.specs.Keys.{same_key}
use Rattle.relay_hall.specs.Times.{has_waited}
use Rattle.std.specs.Cmp.Lexicographic.{same_text}

-- the two tests are one
pub run_out_is : (now : Option ℕ) (p : Option Presence) → has_run_out now p ≡ true → HasRunOut now p
run_out_is now None e = absurd (true≢false (sym e))
run_out_is now (Some (Here present)) e = absurd (true≢false (sym e))
run_out_is None (Some (Waits until)) e = tt
run_out_is (Some now) (Some (Waits until)) e = leb-true until now e

pub is_run_out : (now : Option ℕ) (p : Option Presence) → HasRunOut now p → has_run_out now p ≡ true
is_run_out now None e = absurd e
is_run_out now (Some (Here present)) e = absurd e
is_run_out None (Some (Waits until)) e = refl
is_run_out (Some now) (Some (Waits until)) e = le-leb until now e

module _ (now : Option ℕ) (first : List Holder) where
  -- some keys whose boards have waited are gone, the others are as they were
  abbrev pub SomeRunOut : List Holder → Type 0
  SomeRunOut rows = (key : List ℕ) → (presence_of key rows ≡ presence_of key first) ⊎ ((presence_of key rows ≡ None) × HasRunOut now (presence_of key first))

  pub none_yet : SomeRunOut first
  none_yet key = inl refl

  pub one_more : (rows next : List Holder) → SomeRunOut rows → (gone : List ℕ) → HasRunOut now (presence_of gone rows) → presence_of gone next ≡ None → OthersStay gone rows next → SomeRunOut next
  one_more rows next was gone due none others key = by (same_key key gone) refl (was key)
    where
      due_first : (presence_of gone rows ≡ presence_of gone first) ⊎ ((presence_of gone rows ≡ None) × HasRunOut now (presence_of gone first)) → HasRunOut now (presence_of gone first)
      due_first (inl e) = subst (HasRunOut now) e due
      due_first (inr (e, d)) = d

      by : (t : Bool) → same_key key gone ≡ t → (presence_of key rows ≡ presence_of key first) ⊎ ((presence_of key rows ≡ None) × HasRunOut now (presence_of key first))
          → (presence_of key next ≡ presence_of key first) ⊎ ((presence_of key next ≡ None) × HasRunOut now (presence_of key first))
      by true z h =
          let same : key ≡ gone = same_text key gone (sym z) in
          inr (ap (λ (k : List ℕ). presence_of k next) same ∙ none, subst (λ (k : List ℕ). HasRunOut now (presence_of k first)) (sym same) (due_first (was gone)))
      by false z (inl e) = inl (others key z ∙ e)
      by false z (inr (e, d)) = inr (others key z ∙ e, d)

  pub all_gone : (rows : List Holder) → SomeRunOut rows → NoneHasRunOut now rows → AllRunOut now first rows
  all_gone rows was none key = by (was key)
    where
      kept : presence_of key rows ≡ presence_of key first → (t : Bool) → has_run_out now (presence_of key first) ≡ t → presence_of key rows ≡ cond t None (presence_of key first)
      kept e true z = absurd (none key (subst (HasRunOut now) (sym e) (run_out_is now (presence_of key first) z)))
      kept e false z = e

      by : (presence_of key rows ≡ presence_of key first) ⊎ ((presence_of key rows ≡ None) × HasRunOut now (presence_of key first)) → presence_of key rows ≡ cond (has_run_out now (presence_of key first)) None (presence_of key first)
      by (inl e) = kept e (has_run_out now (presence_of key first)) refl
      by (inr (e, d)) = e ∙ sym (ap (λ (t : Bool). cond t None (presence_of key first)) (is_run_out now (presence_of key first) d))

-- if no key's boards have done so, all stay
module _ (now : Option ℕ) (rows : List Holder) (none : NoneHasRunOut now rows) where
  not_out : (key : List ℕ) → has_run_out now (presence_of key rows) ≡ false
  not_out key = by (has_run_out now (presence_of key rows)) refl
    where
      by : (t : Bool) → has_run_out now (presence_of key rows) ≡ t → t ≡ false
      by true z = absurd (none key (run_out_is now (presence_of key rows) z))
      by false z = refl

  pub all_stay : AllRunOut now rows rows
  all_stay key = sym (ap (λ (t : Bool). cond t None (presence_of key rows)) (not_out key))

  pub none_waited : (key : Option (List ℕ)) → has_waited now rows key ≡ false
  none_waited None = refl
  none_waited (Some key) = not_out key
