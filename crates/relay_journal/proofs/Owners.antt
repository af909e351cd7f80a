-- What the owner and the command of a body say, and the entry that they make.
use Rattle.std.proofs.Common.{refl, ◌≡◌, ℕ, Bool, true, false, cond, List, [], ◌∷◌, ◌++◌, Option, Some, None, ◌∙◌, ap, arith}
use Rattle.std.specs.Prelude.{◌==◌, ◌&&◌, not, ◌-◌, nat_le, length, replicate, codes, IfSome}
use Rattle.std.specs.List.{list_all}
use Rattle.std.specs.Str.{bytes_eq}
use Rattle.std.proofs.lemmas.Bool.{and_parts}
use Rattle.std.proofs.lemmas.List.{append-nil}
use Rattle.std.proofs.lemmas.Option.{none-some, same_Some}
use Rattle.std.proofs.lemmas.Slice.Eq.{bytes_eq-Decides}
use Rattle.relay_core.specs.declared.step.Step.{Step}
use Rattle.relay_core.specs.declared.step.Step.TheVariants.{Open, Submit, End, Follow, Take, Leave}
use Rattle.relay_core.specs.Name.{is_name_byte}
use Rattle.relay_hall.specs.Keys.{filled, is_key}
use Rattle.relay_journal.specs.declared.entry.Entry.{Entry}
use Rattle.relay_journal.specs.declared.entry.Entry.TheVariants.{Opens, Plays, Ends}
use Rattle.relay_journal.specs.Bodies.{has_no_space, key_in}
use Rattle.relay_journal.specs.Kept.{entry_with, key_of, step_of}

-- ---- No owner has a space.

no_space : (b : ℕ) → is_name_byte b ≡ true → not (b == 32) ≡ true
no_space b is = grind (arith, is)

names_no_space : (text : List ℕ) → list_all is_name_byte text ≡ true → has_no_space text ≡ true
names_no_space [] all = refl
names_no_space (b ∷ text) all =
    let parts = and_parts (is_name_byte b) (list_all is_name_byte text) all in
    ap (λ (t : Bool). t && has_no_space text) (no_space b parts.0) ∙ names_no_space text parts.1

key_no_space : (text : List ℕ) → is_key text ≡ true → has_no_space text ≡ true
key_no_space text is =
    let rest = (and_parts (nat_le 16 (length text)) (nat_le (length text) 64 && list_all is_name_byte text) is).1 in
    names_no_space text (and_parts (nat_le (length text) 64) (list_all is_name_byte text) rest).1

pub owner_no_space : (text : List ℕ) (key : Option (List ℕ)) → key_in text ≡ Some key → has_no_space text ≡ true
owner_no_space text key is = by_dash (bytes_eq text (codes "-")) refl is
  where
    by_key : (t : Bool) → is_key text ≡ t → cond t (Some (Some (filled text))) None ≡ Some key → has_no_space text ≡ true
    by_key true is-key some = key_no_space text is-key
    by_key false isnt some = absurd (none-some key some)

    by_dash : (t : Bool) → bytes_eq text (codes "-") ≡ t → cond t (Some None) (cond (is_key text) (Some (Some (filled text))) None) ≡ Some key → has_no_space text ≡ true
    by_dash true dash some = ap has_no_space ((bytes_eq-Decides text (codes "-")).0 dash)
    by_dash false dash some = by_key (is_key text) refl some

-- ---- All bytes of a key tell it.

pub text_of_key : (text : List ℕ) → length text ≡ 64 → is_key text ≡ true → key_in text ≡ Some (Some text)
text_of_key text size is = by_dash (bytes_eq text (codes "-")) refl
  where
    whole : filled text ≡ text
    whole = ap (λ (n : ℕ). text ++ replicate (64 - n) 0) size ∙ append-nil text

    by_dash : (t : Bool) → bytes_eq text (codes "-") ≡ t → cond t (Some None) (cond (is_key text) (Some (Some (filled text))) None) ≡ Some (Some text)
    by_dash true dash =
        let one = ap length ((bytes_eq-Decides text (codes "-")).0 dash) in
        absurd (omega (arith, size, one))
    by_dash false other = ap (λ (t : Bool). cond t (Some (Some (filled text))) None) is ∙ ap (λ (t : List ℕ). Some (Some t)) whole

-- ---- A key and a step are of one entry.

pub entry_back : (e : Entry) → entry_with (key_of e) (step_of e) ≡ Some e
entry_back (Opens name start key) = refl
entry_back (Plays name m) = refl
entry_back (Ends name ending) = refl

pub entry_is : (key : Option (List ℕ)) (step : Step) (e : Entry) → entry_with key step ≡ Some e → (key ≡ key_of e) × (step ≡ step_of e)
entry_is key (Open name start) e is =
    let same = same_Some (Opens name start key) e is in
    (ap key_of same, ap step_of same)
entry_is None (Submit name m) e is =
    let same = same_Some (Plays name m) e is in
    (ap key_of same, ap step_of same)
entry_is None (End name ending) e is =
    let same = same_Some (Ends name ending) e is in
    (ap key_of same, ap step_of same)
entry_is (Some key) (Submit name m) e is = absurd (none-some e is)
entry_is (Some key) (End name ending) e is = absurd (none-some e is)
entry_is key (Follow who name from) e is = absurd (none-some e is)
entry_is key (Take who) e is = absurd (none-some e is)
entry_is key (Leave who) e is = absurd (none-some e is)

pub if_some : {A : Type 0} (P : A → Type 0) (o : Option A) → ((x : A) → o ≡ Some x → P x) → IfSome o P
if_some P None each = tt
if_some P (Some x) each = each x refl
