-- Lemmas on what a text means.
use Rattle.std.proofs.Common.{◌≡◌, ℕ, ◌≤◌, ◌<◌, List, length, take, Bool, true, false, cond, nat_lt, Option, Some, None, Result, Ok, Err}
use Rattle.std.proofs.Common.{refl, sym, ap, ◌∙◌, arith, inl, inr}
use Rattle.std.specs.Option.{ok_or}
use Rattle.std.specs.Prelude.{codes, is_some}
use Rattle.std.specs.Str.{IsUtf8, bytes_eq, is_utf8}
use Rattle.std.proofs.lemmas.Bool.{cases_lt}
use Rattle.std.proofs.lemmas.List.{length-take, take_all}
use Rattle.std.proofs.lemmas.Str.{is_utf8-from_IsUtf8, IsUtf8-from_is_utf8}
use Rattle.serde_json.specs.Data.{Data}
use Rattle.serde_json.specs.Find.{as_object}
use Rattle.serde_json.specs.Read.{read}
use Rattle.relay_core.specs.declared.step.Step.{Step}
use Rattle.relay_messages.specs.declared.fault.MessageFault.{MessageFault}
use Rattle.relay_messages.specs.declared.fault.MessageFault.TheVariants.{OutOfMemory, NotJson, NotObject, UnknownCommand, BadField}
use Rattle.relay_messages.specs.declared.reading.TheConstants.{MOST_BYTES}
use Rattle.relay_messages.specs.Commands.{boards_in, command_by, command_in, command_named, end_in, follow_in, is_boards, leave_in, on_both_ports, open_in, submit_in, take_in, watch_command_in}
use Rattle.relay_messages.specs.Fields.{text_at}
use Rattle.relay_messages.specs.Decoding.{IsDecoding, IsReading, IsSaid, decoded, text_says, value_says, watch_decoded}

-- ---- A text that is not too long.

says_short : {A : Type 0} (says : Data → Result A MessageFault) (text : List ℕ) → length text ≤ MOST_BYTES
    → text_says says text ≡ cond (is_utf8 text) (value_says says (read text)) (Err NotJson)
unfolding text_says
says_short says text h = let short : nat_lt MOST_BYTES (length text) ≡ false = grind arith in rw short refl

-- reading a text in UTF-8 gives what decoding it gives
pub said_of_reading : {A : Type 0} (says : Data → Result A MessageFault) (text : List ℕ) (answer : Result A MessageFault)
    → length text ≤ MOST_BYTES → IsUtf8 text → IsReading says text answer → IsSaid text (text_says says text) answer
said_of_reading says text answer short is_text (inl same) =
    inl (same ∙ sym (says_short says text short ∙ rw (is_utf8-from_IsUtf8 text is_text) refl))
said_of_reading says text answer short is_text (inr want) = inr (short, want)

unread : {A : Type 0} (says : Data → Result A MessageFault) (is_text : Bool) (value : Option Data) → (is_text ≡ true → value ≡ None)
    → cond is_text (value_says says value) (Err NotJson) ≡ Err NotJson
unread says true value none = ap (value_says says) (none refl)
unread says false value none = refl

-- not JSON, or not UTF-8
pub says_no_value : {A : Type 0} (says : Data → Result A MessageFault) (text : List ℕ) → length text ≤ MOST_BYTES
    → (IsUtf8 text → read text ≡ None) → text_says says text ≡ Err NotJson
says_no_value says text h none =
    says_short says text h ∙ unread says (is_utf8 text) (read text) (λ same. none (IsUtf8-from_is_utf8 text same))

-- ---- A text that is too long.

pub says_long : {A : Type 0} (says : Data → Result A MessageFault) (text : List ℕ) → MOST_BYTES < length text
    → text_says says text ≡ Err BadField
unfolding text_says
says_long says text h = let long : nat_lt MOST_BYTES (length text) ≡ true = grind arith in rw long refl

pub decoded_long : (text : List ℕ) → MOST_BYTES < length text → decoded text ≡ Err BadField
unfolding decoded
decoded_long text = says_long command_in text

-- ---- The first bytes decide, if they are more than a text may have.

pub says_front : {A : Type 0} (says : Data → Result A MessageFault) (n : ℕ) (text : List ℕ) → MOST_BYTES < n
    → text_says says (take n text) ≡ text_says says text
says_front says n text more =
    elim (cases_lt MOST_BYTES (length text)) [
      | inl long ↦ says_long says (take n text) (omega (arith, length-take n text, more, long)) ∙ sym (says_long says text long)
      | inr short ↦ ap (text_says says) (take_all n text (omega (arith, short, more)))
    ]

pub decoded_front : (n : ℕ) (text : List ℕ) → MOST_BYTES < n → decoded (take n text) ≡ decoded text
unfolding decoded
decoded_front n text more = says_front command_in n text more

pub decoding_of_front : (n : ℕ) (text : List ℕ) (answer : Result Step MessageFault) → MOST_BYTES < n
    → IsDecoding (take n text) answer → IsDecoding text answer
decoding_of_front n text answer more (inl same) = inl (same ∙ decoded_front n text more)
decoding_of_front n text answer more (inr want) = inr (omega (arith, length-take n text, want.0, more), want.1)

-- ---- No text means that there was no memory.

abbrev IsOfText : {A : Type 0} → Result A MessageFault → Type 0
IsOfText said = said ≡ Err OutOfMemory → ⊥

either : {A : Type 0} (test : Bool) (x y : Result A MessageFault) → IsOfText x → IsOfText y → IsOfText (cond test x y)
either true x y of_x of_y = of_x
either false x y of_x of_y = of_y

field : {A : Type 0} (found : Option A) → IsOfText (ok_or found BadField)
field (Some a) same = cc
field None same = cc

unknown : IsOfText {A = Step} (Err UnknownCommand)
unknown same = cc

not_object : IsOfText {A = Step} (Err NotObject)
not_object same = cc

not_json : {A : Type 0} → IsOfText {A = A} (Err NotJson)
not_json same = cc

bad_field : {A : Type 0} → IsOfText {A = A} (Err BadField)
bad_field same = cc

named : (d : Data) (name : List ℕ) → IsOfText (command_named d name)
unfolding command_named
named d name =
    either (bytes_eq name (codes "open")) _ _ (field (open_in d))
    (either (bytes_eq name (codes "submit")) _ _ (field (submit_in d))
    (either (bytes_eq name (codes "end")) _ _ (field (end_in d))
    (either (bytes_eq name (codes "follow")) _ _ (field (follow_in d))
    (either (bytes_eq name (codes "take")) _ _ (field (take_in d))
    (either (bytes_eq name (codes "leave")) _ _ (field (leave_in d)) unknown)))))

by : (d : Data) (name : Option (List ℕ)) → IsOfText (command_by d name)
by d (Some name) = named d name
by d None = unknown

value : (d : Data) → IsOfText (command_in d)
unfolding command_in
value d = either (is_some (as_object d)) _ _ (by d (text_at (codes "cmd") d)) not_object

both : (said : Result Step MessageFault) → IsOfText said → IsOfText (on_both_ports said)
both (Ok step) of_step same = cc
both (Err fault) of_step same = of_step (ap (λ said. said) cc)

watch_value : (d : Data) → IsOfText (watch_command_in d)
unfolding watch_command_in
watch_value d = either (is_boards (text_at (codes "cmd") d)) _ _ (field (boards_in d)) (both (command_in d) (value d))

any_value : {A : Type 0} (says : Data → Result A MessageFault) → ((d : Data) → IsOfText (says d)) → (d : Option Data)
    → IsOfText (value_says says d)
any_value says of_value (Some d) = of_value d
any_value says of_value None = not_json

says_no_memory : {A : Type 0} (says : Data → Result A MessageFault) → ((d : Data) → IsOfText (says d)) → (text : List ℕ)
    → IsOfText (text_says says text)
unfolding text_says
says_no_memory says of_value text =
    either (nat_lt MOST_BYTES (length text)) _ _ bad_field
    (either (is_utf8 text) _ _ (any_value says of_value (read text)) not_json)

pub never_memory : (text : List ℕ) → decoded text ≡ Err OutOfMemory → ⊥
unfolding decoded
never_memory text = says_no_memory command_in value text

pub watch_never_memory : (text : List ℕ) → watch_decoded text ≡ Err OutOfMemory → ⊥
unfolding watch_decoded
watch_never_memory text = says_no_memory watch_command_in watch_value text
