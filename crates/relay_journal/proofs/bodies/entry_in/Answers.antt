use Rattle.std.proofs.Common.{arith, ◌≡◌, ℕ, ◌+◌, ◌-◌, List, length, take, drop, Some, Ok, Err, inl, inr, ◌∙◌, sym, ap}
use Rattle.std.proofs.lemmas.Option.{none-some, same_Some}
use Rattle.relay_core.specs.declared.step.Step.{Step}
use Rattle.relay_messages.specs.declared.fault.MessageFault.{MessageFault}
use Rattle.relay_messages.specs.declared.fault.MessageFault.TheVariants.{OutOfMemory}
use Rattle.relay_messages.specs.Decoding.{IsDecoding, decoded}
use Rattle.relay_journal.specs.declared.entry.Entry.{Entry}
use Rattle.relay_journal.specs.Bodies.{IsBody, key_in}
use Rattle.relay_journal.specs.Kept.{entry_with, key_of, step_of}
use Rattle.relay_journal.proofs.Owners.{entry_back, entry_is, if_some}
use Rattle.relay_journal.proofs.Spaces.{first_at, parts_at, same_command, same_owner, some_space}
use Rattle.relay_journal.proofs.bodies.entry_in.Goals as goal

pub returns-in_default-clause-none : goal.returns-in_default-clause-none
returns-in_default-clause-none c = λ _ e is. some_space c.args.body.now is.owner is.command is.parts is.whole c.in_default.ensures

pub returns-in_default-owner_in-clause-none : goal.returns-in_default-owner_in-clause-none
returns-in_default-owner_in-clause-none c = λ _ e is.
    let at = c.in-Some.at in
    let owner = same_owner c.args.body.now is.owner is.command is.parts is.whole at c.in-Some.ensures in
    none-some (key_of e) (sym c.in_default-owner_in.is ∙ c.owner_in.ensures ∙ ap (λ (t : List ℕ). key_in t) owner ∙ is.key)

-- what is decoded, if a step is or no memory was the ground
decoded_as : (text : List ℕ) (step : Step) → IsDecoding text (Ok step) → decoded text ≡ Ok step
decoded_as text step (inl is) = sym is
decoded_as text step (inr (short, is)) = absurd (grind (arith, is))

no_step : (text : List ℕ) (fault : MessageFault) (step : Step) → (fault ≡ OutOfMemory → ⊥) → IsDecoding text (Err fault) → decoded text ≡ Ok step → ⊥
no_step text fault step other (inl is) ok = grind (arith, is, ok)
no_step text fault step other (inr (short, is)) ok = other (grind (arith, is))

one_step : (text : List ℕ) (a b : Step) → decoded text ≡ Ok a → decoded text ≡ Ok b → a ≡ b
one_step text a b is other = grind (arith, is, other)

pub returns-in-Ok-clause-some : goal.returns-in-Ok-clause-some
returns-in-Ok-clause-some c =
    let body = c.args.body.now in
    let at = c.in-Some.at in
    let text = take (length body - (at + 1)) (drop (at + 1) body) in
    if_some (λ (e : Entry). IsBody body e) c.with.result (λ e some.
    let same = entry_is _ _ e (sym c.with.ensures ∙ some) in
    record {
      owner = take at body;
      command = text;
      parts = parts_at body at c.in-Some.ensures;
      whole = first_at body at c.in-Some.ensures;
      key = sym c.owner_in.ensures ∙ c.in-Some-owner_in.is ∙ ap Some same.0;
      step = decoded_as text c.in-Ok.step c.in-Ok.ensures ∙ ap Ok same.1;
    })

pub returns-in-Ok-clause-none : goal.returns-in-Ok-clause-none
returns-in-Ok-clause-none c = λ none e is.
    let body = c.args.body.now in
    let at = c.in-Some.at in
    let text = take (length body - (at + 1)) (drop (at + 1) body) in
    let owner = same_owner body is.owner is.command is.parts is.whole at c.in-Some.ensures in
    let command = same_command body is.owner is.command is.parts is.whole at c.in-Some.ensures in
    let key = same_Some _ (key_of e) (sym c.in-Some-owner_in.is ∙ c.owner_in.ensures ∙ ap (λ (t : List ℕ). key_in t) owner ∙ is.key) in
    let step = one_step text c.in-Ok.step (step_of e) (decoded_as text c.in-Ok.step c.in-Ok.ensures) (ap (λ (t : List ℕ). decoded t) command ∙ is.step) in
    none-some e (sym none ∙ c.with.ensures ∙ (λ i. entry_with (key i) (step i)) ∙ entry_back e)

pub returns-else-is_want_of_memory-clause-none : goal.returns-else-is_want_of_memory-clause-none
returns-else-is_want_of_memory-clause-none c = λ _ e is.
    let body = c.args.body.now in
    let at = c.in-Some.at in
    let command = same_command body is.owner is.command is.parts is.whole at c.in-Some.ensures in
    no_step (take (length body - (at + 1)) (drop (at + 1) body)) c.in-Err.fault (step_of e) (c.is_want_of_memory.ensures c.if-is_want_of_memory.false) c.in-Err.ensures
    (ap (λ (t : List ℕ). decoded t) command ∙ is.step)
