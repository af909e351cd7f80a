-- Lack of memory after a text got its answer.
use Rattle.std.proofs.Common.{ℕ, List, Bool, inl, inr}
use Rattle.relay_core.specs.declared.step.Step.{Step}
use Rattle.relay_core.specs.declared.reply.Reply.{Reply}
use Rattle.relay_messages.specs.declared.answer.Answer.{Answer}
use Rattle.relay_messages.specs.declared.answer.Answer.TheVariants as answers
use Rattle.relay_pushing.specs.Connections.{Leads, Question, Stopped}

-- the keeper made the step that the text asks for, or nothing was made
pub stopped_after : {K : Type 0} (tells : Question → Bool → Type 0) (makes : K → Step → Reply → K → Type 0) (opened : List (List ℕ)) (k : K) (text : List ℕ) (answer : Answer) (boards : List (List ℕ)) (after : K) → Leads tells makes opened k text answer boards after → Stopped tells makes opened k text boards after
stopped_after tells makes opened k text (answers.Fault fault) boards after h = inr h.1
stopped_after tells makes opened k text (answers.Reply reply) boards after h =
    elim h.2 [ inl made ↦ inl (h.0, reply, h.1, made) | inr barred ↦ inr barred.unmoved ]
