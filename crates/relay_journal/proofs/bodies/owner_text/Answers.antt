use Rattle.std.proofs.Common.{◌≡◌, ℕ, List, length, Option, Some, ◌∙◌, sym, ap, arith}
use Rattle.std.specs.Prelude.{◌==◌}
use Rattle.std.proofs.lemmas.Bool.{and_parts, eqb-true}
use Rattle.relay_hall.specs.Keys.{is_key}
use Rattle.relay_journal.proofs.Owners.{text_of_key}
use Rattle.relay_journal.proofs.bodies.owner_text.Goals as goal

pub returns-then-is_whole-clause-text : goal.returns-then-is_whole-clause-text
returns-then-is_whole-clause-text c =
    let text = c.as_slice-text.result.now in
    let is : c.as_slice-text.result.now ≡ c.in-Some.key = grind (arith, c.as_slice-text.ensures, c.bytes.ensures) in
    let both = and_parts (length text == 64) (is_key text) (sym c.is_whole.ensures ∙ c.if-is_whole.true) in
    text_of_key text (eqb-true (length text) 64 both.0) both.1 ∙ ap (λ (t : List ℕ). Some (Some t)) is ∙ ap (λ (o : Option (List ℕ)). Some o) (sym c.in-Some.is)
