use Rattle.std.proofs.Common.{◌≡◌, ◌<◌, suc, None, length, sym, ap, ◌∙◌, arith, length-drop}
use Rattle.relay_service.specs.Calling.Keys.{fields_of, first_key, in_front, key_in}
use Rattle.relay_service.proofs.CallingFacts.Keying.{first_found, found_later, none_found}
use Rattle.relay_service.proofs.calling.key.first_key.Goals as goal

pub returns-in-Some : goal.returns-in-Some
returns-in-Some c = sym (c.fields.invariant ∙ first_found c.fields.rest.now c.in-Some.key (sym (c.key_in.ensures ∙ ap key_in c.in_front-field.ensures) ∙ c.in-Some.is))

pub returns-then-field-rest : goal.returns-then-field-rest
returns-then-field-rest c =
    let none : key_in (in_front 38 c.fields.rest.now) ≡ None = sym (c.key_in.ensures ∙ ap key_in c.in_front-field.ensures) ∙ c.in_default.is in
    sym (c.fields.invariant ∙ none_found c.fields.rest.now none (omega (arith, c.if-field-rest.true, ap length c.in_front-field.ensures)))

pub fields-preserved : goal.fields-preserved
fields-preserved c =
    let none : key_in (in_front 38 c.fields.rest.now) ≡ None = sym (c.key_in.ensures ∙ ap key_in c.in_front-field.ensures) ∙ c.in_default.is in
    let more : length (in_front 38 c.fields.rest.now) < length c.fields.rest.now = omega (arith, c.if-field-rest.false, ap length c.in_front-field.ensures) in
    c.fields.invariant ∙ found_later c.fields.rest.now none more ∙ ap (λ rest. first_key (fields_of rest)) (sym c.behind_first-rest.ensures)

pub fields-smaller : goal.fields-smaller
fields-smaller c =
    let more : length (in_front 38 c.fields.rest.now) < length c.fields.rest.now = omega (arith, c.if-field-rest.false, ap length c.in_front-field.ensures) in
    omega (arith, more, ap length c.behind_first-rest.ensures, length-drop (suc (length (in_front 38 c.fields.rest.now))) c.fields.rest.now)
