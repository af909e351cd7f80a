use Rattle.std.proofs.Common.{◌∷◌, refl, ap, ◌∙◌, arith}
use Rattle.json.specs.Json.{parse_map}
use Rattle.serde_json.specs.Data.{object}
use Rattle.relay_messages.specs.Beginnings.{opening}
use Rattle.relay_messages.specs.declared.passing.Nest.TheVariants.{Array}
use Rattle.relay_messages.proofs.FirstValues.{array_read, nest_refused, object_opens}
use Rattle.relay_messages.proofs.reading.any.read_opened.Goals as goal

pub returns-in_ok-members-in-Object-clause-ok : goal.returns-in_ok-members-in-Object-clause-ok
returns-in_ok-members-in-Object-clause-ok c =
    let ms = c.in_ok-members-in-Object.ensures.ok in
    (object ms.0, object_opens 126 _ c.args.reader.now (ap (λ n. opening n ∷ c.args.reader.now) c.in-Object.is) ∙ ap (parse_map object) ms.1, (ms.0, refl, ms.2))

pub returns-in_ok-pass_rest-in-Array-clause-ok : goal.returns-in_ok-pass_rest-in-Array-clause-ok
returns-in_ok-pass_rest-in-Array-clause-ok c =
    let d = array_read 126 _ c.args.reader.now _ (ap (λ n. opening n ∷ c.args.reader.now) c.in-Array.is) c.in_ok-pass_rest-in-Array.ensures.ok in (d.0, d.1, d.2)

pub returns-in_err-pass_rest-in-Array-clause-err : goal.returns-in_err-pass_rest-in-Array-clause-err
returns-in_err-pass_rest-in-Array-clause-err c fault =
    nest_refused Array 126 _ c.args.reader.now (ap (λ n. opening n ∷ c.args.reader.now) c.in-Array.is) c.in_err-pass_rest-in-Array.ensures.err

pub returns-in_err-members-in-Object-clause-err : goal.returns-in_err-members-in-Object-clause-err
returns-in_err-members-in-Object-clause-err c fault =
    object_opens 126 _ c.args.reader.now (ap (λ n. opening n ∷ c.args.reader.now) c.in-Object.is)
    ∙ ap (parse_map object) (c.in_err-members-in-Object.ensures.err (grind arith))
