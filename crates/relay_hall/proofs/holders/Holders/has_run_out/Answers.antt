use Rattle.std.proofs.Common.{◌<◌, ◌∙◌, length, refl, sym, ap, arith}
use Rattle.relay_hall.specs.Holders.{has_run_out}
use Rattle.relay_hall.proofs.Standing.{key_has}
use Rattle.relay_hall.proofs.holders.Holders.has_run_out.Goals as goal

pub returns-in-Some : goal.returns-in-Some
returns-in-Some c =
    let rows = c.args.self.now.rows in
    let within : c.in-Some.at < length rows.items = omega (arith, rows.ok.0, c.in-Some.ensures.within) in
    let had = key_has c.args.key.now rows.items c.in-Some.at c.index.result.now within c.index.ensures c.args.self.now.once c.in-Some.ensures.found in
    c.is_due.ensures.value ∙ sym (ap (has_run_out c.args.now) had)

pub returns-in-None : goal.returns-in-None
returns-in-None c = sym (ap (has_run_out c.args.now) (c.in-None.ensures.missing refl))
