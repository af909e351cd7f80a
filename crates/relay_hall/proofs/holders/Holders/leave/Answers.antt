use Rattle.std.proofs.Common.{◌≡◌, ◌<◌, ◌∙◌, None, length, sym, ap, subst, arith}
use Rattle.relay_hall.specs.Holders.{OthersStay, departure, presence_of, stand_once, without_one}
use Rattle.relay_hall.proofs.Standing.{key_changed, key_gone, key_has, once_as_changed, once_as_gone, others_of_changed, others_of_gone}
use Rattle.relay_hall.proofs.holders.Holders.leave.Goals as goal

pub invariant_of-self : goal.invariant_of-self
invariant_of-self c =
    let rows = c.args.self.now.rows in
    let within : c.in-Some.at < length rows.items = omega (arith, rows.ok.0, c.in-Some.ensures.within) in
    record { once = ap stand_once c.remove.ensures.items ∙ once_as_gone rows.items c.in-Some.at c.remove.result within c.remove.ensures.value c.args.self.now.once }

pub returns-in_default-with_one_less-clause-left : goal.returns-in_default-with_one_less-clause-left
returns-in_default-with_one_less-clause-left c =
    let rows = c.args.self.now.rows in
    let key = c.args.key.now in
    let within : c.in-Some.at < length rows.items = omega (arith, rows.ok.0, c.in-Some.ensures.within) in
    let had = key_has key rows.items c.in-Some.at c.index.result.now within c.index.ensures c.args.self.now.once c.in-Some.ensures.found in
    ap (presence_of key) c.remove.ensures.items ∙ key_gone key rows.items c.in-Some.at c.index.result.now within c.index.ensures c.args.self.now.once c.in-Some.ensures.found
    ∙ sym (ap (λ p. without_one p c.args.until) had ∙ sym c.with_one_less.ensures ∙ c.in_default-with_one_less.is)

pub returns-in_default-with_one_less-clause-others : goal.returns-in_default-with_one_less-clause-others
returns-in_default-with_one_less-clause-others c =
    let rows = c.args.self.now.rows in
    let key = c.args.key.now in
    let within : c.in-Some.at < length rows.items = omega (arith, rows.ok.0, c.in-Some.ensures.within) in
    subst (OthersStay key rows.items) (sym c.remove.ensures.items)
    (others_of_gone key rows.items c.in-Some.at c.index.result.now within c.index.ensures c.args.self.now.once c.in-Some.ensures.found)

pub returns-in_default-with_one_less-clause-answer : goal.returns-in_default-with_one_less-clause-answer
returns-in_default-with_one_less-clause-answer c =
    let rows = c.args.self.now.rows in
    let key = c.args.key.now in
    let within : c.in-Some.at < length rows.items = omega (arith, rows.ok.0, c.in-Some.ensures.within) in
    let gone : presence_of key c.remove.new.self.items ≡ None =
    ap (presence_of key) c.remove.ensures.items ∙ key_gone key rows.items c.in-Some.at c.index.result.now within c.index.ensures c.args.self.now.once c.in-Some.ensures.found in
    sym (ap departure gone)

pub invariant_of-self-2 : goal.invariant_of-self-2
invariant_of-self-2 c =
    let rows = c.args.self.now.rows in
    let within : c.in-Some.at < length rows.items = omega (arith, rows.ok.0, c.in-Some.ensures.within) in
    record { once = once_as_changed rows.items c.in-Some.at c.index_mut.result.now within c.index_mut.ensures.value c.args.self.now.once c.in-Some-with_one_less.presence }

pub returns-clause-left : goal.returns-clause-left
returns-clause-left c =
    let rows = c.args.self.now.rows in
    let key = c.args.key.now in
    let within : c.in-Some.at < length rows.items = omega (arith, rows.ok.0, c.in-Some.ensures.within) in
    let had = key_has key rows.items c.in-Some.at c.index.result.now within c.index.ensures c.args.self.now.once c.in-Some.ensures.found in
    key_changed key rows.items c.in-Some.at c.index_mut.result.now within c.index_mut.ensures.value c.args.self.now.once c.in-Some.ensures.found c.in-Some-with_one_less.presence
    ∙ sym (ap (λ p. without_one p c.args.until) had ∙ sym c.with_one_less.ensures ∙ c.in-Some-with_one_less.is)

pub returns-clause-others : goal.returns-clause-others
returns-clause-others c =
    let rows = c.args.self.now.rows in
    let within : c.in-Some.at < length rows.items = omega (arith, rows.ok.0, c.in-Some.ensures.within) in
    others_of_changed c.args.key.now rows.items c.in-Some.at c.index_mut.result.now within c.index_mut.ensures.value c.args.self.now.once c.in-Some.ensures.found c.in-Some-with_one_less.presence

pub returns-clause-answer : goal.returns-clause-answer
returns-clause-answer c =
    let rows = c.args.self.now.rows in
    let within : c.in-Some.at < length rows.items = omega (arith, rows.ok.0, c.in-Some.ensures.within) in
    c.of.ensures ∙ sym (ap departure (key_changed c.args.key.now rows.items c.in-Some.at c.index_mut.result.now within c.index_mut.ensures.value c.args.self.now.once c.in-Some.ensures.found c.in-Some-with_one_less.presence))
