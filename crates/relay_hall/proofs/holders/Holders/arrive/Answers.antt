use Rattle.std.proofs.Common.{◌≡◌, ◌<◌, ◌∙◌, None, is_some, length, sym, ap, subst, rules, arith}
use Rattle.relay_hall.specs.declared.holders.Holder.{Holder}
use Rattle.relay_hall.specs.declared.presence.Presence.TheVariants.{Here}
use Rattle.relay_hall.specs.Holders.{OthersStay, is_waiting, presence_of, with_newcomer}
use Rattle.relay_hall.proofs.Standing.{has_come, key_changed, key_has, once_as_changed, others_as_come, others_of_changed, waited_is}
use Rattle.relay_hall.proofs.holders.Holders.arrive.Goals.{After-enter}
use Rattle.relay_hall.proofs.holders.Holders.arrive.Goals as goal

-- the key had no connection, and now has its first
absent : (c : After-enter) → presence_of c.args.key.now c.args.self.now.rows.items ≡ None
absent c = search rules

abbrev first : After-enter → Holder
first c = record { key = c.args.key.now; presence = Here 1 }

pub returns-in_default-clause-there : goal.returns-in_default-clause-there
returns-in_default-clause-there c =
    let at = (goal.at.returns-in_default-clause-there c).After-enter in
    ap (λ rs. is_some (presence_of c.args.key.now rs)) c.in_ok-enter.ensures.entered ∙ ap is_some (has_come c.args.self.now.rows.items (first at) (absent at))

pub returns-in_default-clause-counted : goal.returns-in_default-clause-counted
returns-in_default-clause-counted c =
    let at = (goal.at.returns-in_default-clause-counted c).After-enter in
    ap (presence_of c.args.key.now) c.in_ok-enter.ensures.entered ∙ has_come c.args.self.now.rows.items (first at) (absent at) ∙ sym (ap with_newcomer (absent at))

pub returns-in_default-clause-others : goal.returns-in_default-clause-others
returns-in_default-clause-others c =
    let at = (goal.at.returns-in_default-clause-others c).After-enter in
    subst (OthersStay c.args.key.now c.args.self.now.rows.items) (sym c.in_ok-enter.ensures.entered) (others_as_come c.args.self.now.rows.items (first at) (absent at))

pub invariant_of-self : goal.invariant_of-self
invariant_of-self c =
    let rows = c.args.self.now.rows in
    let within : c.in-Some.at < length rows.items = omega (arith, rows.ok.0, c.in-Some.ensures.within) in
    record { once = once_as_changed rows.items c.in-Some.at c.index_mut.result.now within c.index_mut.ensures.value c.args.self.now.once c.in-Some-with_one_more.presence }

pub returns-clause-there : goal.returns-clause-there
returns-clause-there c =
    let rows = c.args.self.now.rows in
    let within : c.in-Some.at < length rows.items = omega (arith, rows.ok.0, c.in-Some.ensures.within) in
    ap is_some (key_changed c.args.key.now rows.items c.in-Some.at c.index_mut.result.now within c.index_mut.ensures.value c.args.self.now.once c.in-Some.ensures.found c.in-Some-with_one_more.presence)

pub returns-clause-counted : goal.returns-clause-counted
returns-clause-counted c =
    let rows = c.args.self.now.rows in
    let key = c.args.key.now in
    let within : c.in-Some.at < length rows.items = omega (arith, rows.ok.0, c.in-Some.ensures.within) in
    let had = key_has key rows.items c.in-Some.at c.index.result.now within c.index.ensures c.args.self.now.once c.in-Some.ensures.found in
    key_changed key rows.items c.in-Some.at c.index_mut.result.now within c.index_mut.ensures.value c.args.self.now.once c.in-Some.ensures.found c.in-Some-with_one_more.presence
    ∙ sym (ap with_newcomer had ∙ sym c.with_one_more.ensures ∙ c.in-Some-with_one_more.is)

pub returns-clause-others : goal.returns-clause-others
returns-clause-others c =
    let rows = c.args.self.now.rows in
    let within : c.in-Some.at < length rows.items = omega (arith, rows.ok.0, c.in-Some.ensures.within) in
    others_of_changed c.args.key.now rows.items c.in-Some.at c.index_mut.result.now within c.index_mut.ensures.value c.args.self.now.once c.in-Some.ensures.found c.in-Some-with_one_more.presence

pub returns-clause-waited : goal.returns-clause-waited
returns-clause-waited c =
    let rows = c.args.self.now.rows in
    let within : c.in-Some.at < length rows.items = omega (arith, rows.ok.0, c.in-Some.ensures.within) in
    let h = c.index-2.result.now in
    let had = key_has c.args.key.now rows.items c.in-Some.at h within c.index-2.ensures c.args.self.now.once c.in-Some.ensures.found in
    waited_is c.is_due-waited.result h.presence c.is_due-waited.ensures.due ∙ sym (ap is_waiting had)
