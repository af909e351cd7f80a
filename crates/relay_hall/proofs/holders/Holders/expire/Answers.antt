use Rattle.std.proofs.Common.{◌<◌, ◌∙◌, length, sym, ap, subst, arith}
use Rattle.relay_hall.specs.Holding.{IsDue}
use Rattle.relay_hall.specs.Holders.{HasRunOut, OthersStay, presence_of, stand_once}
use Rattle.relay_hall.proofs.Standing.{has_at, has_gone, holds_at, once_as_gone, others_as_gone}
use Rattle.relay_hall.proofs.holders.Holders.expire.Goals as goal

pub invariant_of-self : goal.invariant_of-self
invariant_of-self c =
    let rows = c.args.self.now.rows in
    let within : c.in_ok-at.at < length rows.items = omega (arith, rows.ok.0, c.in_ok-at.ensures.within) in
    record { once = ap stand_once c.remove-key.ensures.items ∙ once_as_gone rows.items c.in_ok-at.at c.remove-key.result within c.remove-key.ensures.value c.args.self.now.once }

pub returns-clause-due : goal.returns-clause-due
returns-clause-due c =
    let rows = c.args.self.now.rows in
    let h = c.remove-key.result in
    let within : c.in_ok-at.at < length rows.items = omega (arith, rows.ok.0, c.in_ok-at.ensures.within) in
    subst (HasRunOut c.args.now) (sym (has_at rows.items c.in_ok-at.at h within c.remove-key.ensures.value c.args.self.now.once))
    (holds_at rows.items c.in_ok-at.at h within c.remove-key.ensures.value (λ holder. IsDue c.args.now holder.presence) c.in_ok-at.ensures.due)

pub returns-clause-gone : goal.returns-clause-gone
returns-clause-gone c =
    let rows = c.args.self.now.rows in
    let h = c.remove-key.result in
    let within : c.in_ok-at.at < length rows.items = omega (arith, rows.ok.0, c.in_ok-at.ensures.within) in
    ap (presence_of h.key) c.remove-key.ensures.items ∙ has_gone rows.items c.in_ok-at.at h within c.remove-key.ensures.value c.args.self.now.once

pub returns-clause-others : goal.returns-clause-others
returns-clause-others c =
    let rows = c.args.self.now.rows in
    let h = c.remove-key.result in
    let within : c.in_ok-at.at < length rows.items = omega (arith, rows.ok.0, c.in_ok-at.ensures.within) in
    subst (OthersStay h.key rows.items) (sym c.remove-key.ensures.items) (others_as_gone rows.items c.in_ok-at.at h within c.remove-key.ensures.value c.args.self.now.once)
