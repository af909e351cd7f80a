use Rattle.std.proofs.Common.{◌<◌, ◌≤◌, ◌+◌, sym, subst, length, take, arith}
use Rattle.std.proofs.lemmas.Cmp.{nat_list_eq_equiv}
use Rattle.relay_hall.specs.Holders.{IsNextDue}
use Rattle.relay_hall.proofs.Dues.{next_of_all, next_taken}
use Rattle.relay_hall.proofs.holders.Holders.next.Goals as goal

pub loop-at-preserved : goal.loop-at-preserved
loop-at-preserved c =
    let rows = c.args.self.now.rows in
    let h = c.index.result.now in
    let within : c.loop-at.at < length rows.items = omega (arith, rows.ok.0) in
    subst (IsNextDue (take (c.loop-at.at + 1) rows.items)) (sym c.earlier-next.ensures)
    (next_taken rows.items c.loop-at.at h within c.index.ensures c.args.self.now.once (nat_list_eq_equiv.refl h.key) c.loop-at.next c.loop-at.invariant)

pub returns : goal.returns
returns c =
    let rows = c.args.self.now.rows in
    let all : length rows.items ≤ c.loop-at.at = omega (arith, rows.ok.0) in
    next_of_all rows.items c.loop-at.at all c.loop-at.next c.loop-at.invariant
