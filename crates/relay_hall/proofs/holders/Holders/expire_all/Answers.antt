use Rattle.std.proofs.Common.{refl, sym, subst}
use Rattle.relay_hall.specs.Holders.{AllRunOut}
use Rattle.relay_hall.proofs.Expiring.{all_gone, none_yet, one_more}
use Rattle.relay_hall.proofs.holders.Holders.expire_all.Goals as goal

pub loop-key-init : goal.loop-key-init
loop-key-init c = none_yet c.args.now c.args.self.now.rows.items

pub loop-key-preserved : goal.loop-key-preserved
loop-key-preserved c = one_more c.args.now c.args.self.now.rows.items c.loop-key.self.rows.items c.expire.new.self.rows.items c.loop-key.invariant c.in-Some._key c.in-Some.ensures.due c.in-Some.ensures.gone c.in-Some.ensures.others

pub returns : goal.returns
returns c =
    let same = c.in_default.ensures.unchanged refl in
    subst (AllRunOut c.args.now c.args.self.now.rows.items) (sym same)
    (all_gone c.args.now c.args.self.now.rows.items c.loop-key.self.rows.items c.loop-key.invariant (c.in_default.ensures.none refl))
