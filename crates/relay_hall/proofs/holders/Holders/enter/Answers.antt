use Rattle.std.proofs.Common.{◌≡◌, ◌∙◌, ◌++◌, ◌∷◌, [], ap}
use Rattle.relay_hall.specs.declared.holders.Holder.{Holder}
use Rattle.relay_hall.specs.declared.presence.Presence.TheVariants.{Here}
use Rattle.relay_hall.specs.Holders.{stand_once}
use Rattle.relay_hall.proofs.Standing.{once_as_come}
use Rattle.relay_hall.proofs.holders.Holders.enter.Goals as goal

pub invariant_of-self-2 : goal.invariant_of-self-2
invariant_of-self-2 c =
    let before = c.args.self.now.rows.items in
    let h : Holder = record { key = c.args.key; presence = Here 1 } in
    let same : c.reserve.new.self.items ≡ before = c.in_ok-reserve.ensures.items in
    record { once = ap stand_once c.push_reserved.ensures.items ∙ ap (λ rows. stand_once (rows ++ h ∷ [])) same ∙ once_as_come before h c.requires c.args.self.now.once }
