use Rattle.std.proofs.Common.{◌≡◌, ◌∷◌, ◌++◌, [], rules, ◌∙◌}
use Rattle.rtrb.specs.Ring.{sent}
use Rattle.watch_port.proofs.Copying.{feed_more}
use Rattle.watch_port.proofs.feed.Feed.put.Goals as goal

pub invariant_of-self-2 : goal.invariant_of-self-2
invariant_of-self-2 c =
    let put : sent c.push.new.self ≡ sent c.self.inside.ring ++ c.args.event ∷ [] = search rules in
    feed_more c.reserve.new.self.items c.note.new.told.items (sent c.self.inside.ring) (sent c.push.new.self) c.args.event
    (c.reserve.ensures.items ∙ c.self.invariant) c.note.ensures put
