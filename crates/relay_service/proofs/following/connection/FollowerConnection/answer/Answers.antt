use Rattle.std.proofs.Common.{rules}
use Rattle.relay_service.specs.Following.ConnectionInner.{connection_of}
use Rattle.relay_service.proofs.FollowingFacts.Hearing.{event_answered, event_fails, none_answered}
use Rattle.relay_service.proofs.following.connection.FollowerConnection.answer.Goals as goal

pub returns-in-Ok-Some-clause-ok : goal.returns-in-Ok-Some-clause-ok
returns-in-Ok-Some-clause-ok c =
    let mine = connection_of c.self.inside in
    let next = c.in-Ok-Some in
    rw (← c.self.view_is)
    (event_answered mine c.take_in.new.self next.event next.field-0 c.next.new.self (search rules) next.ensures.told next.field-0-is next.ensures.then c.take_in.result c.take_in.ensures.ok)

pub returns-in-Ok-Some-clause-err : goal.returns-in-Ok-Some-clause-err
returns-in-Ok-Some-clause-err c =
    let mine = connection_of c.self.inside in
    let next = c.in-Ok-Some in
    rw (← c.self.view_is)
    (event_fails mine c.take_in.new.self next.event next.field-0 c.next.new.self (search rules) next.ensures.told next.field-0-is next.ensures.then c.take_in.result c.take_in.ensures.err)

pub returns-in-Ok-None-clause-ok : goal.returns-in-Ok-None-clause-ok
returns-in-Ok-None-clause-ok c =
    let mine = connection_of c.self.inside in
    let next = c.in-Ok-None in
    rw (← c.self.view_is)
    (none_answered mine next.field-0 c.next.new.self next.ensures.told next.field-0-is next.ensures.then)
