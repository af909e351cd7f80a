use Rattle.std.proofs.Common.{rules}
use Rattle.relay_service.specs.Inner.{service_of}
use Rattle.relay_service.proofs.Led.{no_follower, one_follower, served_at}
use Rattle.relay_service.proofs.service.Service.output.Goals as goal

pub returns-in-Some-Operator-clause-served : goal.returns-in-Some-Operator-clause-served
returns-in-Some-Operator-clause-served c =
    rw (← c.self.view_is)
    (served_at (service_of c.self.inside) c.args.number c.self.invariant.led c.self.invariant.joined c.however_many_there_are.ensures (no_follower _ (search rules)))

pub returns-in-Some-Follower-clause-served : goal.returns-in-Some-Follower-clause-served
returns-in-Some-Follower-clause-served c =
    rw (← c.self.view_is)
    (served_at (service_of c.self.inside) c.args.number c.self.invariant.led c.self.invariant.joined c.however_many_there_are.ensures (one_follower _ c.in-Some-Follower.connection (search rules) c.output.ensures.served))
