use Rattle.relay960.proofs.Opening.{goes_on}
use Rattle.relay960.proofs.serving.relay.go_on.Goals as goal

pub returns-clause-goes_on : goal.returns-clause-goes_on
returns-clause-goes_on c =
    goes_on c.args.service.now.limits c.args.service.now.grace c.grace_of.result c.deref.result.now c.recover.result c.grace_of.ensures
    c.recover.ensures.restarted c.recover.ensures.resumed
