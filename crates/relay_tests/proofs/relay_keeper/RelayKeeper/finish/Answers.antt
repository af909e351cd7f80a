use Rattle.relay_tests.proofs.Answered.{abandons}
use Rattle.relay_tests.proofs.relay_keeper.RelayKeeper.finish.Goals as goal

pub returns : goal.returns
returns c = abandons c.args.self.now c.args.conn c.finish.new.keeper c.finish.ensures
