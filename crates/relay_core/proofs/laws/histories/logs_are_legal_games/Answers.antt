use Rattle.relay_core.proofs.Games.{games}
use Rattle.relay_core.proofs.Lawful.{facts}
use Rattle.relay_core.proofs.laws.histories.logs_are_legal_games.Goals as goal

pub returns : goal.returns
returns c = λ limits h law board n at. (games limits h law board n at, (facts limits h law).short board)
