use Rattle.relay_watching.proofs.Progresses.{sent_after}
use Rattle.relay_watching.proofs.spectator_connection.SpectatorConnection.wrote.Goals as goal

pub returns-clause-sent : goal.returns-clause-sent
returns-clause-sent c =
    λ j written sent. rw (c.advance.ensures) (sent_after c.args.tape.now j written c.args.self.now c.args.n c.requires sent)
