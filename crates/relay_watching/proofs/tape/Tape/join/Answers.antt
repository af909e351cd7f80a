use Rattle.std.proofs.Common.{◌≡◌, refl}
use Rattle.relay_frames.specs.Frames.{text_frame}
use Rattle.relay_watching.specs.Taped.{offset}
use Rattle.relay_watching.specs.Texts.{following_answer}
use Rattle.relay_watching.proofs.Progresses.{newcomer_was_sent}
use Rattle.relay_watching.proofs.tape.Tape.join.Goals as goal

pub returns-clause-newcomer : goal.returns-clause-newcomer
returns-clause-newcomer c =
    let greeting : c.in_ok-greeting.greeting.items ≡ text_frame (following_answer c.args.place c.args.position.now) = c.in_ok-greeting.ensures in
    let at : c.offset.result ≡ offset c.args.self.now c.args.place = rw c.from.ensures at c.offset.ensures in
    rw (c.new.ensures, greeting, at) refl

pub returns-clause-sent : goal.returns-clause-sent
returns-clause-sent c =
    rw (returns-clause-newcomer c)
    (newcomer_was_sent c.args.self.now (record { place = c.args.place; position = c.args.position.now }) c.requires)
