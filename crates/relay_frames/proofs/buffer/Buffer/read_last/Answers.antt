use Rattle.std.proofs.Common.{◌+◌, ◌++◌, ◌∙◌, ap}
use Rattle.relay_frames.specs.Reading.{payload_at}
use Rattle.relay_frames.proofs.Moves.{whole_message}
use Rattle.relay_frames.proofs.buffer.Buffer.read_last.Goals as goal

pub returns-clause-message : goal.returns-clause-message
returns-clause-message c =
    let b = c.self.inside in
    let h = c.args.header.now in
    let n = c.args.size in
    ap (λ v. v.items) c.replace.ensures.value
    ∙ c.truncate.ensures.items
    ∙ whole_message b.bytes.items c.cut.new.bytes.items c.move_down.new.bytes.items h n b.message b.read (b.read + c.len.result) c.self.invariant.0 (ap (λ k. b.read + k) c.len.ensures) c.in_ok-rest.ensures.kept c.move_down.ensures.moved
    ∙ ap (λ held. held.message ++ payload_at held.unread h n) c.self.view_is
