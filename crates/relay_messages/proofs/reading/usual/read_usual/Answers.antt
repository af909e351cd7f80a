use Rattle.std.proofs.Common.{codes, refl}
use Rattle.relay_messages.proofs.UsualReading.{board_written, cmd_written, four_read, from_written, move_written, spectator_written, three_read, two_read}
use Rattle.relay_messages.proofs.reading.usual.read_usual.Goals as goal

pub returns-in-Some : goal.returns-in-Some
returns-in-Some c =
    let last = rw c.in-Some.is at c.in_ok-spectator.ensures in
    two_read _ _ c.args.text.now c.in_ok-open_compact.field-0.now c.in_ok-cmd.rest.now c.in_ok-second.second.now last.end c.in_ok-open_compact.ensures
    (c.in_ok-cmd.ensures (codes "cmd") cmd_written) c.in_ok-second.ensures (last.member (codes "spectator") spectator_written) last.closed

pub returns-in-Some-2 : goal.returns-in-Some-2
returns-in-Some-2 c =
    let last = rw c.in-Some-2.is at c.in_ok-m.ensures in
    three_read _ _ _ c.args.text.now c.in_ok-open_compact.field-0.now c.in_ok-cmd.rest.now c.in_ok-second.second.now c.in_ok-board.rest.now
    c.in_ok-third.third.now last.end c.in_ok-open_compact.ensures (c.in_ok-cmd.ensures (codes "cmd") cmd_written) c.in_ok-second.ensures
    (c.in_ok-board.ensures (codes "board") board_written) c.in_ok-third.ensures (last.member (codes "move") move_written) last.closed

pub returns-then-is_closed : goal.returns-then-is_closed
returns-then-is_closed c =
    three_read _ _ _ c.args.text.now c.in_ok-open_compact.field-0.now c.in_ok-cmd.rest.now c.in_ok-second.second.now c.in_ok-board.rest.now
    c.in_ok-third.third.now c.in_ok-spectator-2.rest.now c.in_ok-open_compact.ensures (c.in_ok-cmd.ensures (codes "cmd") cmd_written)
    c.in_ok-second.ensures (c.in_ok-board.ensures (codes "board") board_written) c.in_ok-third.ensures
    (c.in_ok-spectator-2.ensures (codes "spectator") spectator_written) (c.if-is_closed.ensures refl)

pub returns-in-Some-3 : goal.returns-in-Some-3
returns-in-Some-3 c =
    let last = rw c.in-Some-3.is at c.in_ok-from.ensures in
    four_read _ _ _ _ c.args.text.now c.in_ok-open_compact.field-0.now c.in_ok-cmd.rest.now c.in_ok-second.second.now c.in_ok-board.rest.now
    c.in_ok-third.third.now c.in_ok-spectator-2.rest.now c.in_ok-fourth.fourth.now last.end c.in_ok-open_compact.ensures
    (c.in_ok-cmd.ensures (codes "cmd") cmd_written) c.in_ok-second.ensures (c.in_ok-board.ensures (codes "board") board_written) c.in_ok-third.ensures
    (c.in_ok-spectator-2.ensures (codes "spectator") spectator_written) c.in_ok-fourth.ensures (last.member (codes "from") from_written) last.closed
