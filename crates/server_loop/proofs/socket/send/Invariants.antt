use Rattle.std.proofs.Common.{◌≤◌, length}
use Rattle.server_loop.proofs.socket.send.Given as goal

abbrev pub invariant-loop : goal.invariant-loop
invariant-loop l = l.sent ≤ length l.bytes
