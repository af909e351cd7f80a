use Rattle.watch_port.specs.Copies.{HasTaken}
use Rattle.watch_port.proofs.board_table.BoardTable.take_in.Given as goal

abbrev pub invariant-loop : goal.invariant-loop
invariant-loop l = HasTaken l.fn.self l.self
