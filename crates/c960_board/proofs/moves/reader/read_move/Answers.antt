use Rattle.std.proofs.Common.{rules, sym}
use Rattle.c960_board.specs.declared.moves.fault.MoveFault.TheVariants.{Length}
use Rattle.c960_board.proofs.lemmas.MoveReading.{move_is_read, fault_is_read, told_is_read}
use Rattle.c960_board.proofs.moves.reader.read_move.Goals as goal

pub returns-then-text-ne5-clause-value : goal.returns-then-text-ne5-clause-value
returns-then-text-ne5-clause-value c = sym (fault_is_read Length _ (search rules))

pub returns-in_err-from-clause-value : goal.returns-in_err-from-clause-value
returns-in_err-from-clause-value c = told_is_read _ _ (search rules)

pub returns-in_err-promotion-clause-value : goal.returns-in_err-promotion-clause-value
returns-in_err-promotion-clause-value c = told_is_read _ _ (search rules)

pub returns-clause-value : goal.returns-clause-value
returns-clause-value c = sym (move_is_read _ _ (search rules))
