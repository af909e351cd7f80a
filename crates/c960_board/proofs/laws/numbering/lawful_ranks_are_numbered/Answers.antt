use Rattle.c960_board.proofs.NumberTable.{number_from}
use Rattle.c960_board.proofs.NumberFacts.{number_is, same_number}
use Rattle.c960_board.proofs.laws.numbering.lawful_ranks_are_numbered.Goals as goal

pub returns-clause-some : goal.returns-clause-some
returns-clause-some c = λ rank h. let n = number_is rank h in (number_from rank, n.0, n.1)

pub returns-clause-alone : goal.returns-clause-alone
returns-clause-alone c = same_number
