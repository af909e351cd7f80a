use Rattle.chained_lines.proofs.Splits.{none_at, first_at, parts_at}
use Rattle.chained_lines.proofs.splitting.split.Goals as goal

pub returns-in_err-at-clause-none : goal.returns-in_err-at-clause-none
returns-in_err-at-clause-none c = λ _. none_at c.args.bytes.now c.in_err-at.ensures

pub returns-clause-some : goal.returns-clause-some
returns-clause-some c = (first_at c.args.bytes.now c.in_ok-at.at c.in_ok-at.ensures, parts_at c.args.bytes.now c.in_ok-at.at c.in_ok-at.ensures)
