use Rattle.chained_lines.proofs.Unbegun.{left_begins_nothing}
use Rattle.chained_lines.proofs.laws.a_crash_is_no_damage.Goals as goal

pub returns : goal.returns
returns c = left_begins_nothing
