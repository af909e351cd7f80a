use Rattle.c960_rules.proofs.MoveLaws.{other_stays, other_taken, other_stood}
use Rattle.c960_rules.proofs.laws.moves.other_pieces_stay.Goals as goal

pub returns-clause-stay : goal.returns-clause-stay
returns-clause-stay c = other_stays

pub returns-clause-taken : goal.returns-clause-taken
returns-clause-taken c = other_taken

pub returns-clause-none_comes : goal.returns-clause-none_comes
returns-clause-none_comes c = other_stood
