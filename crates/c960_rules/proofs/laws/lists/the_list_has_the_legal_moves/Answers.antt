use Rattle.c960_rules.proofs.lemmas.Listed.{listed, listed_only}
use Rattle.c960_rules.proofs.laws.lists.the_list_has_the_legal_moves.Goals as goal

pub returns : goal.returns
returns c = λ p m. (listed_only p m, listed p m)
