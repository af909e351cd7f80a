use Rattle.c960_rules.specs.After.{after}
use Rattle.c960_rules.proofs.lemmas.AfterFacts.{legal_change}
use Rattle.c960_rules.proofs.laws.moves.legal_moves_are_safe.Goals as goal

pub returns-clause-own_king : goal.returns-clause-own_king
unfolding after
returns-clause-own_king c = λ p m legal. legal.safe

pub returns-clause-other_king : goal.returns-clause-other_king
returns-clause-other_king c = λ p m valid lawful legal. let w = legal_change p m valid lawful legal in w.spares_other
