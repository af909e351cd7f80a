use Rattle.c960_rules.specs.Effects.{with_counters}
use Rattle.c960_rules.proofs.lemmas.CounterLaws.{legal_same}
use Rattle.c960_rules.proofs.laws.moves.counters_do_not_matter.Goals as goal

pub returns : goal.returns
returns c = λ p m h n. (legal_same (with_counters p h n) m p.half_moves p.number, legal_same p m h n)
