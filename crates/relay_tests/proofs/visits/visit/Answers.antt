use Rattle.relay_tests.proofs.visits.visit.Goals as goal

pub returns : goal.returns
returns g c = λ limits h was. c.step-left.ensures.stands limits _ (c.step-following.ensures.stands limits h was)
