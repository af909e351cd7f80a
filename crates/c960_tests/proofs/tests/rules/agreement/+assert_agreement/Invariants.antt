-- The plies fall with each call.
use Rattle.c960_tests.proofs.tests.rules.agreement.+assert_agreement.Given as goal

abbrev pub decreases-assert_agreement : goal.decreases-assert_agreement
decreases-assert_agreement g l = l.plies
