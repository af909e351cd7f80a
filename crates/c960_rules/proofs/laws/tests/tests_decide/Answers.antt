use Rattle.c960_rules.proofs.lemmas.AttackTests.{attacked_by_tells, attacked_by_from, check_tells, check_from}
use Rattle.c960_rules.proofs.lemmas.MoveTests.{reaches_tells, reaches_from, castles_tells, castles_from, legal_tells, legal_from}
use Rattle.c960_rules.proofs.laws.tests.tests_decide.Goals as goal

pub returns-clause-attack : goal.returns-clause-attack
returns-clause-attack c = λ cells colour square. (attacked_by_tells cells colour square, attacked_by_from cells colour square)

pub returns-clause-check : goal.returns-clause-check
returns-clause-check c = λ cells colour. (check_tells cells colour, check_from cells colour)

pub returns-clause-ordinary : goal.returns-clause-ordinary
returns-clause-ordinary c = λ p m. (reaches_tells p m, reaches_from p m)

pub returns-clause-castling : goal.returns-clause-castling
returns-clause-castling c = λ p m. (castles_tells p m, castles_from p m)

pub returns-clause-legal : goal.returns-clause-legal
returns-clause-legal c = λ p m move. (legal_tells p m move, legal_from p m)
