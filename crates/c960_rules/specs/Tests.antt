-- The relations of the modules of the same names, as tests that compute, and the list of all legal moves. The laws `tests_decide` and
-- `the_list_has_the_legal_moves` say that each test decides its relation.
pub mod Attacks
pub mod Check
pub mod Reaches
pub mod Castles
pub mod Legal
