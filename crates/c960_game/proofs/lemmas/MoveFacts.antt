-- The test of legality and the relation, for every triple.
use Rattle.std.proofs.Common.{◌&&◌, IsTrue, nat_lt}
use Rattle.std.proofs.lemmas.Bool.{and_parts, and_from, ltb-true, lt-ltb}
use Rattle.c960_board.specs.declared.parts.Parts.{Parts}
use Rattle.c960_board.specs.Moves.{Triple, IsMove, is_promotion}
use Rattle.c960_rules.specs.Legal.{Legal}
use Rattle.c960_rules.specs.Tests.Legal.{is_legal}
use Rattle.c960_rules.proofs.lemmas.MoveTests.{legal_tells, legal_from}
use Rattle.c960_game.specs.Tests.Moves.{is_move, is_legal_move}

-- the test of a move
pub move_tells : (m : Triple) → IsTrue (is_move m) → IsMove m
move_tells m test =
    let (from, rest) = and_parts (nat_lt m.from 64) (nat_lt m.to 64 && is_promotion m.promotion) test in
    let (to, promotion) = and_parts (nat_lt m.to 64) (is_promotion m.promotion) rest in
    record { from = ltb-true _ _ from; to = ltb-true _ _ to; promotion = promotion }

pub move_from : (m : Triple) → IsMove m → IsTrue (is_move m)
move_from m move =
    and_from (nat_lt m.from 64) (nat_lt m.to 64 && is_promotion m.promotion) (lt-ltb _ _ move.from)
    (and_from (nat_lt m.to 64) (is_promotion m.promotion) (lt-ltb _ _ move.to) move.promotion)

pub legal_move_tells : (p : Parts) (m : Triple) → IsTrue (is_legal_move p m) → Legal p m
unfolding is_legal_move
legal_move_tells p m test =
    let (move, legal) = and_parts (is_move m) (is_legal p m) test in
    legal_tells p m (move_tells m move) legal

pub legal_move_from : (p : Parts) (m : Triple) → Legal p m → IsTrue (is_legal_move p m)
unfolding is_legal_move
legal_move_from p m legal = and_from (is_move m) (is_legal p m) (move_from m legal.move) (legal_from p m legal)
