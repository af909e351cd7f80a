use Rattle.std.proofs.Common.{arith, sym, ◌∙◌, ◌≡◌, length}
use Rattle.std.proofs.Math.Seq.{take-length}
use Rattle.c960_game.proofs.lemmas.LogFacts.{position_after_none}
use Rattle.c960_game.proofs.ReplayFacts.{position_at_next, legal_at, half_moves_at, number_at}
use Rattle.c960_game.proofs.replay.replay.Goals as goal

pub loop-m-init : goal.loop-m-init
loop-m-init c = sym (position_after_none c.args.first.now)

-- the counters have room for the moves that are left
pub play_legal-position-requires-clause-half_moves : goal.play_legal-position-requires-clause-half_moves
play_legal-position-requires-clause-half_moves c =
    let i = c.loop-m.m-index in
    let inside = c.loop-m-test.true in
    let bound = half_moves_at c.args.first.now c.args.moves.now i (omega arith) in
    rw c.loop-m.invariant (omega (arith, bound, c.requires.half_moves))

pub play_legal-position-requires-clause-number : goal.play_legal-position-requires-clause-number
play_legal-position-requires-clause-number c =
    let i = c.loop-m.m-index in
    let inside = c.loop-m-test.true in
    let bound = number_at c.args.first.now c.args.moves.now i (omega arith) in
    rw c.loop-m.invariant (omega (arith, bound, c.requires.number))

-- the move is legal
pub play_legal-position-requires-clause-legal : goal.play_legal-position-requires-clause-legal
play_legal-position-requires-clause-legal c =
    let i = c.loop-m.m-index in
    let legal = legal_at c.args.first.now c.args.moves.now i c.m-item.result c.requires.legal c.loop-m-test.true in
    rw (← c.m-item.is, ← c.loop-m.invariant) at legal

-- the position after one move more
pub loop-m-preserved : goal.loop-m-preserved
loop-m-preserved c =
    let i = c.loop-m.m-index in
    let step = position_at_next c.args.first.now c.args.moves.now i c.m-item.result c.loop-m-test.true in
    c.play_legal-position.ensures ∙ sym (rw (← c.m-item.is, ← c.loop-m.invariant) at step)

-- the position after all moves
pub returns : goal.returns
returns c =
    let all : c.loop-m.m-index ≡ length c.args.moves.now = omega (arith, c.loop-m.auto.m-index-end, c.loop-m-test.false) in
    rw (all, take-length c.args.moves.now) at c.loop-m.invariant
