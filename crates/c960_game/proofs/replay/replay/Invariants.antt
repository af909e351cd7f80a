use Rattle.std.proofs.Common.{◌≡◌, take}
use Rattle.c960_game.specs.Positions.{position_after}
use Rattle.c960_game.proofs.replay.replay.Given as goal

abbrev pub invariant-loop-m : goal.invariant-loop-m
invariant-loop-m l = l.position ≡ position_after l.first (take l.m-index l.moves)
