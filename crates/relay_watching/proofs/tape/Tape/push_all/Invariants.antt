use Rattle.std.proofs.Common.{◌≡◌, take}
use Rattle.relay_watching.specs.Course.{with_moves}
use Rattle.relay_watching.specs.Progress.{GoesOn}
use Rattle.relay_watching.proofs.tape.Tape.push_all.Given as goal

abbrev pub invariant-loop-m : goal.invariant-loop-m
invariant-loop-m l = record {
  told : l.self ≡ with_moves l.fn.self (take l.m-index l.moves);
  goes_on : GoesOn l.fn.self l.self;
}
