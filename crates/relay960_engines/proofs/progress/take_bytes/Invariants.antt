use Rattle.std.proofs.Common.{◌≡◌, ◌≤◌, ◌-◌, length, take}
use Rattle.relay960_engines.specs.Inner.Sending.{output_of}
use Rattle.relay960_engines.specs.Inner.Taking.{TookBytes, Within}
use Rattle.relay960_engines.proofs.progress.take_bytes.Given as goal

-- this many bytes of the chunk are taken, and nothing else, and no write has failed
abbrev pub invariant-loop-taken : goal.invariant-loop-taken
invariant-loop-taken g l = record {
  inside : l.taken ≤ length l.chunk;
  within : Within l.bounds l.progress;
  took : TookBytes g.A.Speaker.gives l.fn.speaker l.speaker l.fn.progress l.progress (take l.taken l.chunk)
      (output_of (g.W.WriteDevice.contents l.fn.writer) l.fn.due) (output_of (g.W.WriteDevice.contents l.writer) l.due);
  counted : g.W.WriteDevice.failures l.writer ≡ g.W.WriteDevice.failures l.fn.writer;
}

-- the bytes that are left
abbrev pub decreases-loop-taken : goal.decreases-loop-taken
decreases-loop-taken g l = length l.chunk - l.taken
