use Rattle.std.proofs.Common.{◌≡◌, ◌≤◌, length, take, ◌-◌}
use Rattle.std.specs.Io.KnownBytes.{Appends}
use Rattle.relay960_engines.proofs.writing.write_whole.Given as goal

-- this many bytes of the text are written, and nothing else, and no write has failed
abbrev pub invariant-loop-written : goal.invariant-loop-written
invariant-loop-written g l = record {
  within : l.written ≤ length l.text;
  front : Appends (g.W.WriteDevice.contents l.fn.writer) (g.W.WriteDevice.contents l.writer) (take l.written l.text);
  counted : g.W.WriteDevice.failures l.writer ≡ g.W.WriteDevice.failures l.fn.writer;
}

-- the bytes that are left
abbrev pub decreases-loop-written : goal.decreases-loop-written
decreases-loop-written g l = length l.text - l.written
