use Rattle.std.proofs.Common.{◌≡◌, ℕ, ◌-◌, List, [], length}
use Rattle.std.specs.Io.KnownBytes.{Consumes}
use Rattle.relay960_engines.specs.Runs.{one_read}
use Rattle.relay960_engines.specs.Inner.Sending.{settled}
use Rattle.relay960_engines.specs.Inner.Taking.{TookBytes, Within}
use Rattle.relay960_engines.proofs.lines.take_all.Given as goal

-- all bytes that were read are taken, and nothing else, nothing is due, and no device has failed
abbrev pub invariant-loop-count : goal.invariant-loop-count
invariant-loop-count g l = record {
  input : List ℕ;
  read : Consumes (g.R.ReadDevice.remaining l.fn.reader) (g.R.ReadDevice.remaining l.reader) input;
  within : Within l.bounds l.progress;
  one : length l.buffer ≡ one_read;
  none : l.due ≡ [];
  took : TookBytes g.A.Speaker.gives l.fn.speaker l.speaker l.fn.progress l.progress input
      (settled (g.W.WriteDevice.contents l.fn.writer)) (settled (g.W.WriteDevice.contents l.writer));
  reads : g.R.ReadDevice.failures l.reader ≡ g.R.ReadDevice.failures l.fn.reader;
  writes : g.W.WriteDevice.failures l.writer ≡ g.W.WriteDevice.failures l.fn.writer;
}

-- the bytes that may still be taken
abbrev pub decreases-loop-count : goal.decreases-loop-count
decreases-loop-count g l = l.bounds.bytes - l.progress.taken
