use Rattle.std.proofs.Common.{◌≡◌, take}
use Rattle.std.specs.Io.KnownBytes.{Appends}
use Rattle.std.specs.List.{flat_map}
use Rattle.relay960_engines.specs.Moves.{spaced}
use Rattle.relay960_engines.proofs.listing.write_spaced.Given as goal

-- the texts of the moves before this one are written, and nothing else, and no write has failed
abbrev pub invariant-loop-m : goal.invariant-loop-m
invariant-loop-m g l = record {
  written : Appends (g.W.WriteDevice.contents l.fn.writer) (g.W.WriteDevice.contents l.writer)
      (flat_map spaced (take l.m-index l.moves));
  counted : g.W.WriteDevice.failures l.writer ≡ g.W.WriteDevice.failures l.fn.writer;
}
