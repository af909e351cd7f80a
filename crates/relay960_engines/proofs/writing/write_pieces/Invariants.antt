use Rattle.std.proofs.Common.{◌≡◌, take}
use Rattle.std.specs.Io.KnownBytes.{Appends}
use Rattle.std.specs.List.{flat_map}
use Rattle.relay960_engines.proofs.writing.write_pieces.Given as goal

-- the pieces before this one are written, and nothing else, and no write has failed
abbrev pub invariant-loop-piece : goal.invariant-loop-piece
invariant-loop-piece g l = record {
  written : Appends (g.W.WriteDevice.contents l.fn.writer) (g.W.WriteDevice.contents l.writer)
      (flat_map (λ piece. piece.now) (take l.piece-index l.pieces));
  counted : g.W.WriteDevice.failures l.writer ≡ g.W.WriteDevice.failures l.fn.writer;
}
