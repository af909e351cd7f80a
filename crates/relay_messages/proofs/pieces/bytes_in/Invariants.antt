use Rattle.std.proofs.Common.{◌≡◌, length, min, take}
use Rattle.std.specs.List.{flat_map}
use Rattle.relay_messages.proofs.pieces.bytes_in.Given as goal

-- the count is that of the pieces before this one
abbrev pub invariant-loop-piece : goal.invariant-loop-piece
invariant-loop-piece l = l.count ≡ min (length (flat_map (λ piece. piece.now) (take l.piece-index l.pieces))) 18446744073709551615
