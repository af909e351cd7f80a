use Rattle.std.proofs.Common.{◌≡◌, ◌+◌, ◌<◌, ◌++◌, length, take}
use Rattle.std.specs.List.{flat_map}
use Rattle.relay_messages.proofs.pieces.ArrayVecU8TextRoom.put.Given as goal

-- the pieces before this one were added, and nothing else, and there is room for all
abbrev pub invariant-loop-piece : goal.invariant-loop-piece
invariant-loop-piece g l = record {
  added : l.self.items ≡ l.fn.self.items ++ flat_map (λ piece. piece.now) (take l.piece-index l.pieces);
  fits : length l.fn.self.items + length (flat_map (λ piece. piece.now) l.pieces) < g.row.ROOM;
}
