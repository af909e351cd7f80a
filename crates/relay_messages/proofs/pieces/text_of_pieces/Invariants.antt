use Rattle.std.proofs.Common.{◌≡◌, take}
use Rattle.std.specs.Prelude.{string_bytes}
use Rattle.std.specs.List.{flat_map}
use Rattle.relay_messages.proofs.pieces.text_of_pieces.Given as goal

-- the text is the pieces before this one
abbrev pub invariant-loop-piece : goal.invariant-loop-piece
invariant-loop-piece l = string_bytes l.text ≡ flat_map (λ piece. piece.now) (take l.piece-index l.pieces)
