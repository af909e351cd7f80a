use Rattle.std.proofs.Common.{◌≡◌, ◌++◌, take}
use Rattle.std.specs.List.{flat_map}
use Rattle.relay960_engines.proofs.play_texts.add_pieces.Given as goal

-- the pieces before this one are added, and nothing else
abbrev pub invariant-loop-piece : goal.invariant-loop-piece
invariant-loop-piece l =
    l.text.items ≡ l.fn.text.items ++ flat_map (λ piece. piece.now) (take l.piece-index l.pieces)
