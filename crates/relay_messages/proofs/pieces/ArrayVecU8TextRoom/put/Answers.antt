use Rattle.std.proofs.Common.{ℕ, List, Bor, [], take, ap, arith, length, length-append}
use Rattle.std.proofs.lemmas.List.Folds.{length-flat_map-take}
use Rattle.std.specs.List.{flat_map}
use Rattle.relay_messages.proofs.pieces.ArrayVecU8TextRoom.put.Goals as goal

pub push_piece-requires : goal.push_piece-requires
push_piece-requires g c =
    let text : Bor (List ℕ) → List ℕ = λ piece. piece.now in
    let none : Bor (List ℕ) = record { ref_ptr = (0, 0); now = [] } in
    omega (
      arith,
      c.loop-piece.invariant.fits,
      ap length c.loop-piece.invariant.added,
      length-append c.args.self.now.items (flat_map text (take c.loop-piece.piece-index c.args.pieces.now)),
      length-flat_map-take text c.args.pieces.now c.loop-piece.piece-index none c.loop-piece-test.true,
    )
