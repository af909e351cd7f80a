use Rattle.std.proofs.Common.{arith, rules, ◌-◌, [], ◌∷◌}
use Rattle.c960_board.specs.Fen.Letters.{right_letter}
use Rattle.c960_board.proofs.Written.Steps.{side_text_with, side_text_none, first_fits, written, all_written}
use Rattle.c960_board.proofs.fen.writer.write_side.Goals as goal

pub push-requires : goal.push-requires
push-requires c =
    let k = c.loop-file.file - 1 in
    let step = side_text_with c.args.rights.now c.args.colour c.loop-file.file k (omega arith) (search rules) in
    (omega arith, omega (arith, first_fits _ _ _ (right_letter c.args.colour k ∷ []) _ c.requires (rw step at c.loop-file.invariant)))

pub loop-file-preserved-then-has : goal.loop-file-preserved-then-has
loop-file-preserved-then-has c =
    let k = c.loop-file.file - 1 in
    let step = side_text_with c.args.rights.now c.args.colour c.loop-file.file k (omega arith) (search rules) in
    written _ _ _ _ (right_letter c.args.colour k ∷ []) _ (rw (← c.first_letter.ensures.value) c.push.ensures.items) step c.loop-file.invariant

pub returns : goal.returns
returns c = all_written _ _ _ (side_text_none _ _ _ (omega arith)) c.loop-file.invariant
