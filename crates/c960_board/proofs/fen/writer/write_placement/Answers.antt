use Rattle.std.proofs.Common.{arith, ◌-◌, [], ◌∷◌, length, refl, ap, length-append}
use Rattle.std.proofs.lemmas.List.{take_more_set}
use Rattle.c960_board.proofs.Written.Lengths.{placement_short}
use Rattle.c960_board.proofs.Written.RankCells.{all_ranks, lower_text_more, lower_text_last}
use Rattle.c960_board.proofs.Written.Steps.{written}
use Rattle.c960_board.proofs.fen.writer.write_placement.Goals as goal

pub loop-rank-init : goal.loop-rank-init
loop-rank-init c =
    let all = all_ranks c.args.sets.now in
    record { text = rw all refl; end = rw all (omega arith); left = omega arith }

pub write_rank-end-requires-clause-room : goal.write_rank-end-requires-clause-room
write_rank-end-requires-clause-room c =
    let k = c.loop-rank.rank - 1 in
    let step = lower_text_more c.args.sets.now c.loop-rank.rank k (k - 1) (omega arith) (omega arith) in
    omega (arith, simp length-append at (ap length step), placement_short c.args.sets.now)

pub bounds-bytes-end : goal.bounds-bytes-end
bounds-bytes-end c =
    let k = c.loop-rank.rank - 1 in
    let step = lower_text_more c.args.sets.now c.loop-rank.rank k (k - 1) (omega arith) (omega arith) in
    omega (arith, simp length-append at (ap length step), placement_short c.args.sets.now)

pub loop-rank-preserved : goal.loop-rank-preserved
loop-rank-preserved c =
    let k = c.loop-rank.rank - 1 in
    let i = c.loop-rank.invariant in
    let step = lower_text_more c.args.sets.now c.loop-rank.rank k (k - 1) (omega arith) (omega arith) in
    let steps = simp length-append at (ap length step) in
    let short = placement_short c.args.sets.now in
    let rank = written _ _ _ _ _ _ c.write_rank-end.ensures.text step i.text in
    let slash = take_more_set c.write_rank-end.new.bytes c.write_rank-end.result 47 (omega arith) in
    record { text = written _ _ _ _ (47 ∷ []) _ slash refl rank; end = omega arith; left = omega arith }

pub write_rank-end-requires-2-clause-room : goal.write_rank-end-requires-2-clause-room
write_rank-end-requires-2-clause-room c =
    let last = lower_text_last c.args.sets.now c.loop-rank.rank (c.loop-rank.rank - 1) (omega arith) (omega arith) in
    omega (arith, ap length last, placement_short c.args.sets.now)

pub append-requires : goal.append-requires
append-requires c =
    let last = lower_text_last c.args.sets.now c.loop-rank.rank (c.loop-rank.rank - 1) (omega arith) (omega arith) in
    omega (arith, ap length c.write_rank-end-2.ensures.text, ap length (rw last at c.loop-rank.invariant.text))

pub returns-clause-text : goal.returns-clause-text
returns-clause-text c =
    let last = lower_text_last c.args.sets.now c.loop-rank.rank (c.loop-rank.rank - 1) (omega arith) (omega arith) in
    let all = rw last at c.loop-rank.invariant.text in
    cc

pub returns-clause-len : goal.returns-clause-len
returns-clause-len c =
    let last = lower_text_last c.args.sets.now c.loop-rank.rank (c.loop-rank.rank - 1) (omega arith) (omega arith) in
    let all = rw last at c.loop-rank.invariant.text in
    cc
