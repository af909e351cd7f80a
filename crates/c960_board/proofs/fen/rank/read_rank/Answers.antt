use Rattle.std.proofs.Common.{arith}
use Rattle.std.proofs.lemmas.List.{length-take}
use Rattle.std.proofs.lemmas.Grind.{common_steps}
use Rattle.c960_board.proofs.Reading.RankText.{run_too_long, run_twice, man_too_long, other_byte, too_short, is_rank, man_reads, run_reads}
use Rattle.c960_board.proofs.fen.rank.read_rank.Goals as goal
use Rattle.c960_board.proofs.fen.rank.read_rank.Goals.{then-after_digit-via-then-after_digit, then-after_digit-via-else-after_digit+then-run-file, in-Man+else-file-eq8, in-Run+else-after_digit+else-run-file}

pub returns-then-file-eq8 : goal.returns-then-file-eq8
returns-then-file-eq8 c =
    man_too_long _ _ c.args.text.now c.loop-byte.byte-index c.in-Man.piece c.loop-byte.invariant.reads
    c.loop-byte-test.true c.in-Man.ensures
    (omega (arith, length-take c.loop-byte.file c.loop-byte.cells))

pub returns-then-after_digit : goal.returns-then-after_digit
returns-then-after_digit c =
    elim c.then-after_digit.branch [
      | then-after_digit-via-then-after_digit w ↦
          run_twice _ _ c.args.text.now c.loop-byte.byte-index c.in-Run.run' c.loop-byte.invariant.reads
          c.loop-byte-test.true c.in-Run.ensures w.if-after_digit.true
      | then-after_digit-via-else-after_digit+then-run-file w ↦
          run_too_long _ _ c.args.text.now c.loop-byte.byte-index c.in-Run.run' c.loop-byte.invariant.reads
          c.loop-byte-test.true c.in-Run.ensures
          (omega (arith, length-take c.loop-byte.file c.loop-byte.cells))
    ]

pub returns-in-Other : goal.returns-in-Other
returns-in-Other c =
    other_byte _ _ c.args.text.now c.loop-byte.byte-index c.loop-byte.invariant.reads c.loop-byte-test.true
    c.in-Other.ensures

pub loop-byte-preserved : goal.loop-byte-preserved
loop-byte-preserved c =
    elim c.match-symbol_of.branch [
      | in-Man+else-file-eq8 w ↦
          rw (w.cells-is, w.file-is, w.after_digit-is) (record {
            full = grind (arith, common_steps);
            bound = omega arith;
            empty = λ k l. grind (arith, common_steps, c.loop-byte.invariant.empty k);
            reads = man_reads c.loop-byte.cells c.loop-byte.file _ c.args.text.now c.loop-byte.byte-index
                w.in-Man.piece c.loop-byte.invariant.reads c.loop-byte-test.true w.in-Man.ensures (omega arith);
          })
      | in-Run+else-after_digit+else-run-file w ↦
          rw (w.cells-is, w.file-is, w.after_digit-is) (record {
            full = omega arith;
            bound = omega arith;
            empty = λ k l. c.loop-byte.invariant.empty k (omega arith);
            reads = run_reads c.loop-byte.cells c.loop-byte.file _ c.args.text.now c.loop-byte.byte-index
                w.in-Run.run' c.loop-byte.invariant.reads c.loop-byte-test.true w.in-Run.ensures
                w.if-after_digit.false (omega arith) c.loop-byte.invariant.empty;
          })
    ]

pub returns-then-file-lt8 : goal.returns-then-file-lt8
returns-then-file-lt8 c =
    too_short _ _ c.args.text.now c.loop-byte.byte-index c.loop-byte.invariant.reads c.loop-byte-test.false
    (omega (arith, length-take c.loop-byte.file c.loop-byte.cells))

pub returns : goal.returns
returns c = is_rank c.loop-byte.cells c.loop-byte.file _ c.args.text.now c.loop-byte.byte-index
    c.loop-byte.invariant.reads c.loop-byte-test.false (omega arith) c.loop-byte.invariant.full
