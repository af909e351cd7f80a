use Rattle.std.proofs.Common.{◌≡◌, add-one, ap, refl, arith, ◌∙◌}
use Rattle.c960_board.specs.Inner.PieceLetters.{letter_in}
use Rattle.c960_board.specs.Inner.RankShape.{place_of, with_letters}
use Rattle.c960_board.proofs.Written.RankMarks.{marks_short, place_bound, place_read}
use Rattle.c960_board.proofs.fen.writer.write_letters.Goals as goal

pub bounds-bytes-at : goal.bounds-bytes-at
bounds-bytes-at c =
    let files = c.args.files in
    let file = c.loop-file.file in
    let is = place_read files c.of-places.result.places file c.place.result c.of-places.ensures c.loop-file-test.true c.place.ensures in
    omega (arith, is, place_bound files file, marks_short files, c.requires.room)

pub loop-file-preserved : goal.loop-file-preserved
loop-file-preserved c =
    let is = place_read c.args.files c.of-places.result.places c.loop-file.file c.place.result c.of-places.ensures c.loop-file-test.true c.place.ensures in
    rw (is, c.on.ensures, c.loop-file.invariant, add-one) refl

pub returns : goal.returns
returns c =
    let all : c.loop-file.file ≡ 8 = omega (arith, c.loop-file-test.false, c.loop-file.auto.file-end) in
    c.loop-file.invariant ∙ ap (λ n. with_letters (place_of c.args.files) (letter_in c.args.pieces.now) c.args.at n c.args.bytes.now) all
