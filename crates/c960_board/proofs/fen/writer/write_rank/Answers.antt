use Rattle.std.proofs.Common.{◌≡◌, ◌+◌, ◌*◌, ◌++◌, List, ℕ, length, map, take, sym, ap, ◌∙◌, arith}
use Rattle.std.proofs.lemmas.List.{length-map}
use Rattle.c960_board.specs.Fen.Canonical.{squares_text}
use Rattle.c960_board.specs.Fen.RankCells.{rank_cells}
use Rattle.c960_board.specs.Inner.PieceLetters.{letter_in}
use Rattle.c960_board.specs.Inner.RankShape.{marks}
use Rattle.c960_board.proofs.Written.RankMarks.{letters_written, rank_spelt, spelt}
use Rattle.c960_board.proofs.fen.writer.write_rank.Goals.{After-text_length}
use Rattle.c960_board.proofs.fen.writer.write_rank.Goals as goal

-- what the marks of the rank's occupied files spell
spells : (c : After-text_length)
    → squares_text (rank_cells c.args.sets.now c.args.rank) 0 ≡ map (spelt (letter_in c.rank-pieces.result)) (marks c.occupied_files-files.result)
spells c =
    rank_spelt c.args.sets.now c.args.rank c.occupied_files-files.result (letter_in c.rank-pieces.result) c.occupied_files-files.ensures.occupied
    (λ file on. c.rank-pieces.ensures file on ∙ c.requires.letters (8 * c.args.rank + file) (omega (arith, c.requires.on_board, on)))

pub returns-clause-end : goal.returns-clause-end
returns-clause-end c =
    omega (
      arith,
      c.text_length.ensures.value,
      ap length (spells c),
      length-map (marks c.occupied_files-files.result) (spelt (letter_in c.rank-pieces.result)),
    )

pub returns-clause-text : goal.returns-clause-text
returns-clause-text c =
    let files = c.occupied_files-files.result in
    let letter = letter_in c.rank-pieces.result in
    ap (λ (n : ℕ). take (c.args.at + n) c.write_letters.new.bytes) c.text_length.ensures.value
    ∙ ap (λ (l : List ℕ). take (c.args.at + length (marks files)) l) c.write_letters.ensures
    ∙ letters_written files c.occupied_files-files.ensures.no_others letter c.args.at c.args.bytes.now c.write_digits.new.bytes
    (omega (arith, c.requires.room, c.write_digits.array_long)) c.write_digits.ensures
    ∙ ap (λ (l : List ℕ). take c.args.at c.args.bytes.now ++ l) (sym (spells c))
