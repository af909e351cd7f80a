use Rattle.std.proofs.Common.{◌≡◌, ◌++◌}
use Rattle.c960_board.specs.Fen.Canonical.{side_text}
use Rattle.c960_board.proofs.fen.writer.write_side.Given as goal

abbrev pub invariant-loop-file : goal.invariant-loop-file
invariant-loop-file l =
    l.initial.text.items ++ side_text l.rights l.colour 8 ≡ l.text.items ++ side_text l.rights l.colour l.file
