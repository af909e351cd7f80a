use Rattle.std.proofs.Common.{subst, rules}
use Rattle.c960_board.specs.Fen.Fields.{Lacks}
use Rattle.c960_board.proofs.Reading.Cuts.{no_cut}
use Rattle.c960_board.proofs.fen.fields.is_field.Goals as goal

pub returns-in-Some : goal.returns-in-Some
returns-in-Some c =
    (λ h. absurd (search rules), λ field. absurd (no_cut 32 _ _ (subst (Lacks 32) c.in-Some.ensures.0 field.spaceless)))
