use Rattle.std.proofs.Common.{◌≡◌, None, subst, arith}
use Rattle.c960_board.specs.Fen.Fields.{Lacks}
use Rattle.c960_board.proofs.Reading.Cuts.{no_cut}
use Rattle.c960_board.proofs.fen.fields.front.Goals as goal

pub returns-in_err-field : goal.returns-in_err-field
returns-in_err-field c =
    let gone : c.from_residual.result ≡ None = grind arith in
    rw gone (λ a x front. no_cut 32 a x (subst (Lacks 32) front.whole c.in_err-field.ensures))
