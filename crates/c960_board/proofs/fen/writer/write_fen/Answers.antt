use Rattle.std.proofs.Common.{sym, ap, subst, ◌∙◌}
use Rattle.c960_board.specs.Fen.Canonical.{canonical}
use Rattle.c960_board.proofs.Written.Lengths.{FieldsFit, fields_fit}
use Rattle.c960_board.proofs.Written.Told.{parts_told}
use Rattle.c960_board.proofs.fen.writer.write_fen.Goals as goal

pub fields-requires : goal.fields-requires
fields-requires c =
    let p = c.args.position.now in
    let told = parts_told p _ _ _ _ _ _ c.sets-sets.ensures.valid c.sets-sets.ensures.value c.turn.ensures c.rights-rights.ensures c.target.ensures c.half_moves.ensures c.number.ensures in
    subst FieldsFit (sym told) (fields_fit p c.sets-sets.ensures.valid)

pub returns : goal.returns
returns c =
    let p = c.args.position.now in
    let told = parts_told p _ _ _ _ _ _ c.sets-sets.ensures.valid c.sets-sets.ensures.value c.turn.ensures c.rights-rights.ensures c.target.ensures c.half_moves.ensures c.number.ensures in
    c.new.ensures ∙ c.fields.ensures ∙ ap canonical told
