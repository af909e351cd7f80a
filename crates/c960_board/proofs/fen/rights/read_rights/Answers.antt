use Rattle.std.proofs.Common.{◌≡◌, None, arith, rules, subst}
use Rattle.c960_board.specs.declared.piece.Colour.{Colour}
use Rattle.c960_board.specs.declared.piece.Colour.TheVariants.{White, Black}
use Rattle.c960_board.specs.declared.rights.CastlingRights.{CastlingRights}
use Rattle.c960_board.specs.Position.{AreRights}
use Rattle.c960_board.proofs.Reading.RightsText.{HaveFiles, files_of, same_rights}
use Rattle.c960_board.proofs.fen.rights.read_rights.Goals as goal

pub returns-in_err-rights : goal.returns-in_err-rights
returns-in_err-rights c =
    let gone : c.from_residual.result ≡ None = grind arith in
    rw gone (λ r field. c.in_err-rights.ensures r field.spelt)

pub returns-else-are_rights : goal.returns-else-are_rights
returns-else-are_rights c = λ r field.
    let placement = c.args.placement.now in
    let text = c.args.text.now in
    let files : HaveFiles c.in_ok-rights.rights = record { white = search rules; black = search rules } in
    let same = same_rights text r c.in_ok-rights.rights field.spelt c.in_ok-rights.ensures (files_of placement text r field)
    files in
    let fit = subst (λ (s : CastlingRights). (d : Colour) → AreRights placement s d) same field.rights in
    let white : AreRights placement c.in_ok-rights.rights White = fit White in
    let black : AreRights placement c.in_ok-rights.rights Black = fit Black in
    absurd (search rules)
