use Rattle.std.proofs.Common.{not, ap, sym, ◌∙◌, subst}
use Rattle.std.proofs.lemmas.Bool.{not-true, false_from_ne_true}
use Rattle.c960_board.specs.declared.piece.Colour.{Colour}
use Rattle.c960_board.specs.Pieces.{other}
use Rattle.c960_rules.specs.Attacks.{AttackedBy}
use Rattle.c960_rules.proofs.lemmas.MoveTests.{safe_tells, safe_from}
use Rattle.c960_rules.proofs.castling.is_safe.Goals as goal

pub returns : goal.returns
returns c =
    let p = c.args.position.now in
    let side = c.other.ensures ∙ ap other c.turn.ensures in (
      (λ h. safe_from p c.args.m.now c.args.square (λ on attack.
          let hit = c.attacked.ensures.1 (subst (λ (d : Colour). AttackedBy p.placement d c.args.square) (sym side) attack) in
          let off = not-true c.attacked.result h in cc)),
      (λ h. ap not (false_from_ne_true c.attacked.result (λ hit.
          safe_tells p c.args.m.now c.args.square h c.requires
          (subst (λ (d : Colour). AttackedBy p.placement d c.args.square) side (c.attacked.ensures.0 hit))))),
    )
