use Rattle.std.proofs.Common.{subst, sym}
use Rattle.c960_board.specs.declared.piece.Colour.{Colour}
use Rattle.c960_rules.specs.Attacks.{AttackedBy}
use Rattle.c960_rules.proofs.AfterSets.{king_attacked}
use Rattle.c960_rules.proofs.check.in_check.Goals as goal

pub returns : goal.returns
returns c =
    let p = c.args.position.now in
    let k = c.king_of-king.result in
    let by = c.other.ensures in
    let there =
    king_attacked p c.args.colour k c.sets-sets.ensures.valid c.king_of-king.ensures.bound c.king_of-king.ensures.stands in (
      λ h. there.1 (subst (λ (d : Colour). AttackedBy p.placement d k) by (c.attacked.ensures.0 h)),
      λ w. c.attacked.ensures.1 (subst (λ (d : Colour). AttackedBy p.placement d k) (sym by) (there.0 w)),
    )
