use Rattle.std.proofs.Common.{ap, sym, subst, ◌∙◌}
use Rattle.c960_board.specs.declared.parts.Parts.{Parts}
use Rattle.c960_board.specs.Position.{IsPosition}
use Rattle.c960_board.specs.Sets.{sets_of}
use Rattle.c960_board.proofs.lemmas.SetCells.{parts_back}
use Rattle.c960_board.proofs.position.Position.of_parts.Goals as goal

pub invariant_of-result : goal.invariant_of-result
invariant_of-result c =
    let p = c.args.parts in
    let back = parts_back p c.of-sets.result c.requires.placement.full c.of-sets.ensures in (
      subst IsPosition (sym back) c.requires,
      c.of-sets.ensures ∙ ap (λ (q : Parts). sets_of q.placement) (sym back),
    )

pub returns : goal.returns
returns c = parts_back c.args.parts c.of-sets.result c.requires.placement.full c.of-sets.ensures
