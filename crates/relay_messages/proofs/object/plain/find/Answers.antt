use Rattle.std.proofs.Common.{true, false, sym, ◌∙◌}
use Rattle.relay_messages.proofs.PlainFacts.{found_next}
use Rattle.relay_messages.proofs.object.plain.find.Goals as goal
use Rattle.relay_messages.proofs.object.plain.find.Goals.{then-eq, else-eq}

pub members-preserved : goal.members-preserved
members-preserved c =
    let name = c.args.key.now in
    let ms = c.args.members.now in
    let l = c.members in
    elim c.if-eq.branch [
      | then-eq w ↦ found_next name ms l.member-index _ true l.found _ c.members-test.true (sym w.if-eq.true ∙ c.eq.ensures) l.invariant w.found-is
      | else-eq w ↦ found_next name ms l.member-index _ false l.found _ c.members-test.true (sym w.if-eq.false ∙ c.eq.ensures) l.invariant w.found-is
    ]
