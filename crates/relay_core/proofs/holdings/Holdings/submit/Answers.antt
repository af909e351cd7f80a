use Rattle.std.proofs.Common.{refl, sym, ◌∙◌}
use Rattle.relay_core.specs.Inner.HoldingsFields.{held_of}
use Rattle.relay_core.proofs.lemmas.Standing.{keeps, shown_is, stands}
use Rattle.relay_core.proofs.lemmas.Submits.{submit_goes, submit_refused}
use Rattle.relay_core.proofs.holdings.Holdings.submit.Goals as goal

pub returns-in-Err-clause-stands : goal.returns-in-Err-clause-stands
returns-in-Err-clause-stands c =
    stands (held_of c.self.inside) _ _ _ c.self.invariant.0 _ (shown_is c.self.view_is)
    (submit_refused (held_of c.self.inside) c.play.new.self.entries _ c.args.board c.args.m c.in-Err.refusal
    (sym c.in-Err.is ∙ c.play.ensures.answer) c.in-Err.ensures.refused refl)

pub invariant_of-self-in-Ok : goal.invariant_of-self-in-Ok
invariant_of-self-in-Ok c = (
  keeps (held_of c.self.inside) _ _ _ c.self.invariant.0 refl
      (submit_goes (held_of c.self.inside) c.play.new.self.entries c.publish.new.self.entries c.args.board c.args.m
      c.in-Ok.place c.in-Ok.outcome (sym c.in-Ok.is
      ∙ c.play.ensures.answer) c.in-Ok.ensures.updates c.play.ensures.len c.publish.ensures.entries),
  rw (c.play.ensures.len, c.play.ensures.room) c.self.invariant.1,
)

pub returns-in-Ok-clause-stands : goal.returns-in-Ok-clause-stands
returns-in-Ok-clause-stands c =
    stands (held_of c.self.inside) _ _ _ c.self.invariant.0 _ (shown_is c.self.view_is)
    (submit_goes (held_of c.self.inside) c.play.new.self.entries c.publish.new.self.entries c.args.board c.args.m
    c.in-Ok.place c.in-Ok.outcome (sym c.in-Ok.is
    ∙ c.play.ensures.answer) c.in-Ok.ensures.updates c.play.ensures.len c.publish.ensures.entries)
