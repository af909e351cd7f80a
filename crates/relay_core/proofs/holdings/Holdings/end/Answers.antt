use Rattle.std.proofs.Common.{refl, sym, ◌∙◌}
use Rattle.relay_core.specs.Inner.HoldingsFields.{held_of}
use Rattle.relay_core.proofs.lemmas.Ended.{end_goes, end_refused}
use Rattle.relay_core.proofs.lemmas.Standing.{keeps, shown_is, stands}
use Rattle.relay_core.proofs.holdings.Holdings.end.Goals as goal

pub returns-in-Err-clause-stands : goal.returns-in-Err-clause-stands
returns-in-Err-clause-stands c =
    stands (held_of c.self.inside) _ _ _ c.self.invariant.0 _ (shown_is c.self.view_is)
    (end_refused (held_of c.self.inside) c.end.new.self.entries c.args.board c.args.ending c.in-Err.refusal
    (sym c.in-Err.is ∙ c.end.ensures.answer) c.in-Err.ensures.refused)

pub invariant_of-self-2 : goal.invariant_of-self-2
invariant_of-self-2 c = (
  keeps (held_of c.self.inside) _ _ _ c.self.invariant.0 refl
      (end_goes (held_of c.self.inside) c.end.new.self.entries c.args.board c.args.ending c.in-Ok.outcome
      (sym c.in-Ok.is ∙ c.end.ensures.answer) c.in-Ok.ensures.updates c.end.ensures.len),
  rw (c.end.ensures.len, c.end.ensures.room) c.self.invariant.1,
)

pub returns-clause-stands : goal.returns-clause-stands
returns-clause-stands c =
    stands (held_of c.self.inside) _ _ _ c.self.invariant.0 _ (shown_is c.self.view_is)
    (end_goes (held_of c.self.inside) c.end.new.self.entries c.args.board c.args.ending c.in-Ok.outcome
    (sym c.in-Ok.is ∙ c.end.ensures.answer) c.in-Ok.ensures.updates c.end.ensures.len)
