use Rattle.std.proofs.Common.{refl, sym, ◌∙◌, rules}
use Rattle.relay_core.specs.Inner.HoldingsFields.{held_of}
use Rattle.relay_core.proofs.lemmas.Leaves.{leave_goes, leave_nobody}
use Rattle.relay_core.proofs.lemmas.Standing.{keeps, shown_is, stands}
use Rattle.relay_core.proofs.holdings.Holdings.leave.Goals as goal

pub returns-in_default-clause-stands : goal.returns-in_default-clause-stands
returns-in_default-clause-stands c =
    stands (held_of c.self.inside) _ _ _ c.self.invariant.0 _ (shown_is c.self.view_is)
    (leave_nobody (held_of c.self.inside) c.remove.new.self.entries c.args.who (search rules) (search rules))

pub invariant_of-self-2 : goal.invariant_of-self-2
invariant_of-self-2 c = (
  keeps (held_of c.self.inside) _ _ _ c.self.invariant.0 refl
      (leave_goes (held_of c.self.inside) c.remove.new.self.entries c.args.who c.in-Some.follower
      (sym c.in-Some.is ∙ c.remove.ensures.value) c.remove.ensures.updates c.remove.ensures.entries),
  c.self.invariant.1,
)

pub returns-clause-stands : goal.returns-clause-stands
returns-clause-stands c =
    rw (c.account.ensures, c.length_of-present.ensures, c.board.ensures)
    (stands (held_of c.self.inside) _ _ _ c.self.invariant.0 _ (shown_is c.self.view_is)
    (leave_goes (held_of c.self.inside) c.remove.new.self.entries c.args.who c.in-Some.follower
    (sym c.in-Some.is ∙ c.remove.ensures.value) c.remove.ensures.updates c.remove.ensures.entries))
