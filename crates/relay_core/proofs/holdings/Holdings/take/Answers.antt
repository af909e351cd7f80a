use Rattle.std.proofs.Common.{nat_eq, refl, sym, ◌∙◌, rules}
use Rattle.std.specs.Map.{lookup}
use Rattle.relay_core.specs.Inner.HoldingsFields.{held_of}
use Rattle.relay_core.proofs.lemmas.Lists.{none_below, some_below}
use Rattle.relay_core.proofs.lemmas.Standing.{keeps, shown_is, stands}
use Rattle.relay_core.proofs.lemmas.Takes.{answer_to, has_places, take_goes, take_nobody}
use Rattle.relay_core.proofs.holdings.Holdings.take.Goals as goal

pub take-requires : goal.take-requires
take-requires c =
    has_places c.self.inside.limits
    (held_of c.self.inside) c.self.invariant.0.history c.args.who c.self.invariant.0.stands c.plies.ensures.valid.most_plies

pub returns-in_default-clause-stands : goal.returns-in_default-clause-stands
returns-in_default-clause-stands c =
    let nobody = none_below (answer_to c.self.inside.boards.entries) (lookup (nat_eq c.args.who) c.self.inside.followers.entries)
    (sym c.take.ensures.answer ∙ c.in_default.is) in
    stands (held_of c.self.inside) _ _ _ c.self.invariant.0 _ (shown_is c.self.view_is)
    (take_nobody (held_of c.self.inside) c.take.new.self.entries c.args.who nobody (search rules))

pub invariant_of-self-2 : goal.invariant_of-self-2
invariant_of-self-2 c =
    let t = some_below (answer_to c.self.inside.boards.entries) (lookup (nat_eq c.args.who) c.self.inside.followers.entries) c.in-Some.taken
    (sym c.take.ensures.answer ∙ c.in-Some.is) in (
      keeps (held_of c.self.inside) _ _ _ c.self.invariant.0 refl
          (take_goes (held_of c.self.inside) c.take.new.self.entries c.args.who t.0 t.1 c.take.ensures.updates c.take.ensures.boards),
      c.self.invariant.1,
    )

pub returns-clause-stands : goal.returns-clause-stands
returns-clause-stands c =
    let t = some_below (answer_to c.self.inside.boards.entries) (lookup (nat_eq c.args.who) c.self.inside.followers.entries) c.in-Some.taken
    (sym c.take.ensures.answer ∙ c.in-Some.is) in
    rw (sym t.2) (stands (held_of c.self.inside) _ _ _ c.self.invariant.0 _ (shown_is c.self.view_is)
    (take_goes (held_of c.self.inside) c.take.new.self.entries c.args.who t.0 t.1 c.take.ensures.updates c.take.ensures.boards))
