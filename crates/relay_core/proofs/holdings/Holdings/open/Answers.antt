use Rattle.std.proofs.Common.{length-append, refl, sym, ◌∙◌, rules, arith}
use Rattle.relay_core.specs.Inner.HoldingsFields.{held_of}
use Rattle.relay_core.specs.Refusals.{first_refusal, open_grounds}
use Rattle.relay_core.proofs.lemmas.Opened.{open_goes}
use Rattle.relay_core.proofs.lemmas.Standing.{keeps, shown_is, stands}
use Rattle.relay_core.proofs.holdings.Holdings.open.Goals as goal

pub invariant_of-self : goal.invariant_of-self
invariant_of-self c = (
  keeps (held_of c.self.inside) _ _ _ c.self.invariant.0 refl
      (open_goes (held_of c.self.inside) c.args.board c.args.start c.in_default.field-0
      (sym c.in_default.is ∙ c.may_open.ensures
      ∙ (λ i. first_refusal (open_grounds (c.contains-is_named.ensures i) c.args.start (c.len.ensures i) (c.boards.ensures.value i))))
      c.add.new.self.entries (search rules)),
  grind (arith, length-append, c.add.ensures.added, c.add.ensures.room, c.self.invariant.1),
)

pub returns-clause-stands : goal.returns-clause-stands
returns-clause-stands c =
    stands (held_of c.self.inside) _ _ _ c.self.invariant.0 _ (shown_is c.self.view_is)
    (open_goes (held_of c.self.inside) c.args.board c.args.start c.in_default.field-0
    (sym c.in_default.is ∙ c.may_open.ensures
    ∙ (λ i. first_refusal (open_grounds (c.contains-is_named.ensures i) c.args.start (c.len.ensures i) (c.boards.ensures.value i))))
    c.add.new.self.entries (search rules))
