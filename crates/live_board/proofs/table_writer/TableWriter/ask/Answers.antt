use Rattle.std.proofs.Common.{rules, arith, inl, inr, refl, sym, ap, ◌∙◌, ◌≡◌, length}
use mathlib.Core.Option.{some, some-injective}
use Rattle.live_board.specs.declared.setup.BoardSetup.{BoardSetup}
use Rattle.live_board.specs.Seats.{BoardSeat}
use Rattle.live_board.proofs.lemmas.Notes.{same_open}
use Rattle.live_board.proofs.table_writer.TableWriter.ask.Goals as goal

pub exchange-requires-clause-full : goal.exchange-requires-clause-full
exchange-requires-clause-full c =
    let there = c.check.ensures.note in
    let cap : c.check.new.self.knows.setup.limits.capacity ≡ c.self.inside.setup.limits.capacity = ap (λ (h : BoardSeat). h.knows.setup.limits.capacity) (sym c.self.view_is) ∙ ap (λ (z : BoardSetup). z.limits.capacity) c.self.invariant.setup_is in
    let len : length c.check.new.self.knows.log ≡ c.self.inside.len = ap (λ (h : BoardSeat). length h.knows.log) (sym c.self.view_is) ∙ sym c.self.invariant.len_is in
    (c.in-Open.joined, there ∙ ap some c.in-Open.is, omega (arith, c.if-next-self.true, cap, len))

pub returns-then-next-self-clause-knows : goal.returns-then-next-self-clause-knows
returns-then-next-self-clause-knows c =
    let there = c.check.ensures.note in
    let cap : c.check.new.self.knows.setup.limits.capacity ≡ c.self.inside.setup.limits.capacity = ap (λ (h : BoardSeat). h.knows.setup.limits.capacity) (sym c.self.view_is) ∙ ap (λ (z : BoardSetup). z.limits.capacity) c.self.invariant.setup_is in
    let len : length c.check.new.self.knows.log ≡ c.self.inside.len = ap (λ (h : BoardSeat). length h.knows.log) (sym c.self.view_is) ∙ sym c.self.invariant.len_is in
    (c.check.new.self.knows, c.check.ensures.knows, inl (c.in-Open.next, (c.in-Open.joined, there ∙ ap some c.in-Open.is, omega (arith, c.if-next-self.true, cap, len)), c.exchange.ensures.knows))

pub returns-else-next-self-clause-knows : goal.returns-else-next-self-clause-knows
returns-else-next-self-clause-knows c =
    let there = c.check.ensures.note in
    let cap : c.check.new.self.knows.setup.limits.capacity ≡ c.self.inside.setup.limits.capacity = ap (λ (h : BoardSeat). h.knows.setup.limits.capacity) (sym c.self.view_is) ∙ ap (λ (z : BoardSetup). z.limits.capacity) c.self.invariant.setup_is in
    let len : length c.check.new.self.knows.log ≡ c.self.inside.len = ap (λ (h : BoardSeat). length h.knows.log) (sym c.self.view_is) ∙ sym c.self.invariant.len_is in (
      c.check.new.self.knows,
      c.check.ensures.knows,
      inr (refl, λ p t. let same = same_open _ _ _ _ (sym c.in-Open.is ∙ some-injective _ _ (sym there ∙ t.1)) in c.if-next-self.false (omega (arith, same, t.2, cap, len))),
    )

pub returns-in_default : goal.returns-in_default
returns-in_default c =
    let there = c.check.ensures.note in
    record {
      table = search rules;
      knows = (c.check.new.self.knows, c.check.ensures.knows, inr (refl, λ p t. c.in_default.not-Open t.0 p (some-injective _ _ (sym there ∙ t.1))));
      before = search rules;
      sound = search rules;
    }
