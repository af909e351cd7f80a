use Rattle.std.proofs.Common.{sym, ap, ◌∙◌, arith, length}
use mathlib.Core.Option.{some, some-injective}
use Rattle.live_board.specs.Seats.{BoardSeat}
use Rattle.live_board.proofs.TableWriters.{noted_there}
use Rattle.live_board.proofs.lemmas.Notes.{same_open}
use Rattle.live_board.proofs.table_writer.TableWriter.noted_at.Goals as goal

pub returns-in-Open-clause-open : goal.returns-in-Open-clause-open
returns-in-Open-clause-open c = λ j n e.
    let there = noted_there c.self.invariant c.args.slot c.index.result.now c.args.self.now.knows (ap (λ (h : BoardSeat). h.knows) c.self.view_is) c.requires c.index.ensures in
    let same = same_open _ _ _ _ (sym c.in-Open.is ∙ some-injective _ _ (sym there ∙ e)) in omega (arith, same)

pub returns-in-Open-clause-unopened : goal.returns-in-Open-clause-unopened
returns-in-Open-clause-unopened c = λ none.
    let there = noted_there c.self.invariant c.args.slot c.index.result.now c.args.self.now.knows (ap (λ (h : BoardSeat). h.knows) c.self.view_is) c.requires c.index.ensures in
    absurd (none _ _ (there ∙ ap some c.in-Open.is))

pub returns-in_default-clause-open : goal.returns-in_default-clause-open
returns-in_default-clause-open c = λ j n e.
    let there = noted_there c.self.invariant c.args.slot c.index.result.now c.args.self.now.knows (ap (λ (h : BoardSeat). h.knows) c.self.view_is) c.requires c.index.ensures in
    absurd (c.in_default.not-Open j n (some-injective _ _ (sym there ∙ e)))

pub returns-in_default-clause-unopened : goal.returns-in_default-clause-unopened
returns-in_default-clause-unopened c = λ _.
    c.self.invariant.len_is ∙ ap (λ (h : BoardSeat). length h.knows.log) c.self.view_is
