use Rattle.std.proofs.Common.{◌≡◌, true≢false, length, sym, ap, ◌∙◌, arith, leb-true, le-leb}
use mathlib.Core.Option.{some, some-injective}
use lib.ListN.{get_elem?}
use Rattle.live_board.specs.declared.setup.BoardSetup.{BoardSetup}
use Rattle.live_board.specs.Seats.{BoardSeat}
use Rattle.live_board.proofs.TableWriters.{noted_there}
use Rattle.live_board.proofs.lemmas.Notes.{same_open}
use Rattle.live_board.proofs.table_writer.TableWriter.may_be_full.Goals.{After-index}
use Rattle.live_board.proofs.table_writer.TableWriter.may_be_full.Goals as goal

-- the note that was read
read : (c : After-index) → get_elem? c.args.self.now.knows.notes c.args.slot ≡ some c.index.result.now
read c = noted_there c.self.invariant c.args.slot c.index.result.now c.args.self.now.knows (ap (λ (h : BoardSeat). h.knows) c.self.view_is) c.requires c.index.ensures

pub returns-then-capacity-self-clause-full : goal.returns-then-capacity-self-clause-full
returns-then-capacity-self-clause-full c =
    let there = read (goal.at.returns-then-capacity-self-clause-full c).After-index ∙ ap some c.in-Open.is in
    let len = c.self.invariant.len_is ∙ ap (λ (h : BoardSeat). length h.knows.log) c.self.view_is in
    let cap = ap (λ (z : BoardSetup). z.limits.capacity) (sym c.self.invariant.setup_is) ∙ ap (λ (h : BoardSeat). h.knows.setup.limits.capacity) c.self.view_is in (
      (λ e. (c.in-Open.joined, c.in-Open.next, there, omega (arith, leb-true _ _ e, len, cap, c.if-capacity-self.true))),
      (λ m. let same = same_open _ _ _ _ (some-injective _ _ (sym there ∙ m.2)) in le-leb _ _ (omega (arith, same, m.3, len, cap))),
    )

pub returns-in_default-clause-full : goal.returns-in_default-clause-full
returns-in_default-clause-full c =
    let there = read (goal.at.returns-in_default-clause-full c).After-index in
    ((λ e. absurd (true≢false (sym e))), (λ m. absurd (c.in_default.not-Open m.0 m.1 (some-injective _ _ (sym there ∙ m.2)))))
