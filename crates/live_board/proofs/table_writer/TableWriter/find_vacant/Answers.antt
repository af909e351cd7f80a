use Rattle.std.proofs.Common.{inl, inr, sym, ap, subst}
use Rattle.live_board.specs.Seats.{BoardSeat}
use Rattle.live_board.specs.TableWriter.{Unmoved}
use Rattle.live_board.proofs.lemmas.Tries.{unmoved, with_none}
use Rattle.live_board.proofs.table_writer.TableWriter.find_vacant.Goals as goal

pub returns-in-Some-clause-knows : goal.returns-in-Some-clause-knows
returns-in-Some-clause-knows c = inl (ap (λ (h : BoardSeat). h.knows) c.pass_over.ensures.kept)

pub returns-in-Some-clause-kept : goal.returns-in-Some-clause-kept
returns-in-Some-clause-kept c = subst (λ (h : BoardSeat). Unmoved c.args.self.now.knows h.knows) (sym c.pass_over.ensures.kept) (unmoved _)

pub returns-clause-knows : goal.returns-clause-knows
returns-clause-knows c = inr c.check_all.ensures.knows

pub returns-clause-slot : goal.returns-clause-slot
returns-clause-slot c = with_none c.vacant-2.result _ _ _ c.vacant-2.ensures.slot c.check_all.ensures.loaded
