use Rattle.std.proofs.Common.{sym, ap, ◌∙◌, ◌≡◌, ◌<◌, ◌≤◌, ◌+◌, length, subst}
use Rattle.std.proofs.lemmas.Option.{same_Some}
use mathlib.Core.Option.{some}
use lib.ListN.{get_elem?}
use Rattle.std.specs.Option.{option_copied_mut}
use Rattle.live_board.specs.declared.note.Note.TheVariants.{Vacant}
use Rattle.live_board.specs.TableWriter.{NoneVacantBelow}
use Rattle.live_board.specs.Seats.{BoardSeat}
use Rattle.relay_core.specs.Name.{same_name}
use Rattle.relay_live.proofs.Maps.{found_at, written_at}
use Rattle.relay_live.proofs.boards.join.Goals as goal

pub join_first-requires-clause-inside : goal.join_first-requires-clause-inside
join_first-requires-clause-inside c =
    let s = c.requires in
    let is : c.in-Some.live.now ≡ s.0 = same_Some _ _ (sym (ap option_copied_mut c.in-Some.is) ∙ c.get_index_mut.ensures.value ∙ s.1) in
    subst (λ (h : BoardSeat). c.args.slot < h.knows.setup.limits.followers) (sym is) s.2

pub join_first-requires-clause-vacant : goal.join_first-requires-clause-vacant
join_first-requires-clause-vacant c =
    let s = c.requires in
    let is : c.in-Some.live.now ≡ s.0 = same_Some _ _ (sym (ap option_copied_mut c.in-Some.is) ∙ c.get_index_mut.ensures.value ∙ s.1) in
    subst (λ (h : BoardSeat). get_elem? h.knows.notes c.args.slot ≡ some Vacant) (sym is) s.3

pub join_first-requires-clause-first : goal.join_first-requires-clause-first
join_first-requires-clause-first c =
    let s = c.requires in
    let is : c.in-Some.live.now ≡ s.0 = same_Some _ _ (sym (ap option_copied_mut c.in-Some.is) ∙ c.get_index_mut.ensures.value ∙ s.1) in
    subst (λ (h : BoardSeat). NoneVacantBelow c.args.slot h.knows) (sym is) s.4

pub join_first-requires-clause-from : goal.join_first-requires-clause-from
join_first-requires-clause-from c =
    let s = c.requires in
    let is : c.in-Some.live.now ≡ s.0 = same_Some _ _ (sym (ap option_copied_mut c.in-Some.is) ∙ c.get_index_mut.ensures.value ∙ s.1) in
    subst (λ (h : BoardSeat). (c.args.from ≤ length h.knows.log) × (length h.knows.log ≤ c.args.from + h.knows.setup.limits.capacity)) (sym is) (s.5, s.6)

pub returns-clause-swapped : goal.returns-clause-swapped
returns-clause-swapped c = λ name at. (
  c.in-Some.live.now,
  c.join_first.new.self,
  found_at (same_name name) c.args.boards.now.entries c.args.index at ∙ sym c.get_index_mut.ensures.value ∙ ap option_copied_mut c.in-Some.is,
  (c.join_first.ensures.knows, c.join_first.ensures.sound),
  written_at (same_name name) c.args.boards.now.entries c.args.index at c.join_first.new.self,
)
