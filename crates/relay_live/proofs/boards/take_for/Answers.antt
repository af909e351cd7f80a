use Rattle.std.proofs.Common.{sym, ap, ◌∙◌, ◌≡◌, ◌+◌}
use Rattle.std.proofs.lemmas.Option.{same_Some}
use Rattle.std.specs.Option.{option_copied_mut}
use lib.ListN.{get_elem?}
use Rattle.live_board.specs.Seats.{BoardSeat}
use Rattle.relay_core.specs.Name.{same_name}
use Rattle.relay_live.proofs.Maps.{found_at, written_at}
use Rattle.relay_live.proofs.boards.take_for.Goals as goal

pub take_at-requires : goal.take_at-requires
take_at-requires c =
    let f = c.args.seated.now in
    let s = c.requires.seated in
    let found = found_at (same_name f.board) c.args.boards.now.entries f.index s.at in
    let is : c.in-Some.live.now ≡ s.board = same_Some _ _ (sym (ap option_copied_mut c.in-Some.is) ∙ c.get_index_mut.ensures.value ∙ sym found ∙ s.there) in
    (s.index, s.part, ap (λ (h : BoardSeat). get_elem? h.knows.parts s.index) is ∙ s.carried, s.slot_is, λ i. s.joined_is i + s.taken_is i)

pub returns-clause-swapped : goal.returns-clause-swapped
returns-clause-swapped c =
    let f = c.args.seated.now in
    let s = c.requires.seated in (
      c.in-Some.live.now,
      c.take_at.new.self,
      found_at (same_name f.board) c.args.boards.now.entries f.index s.at ∙ sym c.get_index_mut.ensures.value ∙ ap option_copied_mut c.in-Some.is,
      (c.take_at.ensures.knows, c.take_at.ensures.sound, c.take_at.ensures.answer),
      written_at (same_name f.board) c.args.boards.now.entries f.index s.at c.take_at.new.self,
    )
