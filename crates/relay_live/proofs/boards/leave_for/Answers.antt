use Rattle.std.proofs.Common.{sym, ap, ◌∙◌, ◌≡◌, Some, rules}
use Rattle.std.proofs.lemmas.Option.{same_Some}
use lib.ListN.{get_elem?}
use Rattle.std.specs.Option.{option_copied_mut}
use Rattle.live_board.specs.Carried.{closing_at}
use Rattle.live_board.specs.Seats.{BoardSeat}
use Rattle.relay_core.specs.Name.{same_name}
use Rattle.relay_live.proofs.Leaves.{closing_low}
use Rattle.relay_live.proofs.Maps.{found_at, written_at}
use Rattle.relay_live.proofs.boards.leave_for.Goals as goal

pub leave_at-closing-requires : goal.leave_at-closing-requires
leave_at-closing-requires c =
    let f = c.args.seated in
    let s = c.requires.seated in
    let found = found_at (same_name f.board) c.args.boards.now.entries f.index s.at in
    let is : c.in-Some.live.now ≡ s.board = same_Some _ _ (sym (ap option_copied_mut c.in-Some.is) ∙ c.get_index_mut.ensures.value ∙ sym found ∙ s.there) in
    (s.index, s.part, ap (λ (h : BoardSeat). get_elem? h.knows.parts s.index) is ∙ s.carried, s.slot_is)

pub account-requires : goal.account-requires
account-requires c k says =
    let f = c.args.seated in
    let s = c.requires.seated in
    let found = found_at (same_name f.board) c.args.boards.now.entries f.index s.at in
    let is : c.in-Some.live.now ≡ s.board = same_Some _ _ (sym (ap option_copied_mut c.in-Some.is) ∙ c.get_index_mut.ensures.value ∙ sym found ∙ s.there) in
    let ok = c.requires.sound s.board s.there in
    let cut : closing_at s.board.knows f.slot ≡ Some k = ap (λ (h : BoardSeat). closing_at h.knows f.slot) (sym is) ∙ sym c.leave_at-closing.ensures.closing ∙ says in
    closing_low s.board.knows f.slot s.index s.part k (ok.0.board ok.1) s.carried s.slot_is cut

pub returns-clause-swapped : goal.returns-clause-swapped
returns-clause-swapped c =
    let f = c.args.seated in
    let s = c.requires.seated in (
      c.in-Some.live.now,
      c.leave_at-closing.new.self,
      found_at (same_name f.board) c.args.boards.now.entries f.index s.at ∙ sym c.get_index_mut.ensures.value ∙ ap option_copied_mut c.in-Some.is,
      (c.leave_at-closing.ensures.knows, c.leave_at-closing.ensures.sound, search rules),
      written_at (same_name f.board) c.args.boards.now.entries f.index s.at c.leave_at-closing.new.self,
    )
