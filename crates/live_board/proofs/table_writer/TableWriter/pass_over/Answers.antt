use Rattle.std.proofs.Common.{refl, sym, ap, ◌∙◌, List}
use lib.ListN.{get_elem?}
use Rattle.live_board.specs.declared.note.Note.{Note}
use Rattle.live_board.specs.Seats.{BoardSeat}
use Rattle.live_board.proofs.TableWriters.{writer_of}
use Rattle.live_board.proofs.table_writer.TableWriter.pass_over.Goals as goal

pub invariant_of-self : goal.invariant_of-self
invariant_of-self c =
    let i = c.self.invariant in
    writer_of _ refl i.table i.words i.key_is i.owns i.setup_is i.len_is i.notes_are i.least_is i.least_low
    (λ k less e. c.requires k less (ap (λ (h : BoardSeat). get_elem? h.knows.notes k) (sym c.self.view_is) ∙ ap (λ (l : List Note). get_elem? l k) (sym i.notes_are) ∙ e)) i.room_is i.none_held i.sound
