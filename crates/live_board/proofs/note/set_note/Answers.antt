use Rattle.std.proofs.Common.{sym, subst, set}
use Rattle.live_board.specs.Seats.{NoneVacantBefore}
use Rattle.live_board.proofs.TableWriters.{none_vacant_noted}
use Rattle.live_board.proofs.note.set_note.Goals as goal

pub returns-clause-vacant : goal.returns-clause-vacant
returns-clause-vacant c = λ none.
    subst (λ x. NoneVacantBefore x (set c.args.notes.now.items c.args.slot c.args.note)) (sym c.least_vacant_with.ensures)
    (none_vacant_noted c.args.least_vacant.now c.args.slot c.args.notes.now.items c.args.note none)
