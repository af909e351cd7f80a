use Rattle.std.proofs.Common.{◌≡◌, ◌∷◌, replicate}
use Rattle.std.specs.Vec.{vec_capacity}
use Rattle.live_board.specs.declared.note.Note.TheVariants.{Vacant}
use Rattle.live_board.specs.Words.{header_word}
use Rattle.live_board.proofs.table_writer.TableWriter.new.Given as goal

abbrev pub invariant-loop : goal.invariant-loop
invariant-loop l = l.words.items ≡ header_word l.setup.start l.setup.limits.capacity ∷ replicate l.counter 0

abbrev pub invariant-loop-2 : goal.invariant-loop-2
invariant-loop-2 l = (l.notes.items ≡ replicate l.counter Vacant) × (vec_capacity l.notes ≡ l.setup.limits.followers)
