-- That a journal stands for the boards of a hall.
use Rattle.std.specs.Prelude.{◌≡◌, List, [], ◌∷◌}
use Rattle.chained_lines.specs.Lines.{Line}
use Rattle.relay_hall.specs.Record.{FloorRecord, games_of}
use Rattle.relay_journal.specs.declared.entry.Entry.{Entry}
use Rattle.relay_journal.specs.Bodies.{AllBodies, first_body}
use Rattle.relay_journal.specs.Fitting.{AllFit}
use Rattle.relay_journal.specs.Kept.{kept_of, replayed}

-- The first of these lines is a journal's, and the others say entries that lead to these boards. A hall of the same limits accepts these
-- again. Whoever owns a hall and a journal keeps this true of the lines that were noted.
pub record StandFor (ls : List Line) (f : FloorRecord) : Type 0 where
  pub first : Line
  pub others : List Line
  pub parts : ls ≡ first ∷ others
  pub begins : first.body ≡ first_body
  pub entries : List Entry
  pub said : AllBodies others entries
  pub boards : kept_of f ≡ replayed [] entries
  pub accepted : AllFit f.limits [] entries (games_of f)
