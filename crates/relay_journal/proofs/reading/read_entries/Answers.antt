use Rattle.std.proofs.Common.{List, true≢false, ◌∙◌, sym, ap}
use Rattle.std.specs.Prelude.{not, slice_get}
use Rattle.std.proofs.lemmas.Slice.Eq.{bytes_eq-Decides}
use Rattle.chained_lines.specs.Lines.{Line}
use Rattle.relay_journal.specs.Bodies.{first_body}
use Rattle.relay_journal.proofs.reading.read_entries.Goals as goal

pub returns-then-ne-clause-journal : goal.returns-then-ne-clause-journal
returns-then-ne-clause-journal c = λ _.
    let first = c.in-Some.first in
    let line : Line = record { is_first = first.is_first; body = first.body.now } in (
      line,
      ap (λ (t : List Line). slice_get t 0) c.in-Some.ensures.some,
      λ is. true≢false (sym c.if-ne.true ∙ c.ne.ensures ∙ ap not ((bytes_eq-Decides first.body.now first_body).1 is)),
    )

pub returns-clause-journal : goal.returns-clause-journal
returns-clause-journal c = λ is. absurd (c.read_behind.ensures.journal is)
