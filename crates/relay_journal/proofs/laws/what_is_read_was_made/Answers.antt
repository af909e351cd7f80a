use Rattle.chained_lines.specs.Lines.{no_seal, read_lines}
use Rattle.relay_journal.proofs.Recovered.{torn_recovered}
use Rattle.relay_journal.proofs.laws.what_is_read_was_made.Goals as goal

pub returns : goal.returns
returns c = λ ls es synced left got ok all is says.
    torn_recovered ls es synced (read_lines no_seal left) got all (c.what_is_left_reads_back.ensures no_seal ls synced left ok is) says
