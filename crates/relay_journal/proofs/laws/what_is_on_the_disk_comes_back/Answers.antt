use Rattle.std.proofs.Common.{List, subst, take}
use Rattle.chained_lines.specs.Lines.{Line}
use Rattle.relay_journal.specs.Bodies.{SaysEntries}
use Rattle.relay_journal.proofs.Noting.{come_back}
use Rattle.relay_journal.proofs.laws.what_is_on_the_disk_comes_back.Goals as goal

pub returns : goal.returns
returns c = λ ls more f written synced left got ok stand front all some is says.
    let read = c.what_was_committed_stays.ensures ls more written synced left ok front all some is in
    come_back ls (take read.0 more) f got stand (subst (λ (xs : List Line). SaysEntries xs got) read.1 says)
