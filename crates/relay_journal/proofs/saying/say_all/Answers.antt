use Rattle.std.proofs.Common.{[]}
use Rattle.relay_journal.specs.Restarting.{said_again}
use Rattle.relay_journal.proofs.Leading.{each_next}
use Rattle.relay_journal.proofs.saying.say_all.Goals as goal

pub loop-at-preserved : goal.loop-at-preserved
loop-at-preserved c =
    each_next said_again c.args.hall.now c.loop-at.hall c.say_again.new.hall [] c.args.entries.now c.loop-at.at c.index-entries-at.result c.loop-at-test.true
    c.index-entries-at.is c.loop-at.invariant c.in-Ok.ensures.said
