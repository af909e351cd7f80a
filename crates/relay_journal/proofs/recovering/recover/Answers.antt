use Rattle.std.proofs.Common.{[], subst}
use Rattle.relay_hall.specs.Record.{HallRecord}
use Rattle.relay_hall.specs.Runs.{Silent, Time}
use Rattle.relay_journal.specs.Restarting.{Leads, said_from}
use Rattle.relay_journal.proofs.Leading.{is_restarted}
use Rattle.relay_journal.proofs.Left.{is_restart}
use Rattle.relay_journal.proofs.Written.{written_first}
use Rattle.relay_journal.proofs.recovering.recover.Goals as goal

pub returns-clause-restarted : goal.returns-clause-restarted
returns-clause-restarted g c =
    is_restarted c.args.limits c.args.grace c.args.now c.args.entries.now c.in_ok-hall.hall c.say_all.new.hall c.tick.new.self c.go_all.new.hall c.in_ok-hall.ensures
    c.in_ok-say_all.ensures.said c.tick.ensures c.in_ok-go_all.ensures.gone

pub returns-clause-restart : goal.returns-clause-restart
returns-clause-restart g c =
    is_restart c.args.limits c.args.grace c.args.now c.args.entries.now c.go_all.new.hall
    (is_restarted c.args.limits c.args.grace c.args.now c.args.entries.now c.in_ok-hall.hall c.say_all.new.hall c.tick.new.self c.go_all.new.hall c.in_ok-hall.ensures
    c.in_ok-say_all.ensures.said c.tick.ensures c.in_ok-go_all.ensures.gone)

pub returns-clause-written : goal.returns-clause-written
returns-clause-written g c = λ first ls says holds.
    let hall = c.say_all.new.hall in
    let leads = subst (λ (k : HallRecord). Leads k [] (said_from 0 c.args.entries.now) hall) c.in_ok-hall.ensures c.in_ok-say_all.ensures.said in
    let begun = written_first g.S.StableStorage.contents g.S.StableStorage.synced c.args.limits c.args.grace c.args.journal c.in_ok-scribe.scribe first ls c.args.entries.now
    hall says holds leads c.in_ok-scribe.ensures in
    let timed = c.in_ok-note.ensures.event hall (Time c.args.now) Silent c.tick.ensures begun in
    c.in_ok-go_all.ensures.written timed
