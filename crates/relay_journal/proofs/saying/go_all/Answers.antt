use Rattle.std.proofs.Common.{List, arith, subst}
use Rattle.std.proofs.lemmas.List.{take_all}
use Rattle.relay_journal.specs.declared.entry.Entry.{Entry}
use Rattle.relay_journal.specs.Restarting.{Leads, goes, gone_from}
use Rattle.relay_journal.proofs.Leading.{each_next, leads_nowhere}
use Rattle.relay_journal.proofs.saying.go_all.Goals as goal

pub loop-at-init : goal.loop-at-init
loop-at-init g c = record { gone = λ h. leads_nowhere c.args.hall.now h; written = λ was. was }

pub loop-at-preserved : goal.loop-at-preserved
loop-at-preserved g c = record {
  gone = λ h.
      each_next goes c.args.hall.now c.loop-at.hall c.go.new.hall h c.args.entries.now c.loop-at.at c.index-entries-at.result c.loop-at-test.true c.index-entries-at.is
      (c.loop-at.invariant.gone h) c.go.ensures.goes;
  written = λ was. c.in_ok-go.ensures.written (c.loop-at.invariant.written was);
}

pub returns-clause-gone : goal.returns-clause-gone
returns-clause-gone g c = λ h.
    let whole = take_all c.loop-at.at c.args.entries.now (omega (arith, c.loop-at-test.false)) in
    subst (λ (es : List Entry). Leads c.args.hall.now h (gone_from 0 es) c.loop-at.hall) whole (c.loop-at.invariant.gone h)
