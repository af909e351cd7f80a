use Rattle.std.proofs.Common.{[], take}
use Rattle.relay_journal.specs.Restarting.{Leads, said_from}
use Rattle.relay_journal.proofs.saying.say_all.Given as goal

-- the entries before this place were said and accepted
abbrev pub invariant-loop-at : goal.invariant-loop-at
invariant-loop-at l = Leads l.initial.hall [] (said_from 0 (take l.at l.entries)) l.hall
