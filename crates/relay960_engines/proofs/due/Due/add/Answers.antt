use Rattle.std.proofs.Common.{rules}
use Rattle.relay960_engines.proofs.Prefixes.{part_before, on_err_behind, on_err_known}
use Rattle.relay960_engines.proofs.SendingFacts.{sends_all_ran}
use Rattle.relay960_engines.proofs.due.Due.add.Goals as goal

pub returns-in_err-send-clause-part : goal.returns-in_err-send-clause-part
returns-in_err-send-clause-part g c = on_err_known _ (part_before _ _ c.args.self.now c.args.text.now (search rules))

pub returns-clause-sent : goal.returns-clause-sent
returns-clause-sent g c =
    sends_all_ran _ (g.W.WriteDevice.contents c.send.new.writer) _ _ _ _ _ (search rules) c.write_whole.ensures.whole (search rules)

pub returns-clause-part : goal.returns-clause-part
returns-clause-part g c =
    on_err_behind _ _ (g.W.WriteDevice.contents c.send.new.writer) _ c.args.self.now c.args.text.now (search rules)
    c.write_whole.ensures.part
