use Rattle.std.proofs.Common.{rules, arith, refl, ◌∙◌}
use Rattle.std.proofs.lemmas.List.{length-drop}
use Rattle.relay960_engines.proofs.AnswerFacts.{passed_on}
use Rattle.relay960_engines.proofs.PieceFacts.{taken_front, stops_at_front}
use Rattle.relay960_engines.proofs.TakingFacts.{TookBytes-nil}
use Rattle.relay960_engines.proofs.progress.take_bytes.Goals as goal

pub loop-taken-init : goal.loop-taken-init
loop-taken-init g c = record { inside = search rules; within = c.requires; took = TookBytes-nil _ _ _ _; counted = refl }

pub returns-in_err-taken-clause-failed : goal.returns-in_err-taken-clause-failed
returns-in_err-taken-clause-failed g c =
    passed_on _ _ _ c.from_residual.ensures.1 (stops_at_front _ _ _ _ _ _ _ c.args.chunk.now c.loop-taken.taken _ _ _ _
    c.loop-taken.invariant.took c.in_err-taken.ensures.failed)

pub loop-taken-preserved : goal.loop-taken-preserved
loop-taken-preserved g c = record {
  inside = omega (arith, c.in_ok-taken.ensures.count.1, c.loop-taken-test.true, length-drop c.loop-taken.taken c.args.chunk.now);
  within = c.in_ok-taken.ensures.within;
  took = taken_front _ _ _ _ _ _ _ c.args.chunk.now c.loop-taken.taken _ _ _ _ c.loop-taken.invariant.took c.in_ok-taken.ensures.took;
  counted = c.in_ok-taken.ensures.writes_counted ∙ c.loop-taken.invariant.counted;
}
