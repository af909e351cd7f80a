use Rattle.std.proofs.Common.{subst, sym, arith}
use Rattle.std.proofs.lemmas.Grind.{common_steps}
use Rattle.relay_core.specs.History.{History, lived}
use Rattle.relay_core.specs.Stands.{Stands}
use Rattle.relay_core.proofs.Lived.{headline, lived-all, lived-more}
use Rattle.relay_core.proofs.stepper.run_steps.Goals as goal

pub loop-step-preserved : goal.loop-step-preserved
loop-step-preserved g c = record {
  room = grind (arith, common_steps);
  count = grind (arith, common_steps);
  stands = λ limits h was. rw c.push_reserved.ensures.items
      (subst (λ (now : History). Stands limits (g.S.Stepper.record_of c.step-reply.new.self) now)
      (sym (lived-more h c.args.steps.now c.loop-step.step-index c.step-item.result
      (sym c.step-item.is) c.loop-step.replies.items c.step-reply.result c.loop-step-test.true c.loop-step.invariant.count))
      (c.step-reply.ensures.stands limits _ (c.loop-step.invariant.stands limits h was)));
}

pub returns-clause-headline : goal.returns-clause-headline
returns-clause-headline g c = λ limits h was.
    headline limits (g.S.Stepper.record_of c.loop-step.relay) (lived h c.args.steps.now c.loop-step.replies.items)
    (subst (λ (now : History). Stands limits (g.S.Stepper.record_of c.loop-step.relay) now)
    (lived-all h c.args.steps.now c.loop-step.step-index c.loop-step.replies.items (omega arith))
    (c.loop-step.invariant.stands limits h was))
