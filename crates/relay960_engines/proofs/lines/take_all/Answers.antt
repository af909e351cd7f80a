use Rattle.std.proofs.Common.{[], ◌++◌, take, rules, arith, refl, ◌∙◌}
use Rattle.std.proofs.KnownBytes.{Consumes-nil, Consumes-trans}
use Rattle.relay960_engines.proofs.AnswerFacts.{passed_on}
use Rattle.relay960_engines.proofs.TakingFacts.{TookBytes-nil, TookBytes-trans, stops_at_read, stops_reading}
use Rattle.relay960_engines.proofs.lines.take_all.Goals as goal

pub loop-count-init : goal.loop-count-init
loop-count-init g c =
    record {
      input = [];
      read = Consumes-nil _;
      within = c.requires;
      one = search rules;
      none = search rules;
      took = TookBytes-nil _ _ _ _;
      reads = refl;
      writes = refl;
    }

pub loop-count-preserved : goal.loop-count-preserved
loop-count-preserved g c =
    let before = c.loop-count.invariant in
    let chunk = take c.in-Ok.count c.read_some.new.buf in
    record {
      input = before.input ++ chunk;
      read = Consumes-trans _ _ _ before.input chunk before.read c.in-Ok.ensures.bytes.0;
      within = c.in_ok-take_chunk-in-Ok.ensures.within;
      one = omega (arith, c.read_some.auto.buf, before.one);
      none = c.in_ok-take_chunk-in-Ok.ensures.none;
      took = TookBytes-trans _ _ _ _ _ _ _ before.input chunk _ _ _ before.took
          (rw before.none at c.in_ok-take_chunk-in-Ok.ensures.took);
      reads = c.in-Ok.ensures.counted ∙ before.reads;
      writes = c.in_ok-take_chunk-in-Ok.ensures.writes_counted ∙ before.writes;
    }

pub returns-in-Err-clause-failed : goal.returns-in-Err-clause-failed
returns-in-Err-clause-failed g c =
    stops_at_read _ _ _ _ _ _ c.loop-count.invariant.input _ _ _ _ (search rules) c.loop-count.invariant.within
    c.loop-count.invariant.took

pub returns-in_err-take_chunk-in-Ok-clause-failed : goal.returns-in_err-take_chunk-in-Ok-clause-failed
returns-in_err-take_chunk-in-Ok-clause-failed g c =
    passed_on _ _ _ c.from_residual.ensures.1 (stops_reading _ _ _ _ _ _ _ c.loop-count.invariant.input
    (take c.in-Ok.count c.read_some.new.buf) _ _ _ _ _ _ _
    (omega (arith, c.in-Ok.ensures.bound.0, c.in-Ok.ensures.bound.1, c.read_some.auto.buf, c.loop-count.invariant.one)) c.loop-count.invariant.read c.in-Ok.ensures.bytes.0
    c.loop-count.invariant.took (rw c.loop-count.invariant.none at c.in_err-take_chunk-in-Ok.ensures.failed))
