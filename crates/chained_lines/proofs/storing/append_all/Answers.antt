use Rattle.std.proofs.Common.{◌-◌, ◌++◌, length, take, drop, sym, ap, subst, ◌∙◌, arith, length-take}
use lib.Seq.{take-add, take-take}
use Rattle.std.specs.Io.KnownBytes.{Appends}
use Rattle.std.proofs.KnownBytes.{Appends-nil, Appends-trans}
use Rattle.chained_lines.proofs.Known.{appends_kept, failed_later, later_failures, same_failures}
use Rattle.chained_lines.proofs.storing.append_all.Goals as goal

pub loop-written-preserved : goal.loop-written-preserved
loop-written-preserved g c =
    let done = c.loop-written.written in
    let n = c.in-Ok.n in
    let xs = c.args.bytes.now in
    let was = c.loop-written.invariant in
    let fits = c.in-Ok.ensures.bound in
    let most = length-take (length xs - done) (drop done xs) in
    let joined = ap (λ l. take done xs ++ l) (take-take n (length xs - done) (drop done xs) (omega arith)) ∙ sym (take-add done n xs) in
    record {
      within = omega arith;
      appended = subst (Appends _ _) joined (Appends-trans _ _ _ _ _ was.appended c.in-Ok.ensures.bytes);
      kept = omega (arith, was.kept, c.in-Ok.ensures.synced);
      unknown = λ none. c.in-Ok.ensures.unknown (was.unknown none);
      later = later_failures _ _ _ was.later c.in-Ok.ensures.cause.later;
    }

pub loop-written-init : goal.loop-written-init
loop-written-init g c = record { within = omega arith; appended = Appends-nil _; kept = omega arith; unknown = λ none. none; later = same_failures _ }

pub returns-in-Err-clause-bytes : goal.returns-in-Err-clause-bytes
returns-in-Err-clause-bytes g c = appends_kept _ _ _ _ c.loop-written.invariant.appended c.in-Err.ensures.bytes

pub returns-in-Err-clause-later : goal.returns-in-Err-clause-later
returns-in-Err-clause-later g c = later_failures _ _ _ c.loop-written.invariant.later c.in-Err.ensures.cause.later

pub returns-in-Err-clause-cause : goal.returns-in-Err-clause-cause
returns-in-Err-clause-cause g c = failed_later _ _ _ c.loop-written.invariant.later c.in-Err.ensures.cause.failed

pub returns-in-Ok-eq0-clause-later : goal.returns-in-Ok-eq0-clause-later
returns-in-Ok-eq0-clause-later g c = later_failures _ _ _ c.loop-written.invariant.later c.in-Ok-eq0.ensures.cause.later
