use Rattle.std.proofs.Common.{ℕ, length, take, subst, arith, ◌∙◌, ap}
use Rattle.std.specs.Prelude.{◌≡◌, OnOk}
use Rattle.std.specs.Io.KnownBytes.{Appends}
use Rattle.std.proofs.lemmas.List.{take_all}
use Rattle.std.proofs.lemmas.Result.{on_err_weaker}
use Rattle.chained_lines.proofs.Holding.{on_any}
use Rattle.chained_lines.proofs.Known.{appends_kept, failed_later}
use Rattle.chained_lines.proofs.storing.store.Goals as goal

pub returns-in_err-append_all-clause-front : goal.returns-in_err-append_all-clause-front
returns-in_err-append_all-clause-front g c = (c.append_all.result.0, c.append_all.ensures.bytes)

pub returns-clause-front : goal.returns-clause-front
returns-clause-front g c = (c.append_all.result.0, appends_kept _ _ _ _ c.append_all.ensures.bytes c.sync.ensures.bytes)

pub returns-clause-all : goal.returns-clause-all
returns-clause-all g c =
    let bytes = c.args.bytes.now in
    let done = subst (λ r. OnOk r (c.append_all.result.0 ≡ length bytes)) c.in_ok-append_all.was c.append_all.ensures.all in
    let whole = ap (λ (n : ℕ). take n bytes) done ∙ take_all (length bytes) bytes (omega arith) in
    on_any c.sync.result (appends_kept _ _ _ _ (subst (Appends _ _) whole c.append_all.ensures.bytes) c.sync.ensures.bytes)

pub returns-clause-cause : goal.returns-clause-cause
returns-clause-cause g c = on_err_weaker c.sync.result (failed_later _ _ _ c.append_all.ensures.later) c.sync.ensures.cause.failed
