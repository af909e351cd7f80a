use Rattle.std.proofs.Common.{rules, ap, codes, ◌≡◌, ◌∙◌}
use Rattle.std.proofs.lemmas.Result.{IfOk-weaker}
use Rattle.clap.specs.Words.{app_of, new_app}
use Rattle.relay960_words.specs.CommandLine.{with_limits, with_service}
use Rattle.relay960_words.proofs.words.serve_command.Goals as goal

pub returns : goal.returns
returns c =
    let new : app_of c.about-command.result ≡ new_app (codes "serve") = search rules in
    let served = c.in_ok-with_service.ensures ∙ ap with_service new in
    IfOk-weaker c.with_limits.result _ _ (λ r limited. limited ∙ ap with_limits served) c.with_limits.ensures
