use Rattle.std.proofs.Common.{ap, ◌∙◌}
use Rattle.std.proofs.lemmas.Result.{IfOk-weaker}
use Rattle.clap.specs.Words.{App, app_of, with_subcommand}
use Rattle.relay960_words.proofs.Reading.{none_is_global}
use Rattle.relay960_words.proofs.words.with_command.Goals as goal

pub returns : goal.returns
returns c = λ a plain made.
    let same = rw c.in_ok-made.was at made in
    IfOk-weaker c.subcommand.result _ _
    (λ r added. added.shape (none_is_global _ _ _ _ (ap (λ (b : App). b.top.is_plain) same ∙ plain))
    ∙ ap (λ (b : App). with_subcommand (app_of c.args.command) b.top) same)
    c.subcommand.ensures
