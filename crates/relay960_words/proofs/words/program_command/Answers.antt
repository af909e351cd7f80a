use Rattle.std.proofs.Common.{ap, refl, ◌∙◌}
use Rattle.std.proofs.lemmas.Result.{IfOk-weaker}
use Rattle.clap.specs.Words.{App, with_subcommand}
use Rattle.relay960_words.specs.CommandLine.{journal_command, moves_command, play_command, script_command, serve_command, start_command}
use Rattle.relay960_words.proofs.words.program_command.Goals as goal

pub returns : goal.returns
returns c =
    let under = λ (sub a : App). with_subcommand a sub.top in
    let one = c.in_ok-program.ensures start_command refl c.start_command.ensures ∙ ap (under start_command) c.versioned_command.ensures in
    let two = c.in_ok-program-2.ensures moves_command refl c.moves_command.ensures ∙ ap (under moves_command) one in
    let three = c.in_ok-program-3.ensures play_command refl c.play_command.ensures ∙ ap (under play_command) two in
    let four = c.in_ok-program-4.ensures script_command refl c.script_command.ensures ∙ ap (under script_command) three in
    let five = c.in_ok-program-5.ensures serve_command refl c.serve_command.ensures ∙ ap (under serve_command) four in
    IfOk-weaker c.with_command-6.result _ _ (λ r added. added ∙ ap (under journal_command) five)
    (c.with_command-6.ensures journal_command refl c.journal_command.ensures)
