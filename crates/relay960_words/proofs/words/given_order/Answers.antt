use Rattle.std.proofs.Common.{map, ap, sym, ◌∙◌}
use Rattle.std.proofs.lemmas.Result.{IfOk-weaker}
use Rattle.clap.specs.Words.{App, is_simple, matches_of}
use Rattle.relay960_words.proofs.Reading.{neither_half, script_asks, script_is_simple}
use Rattle.relay960_words.proofs.words.given_order.Goals as goal

pub returns-in_ok-given-in-None : goal.returns-in_ok-given-in-None
returns-in_ok-given-in-None g c = λ entered.
    let words = map g.S.AsStr.text c.args.words.now in
    let script_is = c.in_ok-script_command-in-None.ensures in
    let none = neither_half _ _ _ c.in-None.ensures.rows in
    let given = (c.in_ok-given-in-None.ensures.matches (ap is_simple script_is ∙ script_is_simple)).0 ∙ ap (λ (a : App). matches_of a words) script_is in
    IfOk-weaker c.command_order-in-None.result _ _ (λ order asks. script_asks words order _ (sym entered ∙ none) given asks) c.command_order-in-None.ensures
