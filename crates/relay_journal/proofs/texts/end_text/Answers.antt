use Rattle.std.proofs.Common.{ℕ, ◌≤◌, List, Some, ◌∙◌, sym, ap, subst, arith}
use Rattle.std.specs.Prelude.{string_bytes}
use Rattle.std.proofs.lemmas.Str.{IsUtf8-string_bytes}
use Rattle.serde_json.specs.Data.{Data, depth}
use Rattle.serde_json.specs.Read.{max_depth}
use Rattle.relay_core.specs.declared.step.Step.TheVariants.{End}
use Rattle.relay_journal.specs.Texts.{end_data}
use Rattle.relay_journal.proofs.Commands.{end_says, end_shallow, named, says}
use Rattle.relay_journal.proofs.texts.end_text.Goals as goal

pub returns : goal.returns
returns c =
    let value = c.in_ok-end_value.ensures ∙ ap (λ (name : List ℕ). end_data name c.args.ending) c.as_str.ensures.value in
    let shallow : depth (end_data c.args.board c.args.ending) ≤ max_depth = end_shallow c.args.board c.args.ending in
    let read_back = c.in_ok-text.ensures.reads_back (subst (λ (d : Data). depth d ≤ max_depth) (sym value) shallow) ∙ ap (λ (d : Data). Some d) value in
    says (string_bytes c.in_ok-text.text) (end_data c.args.board c.args.ending) (End c.args.board c.args.ending) read_back (IsUtf8-string_bytes c.in_ok-text.text) (omega (arith, c.len.ensures, c.if-len-gt-MOST_BYTES.false))
    (end_says c.args.board c.args.ending (named c.args.board c.as_str.ensures.valid))
