use Rattle.std.proofs.Common.{ℕ, ◌≤◌, List, Some, ◌∙◌, sym, ap, subst, arith}
use Rattle.std.specs.Prelude.{string_bytes}
use Rattle.std.proofs.lemmas.Str.{IsUtf8-string_bytes}
use Rattle.serde_json.specs.Data.{Data, depth}
use Rattle.serde_json.specs.Read.{max_depth}
use Rattle.relay_core.specs.declared.step.Step.TheVariants.{Open}
use Rattle.relay_journal.specs.Texts.{open_data}
use Rattle.relay_journal.proofs.Commands.{named, open_says, says}
use Rattle.relay_journal.proofs.texts.open_text.Goals as goal

pub returns : goal.returns
returns c =
    let value = c.in_ok-open_value.ensures ∙ ap (λ (name : List ℕ). open_data name c.args.start) c.as_str.ensures.value in
    let shallow : depth (open_data c.args.board c.args.start) ≤ max_depth = omega arith in
    let read_back = c.in_ok-text.ensures.reads_back (subst (λ (d : Data). depth d ≤ max_depth) (sym value) shallow) ∙ ap (λ (d : Data). Some d) value in
    says (string_bytes c.in_ok-text.text) (open_data c.args.board c.args.start) (Open c.args.board c.args.start) read_back (IsUtf8-string_bytes c.in_ok-text.text) (omega (arith, c.len.ensures, c.if-len-gt-MOST_BYTES.false))
    (open_says c.args.board c.args.start (named c.args.board c.as_str.ensures.valid) (grind (arith, c.ranges.start.fits)))
