use Rattle.std.proofs.Common.{◌≡◌, ℕ, ◌≤◌, List, Some, Ok, ◌∙◌, sym, ap, subst, arith}
use Rattle.std.specs.Prelude.{string_bytes}
use Rattle.std.proofs.lemmas.Str.{IsUtf8-string_bytes}
use Rattle.serde_json.specs.Data.{Data, depth}
use Rattle.serde_json.specs.Read.{max_depth}
use Rattle.relay_core.specs.declared.step.Step.TheVariants.{Submit}
use Rattle.relay_journal.specs.Texts.{submit_data}
use Rattle.c960_board.proofs.lemmas.MoveReading.{move_is_read}
use Rattle.c960_board.specs.MoveReading.{move_read}
use Rattle.c960_board.specs.MoveTexts.{move_text}
use Rattle.relay_journal.proofs.Commands.{named, says, submit_says}
use Rattle.relay_journal.proofs.texts.submit_text.Goals as goal

pub returns : goal.returns
returns c =
    let reads : move_read (move_text c.args.m) ≡ Ok c.args.m = move_is_read c.args.m (move_text c.args.m) (c.written_text_is_of_the_move.ensures.text c.args.m c.code.ensures.valid) in
    let value = c.in_ok-submit_value.ensures ∙ ap (λ (name : List ℕ). submit_data name c.args.m) c.as_str.ensures.value in
    let shallow : depth (submit_data c.args.board c.args.m) ≤ max_depth = omega arith in
    let read_back = c.in_ok-text.ensures.reads_back (subst (λ (d : Data). depth d ≤ max_depth) (sym value) shallow) ∙ ap (λ (d : Data). Some d) value in
    says (string_bytes c.in_ok-text.text) (submit_data c.args.board c.args.m) (Submit c.args.board c.args.m) read_back (IsUtf8-string_bytes c.in_ok-text.text) (omega (arith, c.len.ensures, c.if-len-gt-MOST_BYTES.false))
    (submit_says c.args.board c.args.m (named c.args.board c.as_str.ensures.valid) reads)
