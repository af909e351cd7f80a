use Rattle.std.proofs.Common.{rules, codes, ◌∙◌, sym}
use Rattle.clap.specs.Words.{found_of}
use Rattle.clap.proofs.WalkLemmas.{first_value-rows}
use Rattle.relay960_words.proofs.Reading.{number_read}
use Rattle.relay960_words.proofs.words.command_order.Goals as goal

pub returns-in_ok-value_of-in-start : goal.returns-in_ok-value_of-in-start
returns-in_ok-value_of-in-start c =
    let n = c.in_ok-value_of-in-start.ensures in
    (search rules, number_read (found_of c.args.given.now) (codes "N") c.in_ok-value_of-in-start.field-0 n.0 n.1 n.2.0.0.0 n.2.0.1)

pub returns-in_ok-text_of-in-moves : goal.returns-in_ok-text_of-in-moves
returns-in_ok-text_of-in-moves c =
    (search rules, sym (first_value-rows (found_of c.args.given.now) (codes "FEN")) ∙ c.in_ok-text_of-in-moves.ensures)

pub returns-in_ok-value_of-in-play : goal.returns-in_ok-value_of-in-play
returns-in_ok-value_of-in-play c =
    let n = c.in_ok-value_of-in-play.ensures in
    (search rules, number_read (found_of c.args.given.now) (codes "N") c.in_ok-value_of-in-play.field-0 n.0 n.1 n.2.0.0.0 n.2.0.1)

pub returns-in_ok-text_of-in-journal : goal.returns-in_ok-text_of-in-journal
returns-in_ok-text_of-in-journal c =
    (search rules, sym (first_value-rows (found_of c.args.given.now) (codes "FILE")) ∙ c.in_ok-text_of-in-journal.ensures)
