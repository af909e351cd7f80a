use Rattle.std.proofs.Common.{◌∙◌, ap, refl, rules, sym}
use Rattle.watch_port.specs.Telling.{one_more, over}
use Rattle.watch_port.proofs.Copying.{changes_nothing, written_at}
use Rattle.watch_port.proofs.feed.note.Goals as goal

pub returns-in-Played : goal.returns-in-Played
returns-in-Played c =
    written_at one_more c.args.told.now.items c.from-in-Played.result c.index_mut-board.result.now _ (search rules) c.index_mut-board.ensures.value
    (ap (λ moves. record c.index_mut-board.result.now { moves = moves }) c.saturating_add-board.ensures) ∙ search rules

pub returns-else-from-len : goal.returns-else-from-len
returns-else-from-len c = sym (changes_nothing one_more c.args.told.now.items c.in-Played.at (search rules)) ∙ search rules

pub returns-in-Ended : goal.returns-in-Ended
returns-in-Ended c =
    written_at over c.args.told.now.items c.from-in-Ended.result c.index_mut.result.now _ (search rules) c.index_mut.ensures.value refl ∙ search rules

pub returns-else-from-len-2 : goal.returns-else-from-len-2
returns-else-from-len-2 c = sym (changes_nothing over c.args.told.now.items c.in-Ended.at (search rules)) ∙ search rules
