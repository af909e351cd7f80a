use Rattle.std.proofs.Common.{◌∙◌, refl, rules, sym}
use Rattle.watch_port.specs.Copies.{ended_by, played_by}
use Rattle.watch_port.proofs.Copying.{changes_nothing, written_at}
use Rattle.watch_port.proofs.board_table.apply.Goals as goal

pub returns-in-Played-clause-ok : goal.returns-in-Played-clause-ok
returns-in-Played-clause-ok c =
    written_at (played_by c.in-Played.m) c.args.boards.now.items c.from-in-Played.result c.index_mut-board.result.now _ (search rules)
    c.index_mut-board.ensures.value (search rules) ∙ search rules

pub returns-else-from-len-clause-ok : goal.returns-else-from-len-clause-ok
returns-else-from-len-clause-ok c = sym (changes_nothing (played_by c.in-Played.m) c.args.boards.now.items c.in-Played.at (search rules)) ∙ search rules

pub returns-in-Ended-clause-ok : goal.returns-in-Ended-clause-ok
returns-in-Ended-clause-ok c =
    written_at (ended_by c.in-Ended.outcome) c.args.boards.now.items c.from-in-Ended.result c.index_mut.result.now _ (search rules)
    c.index_mut.ensures.value refl ∙ search rules

pub returns-else-from-len-2-clause-ok : goal.returns-else-from-len-2-clause-ok
returns-else-from-len-2-clause-ok c = sym (changes_nothing (ended_by c.in-Ended.outcome) c.args.boards.now.items c.in-Ended.at (search rules)) ∙ search rules
