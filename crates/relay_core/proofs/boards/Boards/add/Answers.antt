use Rattle.std.proofs.Common.{◌∙◌}
use Rattle.indexmap.proofs.CallerLemmas.{insert_entry-new}
use Rattle.relay_core.specs.Name.{same_name}
use Rattle.relay_core.proofs.boards.Boards.add.Goals as goal

pub returns-clause-added : goal.returns-clause-added
returns-clause-added c = rw (← c.self.view_is) (c.in-Ok.ensures.entries
    ∙ insert_entry-new same_name c.self.inside.games c.args.board c.args.game (rw (← c.self.view_is) at c.requires.absent))
