use Rattle.std.proofs.Common.{arith, ◌≡◌, ◌<◌, rules, refl, ◌∙◌}
use Rattle.c960_game.proofs.lemmas.KeptFacts.{kept_opened}
use Rattle.c960_game.proofs.lemmas.LogFacts.{position_after_none}
use Rattle.c960_board.specs.declared.numbering.TheConstants.{STARTS}
use Rattle.c960_board.specs.Start.{start}
use Rattle.c960_game.proofs.game.Game.open.Goals as goal

pub invariant_of-result : goal.invariant_of-result
invariant_of-result c =
    let numbered : c.args.start < STARTS = search rules in
    let position : c.in-Some.position ≡ start c.args.start =
    c.in-Some.ensures.value ∙ position_after_none (start c.args.start) in
    kept_opened _ numbered (rw c.in-Ok.ensures.items refl) c.requires.most_plies position
    (rw (← position) c.in-Ok-row_of.ensures.items)
    (rw (← position) c.in-Ok-row_of-2.ensures.items)
    (c.in-Ok.ensures.exact ∙ c.from.ensures)
    c.in-Ok-row_of.ensures.capacity
    (omega (arith, c.in-Ok-row_of-2.ensures.capacity, c.from-2.ensures))

pub returns-clause-valid : goal.returns-clause-valid
returns-clause-valid c = (invariant_of-result c).game
