use Rattle.std.proofs.Common.{◌<◌, sym, ap, subst, ◌∙◌, refl}
use Rattle.c960_board.specs.declared.numbering.TheConstants.{STARTS}
use Rattle.c960_board.specs.Position.{IsPosition}
use Rattle.c960_board.specs.Start.{start, start_of}
use Rattle.c960_board.proofs.lemmas.StartFacts.{start_is_position}
use Rattle.c960_board.proofs.position.Position.start.Goals as goal

pub of_parts-requires : goal.of_parts-requires
unfolding start
of_parts-requires c =
    let below : c.args.number < STARTS = c.in_ok-rank.ensures.some.0 refl in
    let made = c.start_parts.ensures ∙ ap start_of c.in_ok-rank.ensures.value in
    subst IsPosition (sym made) (start_is_position c.args.number below)

pub returns-clause-value : goal.returns-clause-value
unfolding start
returns-clause-value c = c.of_parts.ensures ∙ c.start_parts.ensures ∙ ap start_of c.in_ok-rank.ensures.value
