use Rattle.std.proofs.Common.{subst, rules}
use Rattle.c960_board.specs.Position.{IsPlacement}
use Rattle.c960_board.specs.Fen.Placement.{SpellsRanks}
use Rattle.c960_board.proofs.Reading.RanksText.{same_ranks}
use Rattle.c960_board.proofs.fen.placement.read_placement.Goals as goal
use Rattle.c960_board.proofs.fen.placement.read_placement.Goals.{else-read_ranks-via-then-read_ranks+else-is_placement, else-read_ranks-via-else-read_ranks}

pub returns-else-read_ranks : goal.returns-else-read_ranks
returns-else-read_ranks c =
    elim c.else-read_ranks.branch [
      | else-read_ranks-via-then-read_ranks+else-is_placement w ↦
          λ cells placement.
          let here : SpellsRanks 7 c.args.text.now c.read_ranks.new.cells = search rules in
          let same = same_ranks 7 c.args.text.now cells c.read_ranks.new.cells placement.ranks here in
          let fits : IsPlacement c.read_ranks.new.cells = subst IsPlacement same placement.placement in
          absurd (search rules)
      | else-read_ranks-via-else-read_ranks w ↦
          λ cells placement. w.if-read_ranks.ensures cells placement.ranks
    ]
