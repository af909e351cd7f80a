use Rattle.std.proofs.Common.{arith, subst, sym}
use Rattle.c960_board.specs.Fen.Placement.{SpellsRank}
use Rattle.c960_board.proofs.Reading.RanksText.{ranks_up, no_high}
use Rattle.c960_board.proofs.fen.placement.+read_ranks.Goals as goal

pub returns-in_default-read_rank : goal.returns-in_default-read_rank
returns-in_default-read_rank t c =
    no_high _ c.args.text.now _ _ (omega arith) c.in-Some-cut.ensures.0 c.in-Some-cut.ensures.1
    c.in_default-read_rank.ensures

pub returns : goal.returns
returns t c =
    ranks_up _ _ c.args.text.now _ _ _ _ (omega arith) c.in-Some-cut.ensures.0 c.in-Some-cut.ensures.1
    (subst (SpellsRank _) (sym c.copy_from_slice-2.ensures.after) c.in-Some-read_rank.ensures) (omega arith)
    c.read_ranks.ensures
