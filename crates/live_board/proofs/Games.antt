-- Games and what a board's view shows of them.
use Rattle.std.proofs.Common.{◌≡◌, Option, Some, None, Ok, refl, sym, ap, ◌∙◌}
use Rattle.c960_board.specs.Moves.{Triple}
use Rattle.c960_game.specs.declared.ending.Ending.{Ending}
use Rattle.c960_game.specs.declared.outcome.Outcome.{Outcome}
use Rattle.c960_game.specs.Record.{play_answer, end_answer}
use Rattle.c960_game.specs.GameRecord.{GameRecord}

-- a move or an ending is accepted only while there is no outcome
pub play_going : (g : GameRecord) (m : Triple) (o : Option Outcome) → play_answer g m ≡ Ok o → g.outcome ≡ None
unfolding play_answer
play_going g m o e = by g.outcome refl e
  where
    by : (x : Option Outcome) → g.outcome ≡ x → play_answer g m ≡ Ok o → g.outcome ≡ None
    by None is e = is
    by (Some y) is e = let t = sym (ap (λ (z : Option Outcome). play_answer (record g { outcome = z }) m) is) ∙ e in cc

pub end_going : (g : GameRecord) (x : Ending) (o : Outcome) → end_answer g x ≡ Ok o → g.outcome ≡ None
unfolding end_answer
end_going g x o e = by g.outcome refl e
  where
    by : (y : Option Outcome) → g.outcome ≡ y → end_answer g x ≡ Ok o → g.outcome ≡ None
    by None is e = is
    by (Some y) is e = let t = sym (ap (λ (z : Option Outcome). end_answer (record g { outcome = z }) x) is) ∙ e in cc
