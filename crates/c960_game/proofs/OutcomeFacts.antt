-- The numbers of outcomes: no two outcomes share one.
use Rattle.std.proofs.Common.{◌≡◌, ℕ, Option, Some, None, cond, refl, sym, ap, ◌∙◌}
use Rattle.std.specs.Prelude.{◌==◌}
use Rattle.c960_board.specs.declared.piece.Colour.TheVariants.{White, Black}
use Rattle.c960_game.specs.declared.outcome.Outcome.{Outcome}
use Rattle.c960_game.specs.declared.outcome.Outcome.TheVariants.{Checkmate, Stalemate, Resigned, Agreed, Abandoned, Threefold, Fifty, Fivefold, SeventyFive, LostOnTime, Decided}
use Rattle.c960_game.specs.declared.result.Result.TheVariants.{WhiteWins, BlackWins, Draw}
use Rattle.c960_game.specs.Outcome.{outcome_code}

-- the outcome of a number, tried one after another
abbrev decoded : ℕ → Option Outcome
decoded code =
    cond (code == 1) (Some (Checkmate White))
    (cond (code == 2) (Some (Checkmate Black))
    (cond (code == 3) (Some Stalemate)
    (cond (code == 4) (Some (Resigned White))
    (cond (code == 5) (Some (Resigned Black))
    (cond (code == 6) (Some Agreed)
    (cond (code == 7) (Some Abandoned)
    (cond (code == 8) (Some Threefold)
    (cond (code == 9) (Some Fifty)
    (cond (code == 10) (Some Fivefold)
    (cond (code == 11) (Some SeventyFive)
    (cond (code == 12) (Some (LostOnTime White))
    (cond (code == 13) (Some (LostOnTime Black))
    (cond (code == 14) (Some (Decided WhiteWins))
    (cond (code == 15) (Some (Decided BlackWins))
    (cond (code == 16) (Some (Decided Draw)) None)))))))))))))))

found : (o : Outcome) → decoded (outcome_code o) ≡ Some o
found (Checkmate White) = refl
found (Checkmate Black) = refl
found Stalemate = refl
found (Resigned White) = refl
found (Resigned Black) = refl
found Agreed = refl
found Abandoned = refl
found Threefold = refl
found Fifty = refl
found Fivefold = refl
found SeventyFive = refl
found (LostOnTime White) = refl
found (LostOnTime Black) = refl
found (Decided WhiteWins) = refl
found (Decided BlackWins) = refl
found (Decided Draw) = refl

-- a number belongs to one outcome, or to none
pub only_outcome : (o : Outcome) (code : ℕ) → outcome_code o ≡ code → decoded code ≡ Some o
only_outcome o code e = sym (ap decoded e) ∙ found o
