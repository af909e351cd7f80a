-- The outcomes of games: their numbers, texts and results.
use Rattle.std.specs.Prelude.{ℕ, List, Option, Some, None, codes}
use Rattle.c960_board.specs.declared.piece.Colour.{Colour}
use Rattle.c960_board.specs.declared.piece.Colour.TheVariants.{White, Black}
use Rattle.c960_board.specs.Pieces.{other}
use Rattle.c960_game.specs.declared.outcome.Outcome.{Outcome}
use Rattle.c960_game.specs.declared.outcome.Outcome.TheVariants.{Checkmate, Stalemate, Resigned, Agreed, Abandoned, Threefold, Fifty, Fivefold, SeventyFive, LostOnTime, Decided}
use Rattle.c960_game.specs.declared.result.Result.{Result}
use Rattle.c960_game.specs.declared.result.Result.TheVariants.{WhiteWins, BlackWins, Draw}

-- Checkmate names the side that mates, Resigned the side that resigned, LostOnTime the side whose time ran out.
abbrev pub outcome_code : Outcome → ℕ
outcome_code (Checkmate White) = 1
outcome_code (Checkmate Black) = 2
outcome_code Stalemate = 3
outcome_code (Resigned White) = 4
outcome_code (Resigned Black) = 5
outcome_code Agreed = 6
outcome_code Abandoned = 7
outcome_code Threefold = 8
outcome_code Fifty = 9
outcome_code Fivefold = 10
outcome_code SeventyFive = 11
outcome_code (LostOnTime White) = 12
outcome_code (LostOnTime Black) = 13
outcome_code (Decided WhiteWins) = 14
outcome_code (Decided BlackWins) = 15
outcome_code (Decided Draw) = 16

abbrev pub outcome_text : Outcome → List ℕ
outcome_text (Checkmate White) = codes "white mates"
outcome_text (Checkmate Black) = codes "black mates"
outcome_text Stalemate = codes "stalemate"
outcome_text (Resigned White) = codes "white resigns"
outcome_text (Resigned Black) = codes "black resigns"
outcome_text Agreed = codes "agreed"
outcome_text Abandoned = codes "abandoned"
outcome_text Threefold = codes "threefold"
outcome_text Fifty = codes "fifty moves"
outcome_text Fivefold = codes "fivefold"
outcome_text SeventyFive = codes "seventy-five moves"
outcome_text (LostOnTime White) = codes "white loses on time"
outcome_text (LostOnTime Black) = codes "black loses on time"
outcome_text (Decided WhiteWins) = codes "white wins by decision"
outcome_text (Decided BlackWins) = codes "black wins by decision"
outcome_text (Decided Draw) = codes "drawn by decision"

-- the result of a game that this side has won
abbrev pub won_by : Colour → Result
won_by White = WhiteWins
won_by Black = BlackWins

-- Who resigned or lost on time has lost to the other side. A game that was given up has no result.
abbrev pub outcome_result : Outcome → Option Result
outcome_result (Checkmate c) = Some (won_by c)
outcome_result Stalemate = Some Draw
outcome_result (Resigned c) = Some (won_by (other c))
outcome_result Agreed = Some Draw
outcome_result Abandoned = None
outcome_result Threefold = Some Draw
outcome_result Fifty = Some Draw
outcome_result Fivefold = Some Draw
outcome_result SeventyFive = Some Draw
outcome_result (LostOnTime c) = Some (won_by (other c))
outcome_result (Decided r) = Some r
