-- The JSON values of the commands that are kept, their keys in byte order.
use Rattle.std.specs.Prelude.{ℕ, List, codes}
use Rattle.serde_json.specs.Data.{Data, member, no_members, number, object, string, unsigned}
use Rattle.c960_board.specs.declared.piece.Colour.{Colour}
use Rattle.c960_board.specs.declared.piece.Colour.TheVariants.{White, Black}
use Rattle.c960_board.specs.Moves.{Triple}
use Rattle.c960_board.specs.MoveTexts.{move_text}
use Rattle.c960_game.specs.declared.ending.Ending.{Ending}
use Rattle.c960_game.specs.declared.ending.Ending.TheVariants.{Resigns, Agreed, Abandoned, ClaimThreefold, ClaimFifty, LosesOnTime, Decided}
use Rattle.c960_game.specs.declared.result.Result.{Result}
use Rattle.c960_game.specs.declared.result.Result.TheVariants.{WhiteWins, BlackWins, Draw}

abbrev pub open_data : List ℕ → ℕ → Data
open_data name start =
    object (member (codes "board") (string name) (member (codes "cmd") (string (codes "open"))
    (member (codes "start") (number (unsigned start)) no_members)))

abbrev pub submit_data : List ℕ → Triple → Data
submit_data name m =
    object (member (codes "board") (string name) (member (codes "cmd") (string (codes "submit"))
    (member (codes "move") (string (move_text m)) no_members)))

abbrev pub side_text : Colour → List ℕ
side_text White = codes "white"
side_text Black = codes "black"

-- a result in the signs of PGN
abbrev pub result_text : Result → List ℕ
result_text WhiteWins = codes "1-0"
result_text BlackWins = codes "0-1"
result_text Draw = codes "1/2-1/2"

abbrev pub alone_data : List ℕ → List ℕ → Data
alone_data name how =
    object (member (codes "board") (string name) (member (codes "cmd") (string (codes "end"))
    (member (codes "how") (string how) no_members)))

abbrev pub sided_data : List ℕ → List ℕ → Colour → Data
sided_data name how side =
    object (member (codes "board") (string name) (member (codes "cmd") (string (codes "end"))
    (member (codes "how") (string how) (member (codes "side") (string (side_text side)) no_members))))

abbrev pub decided_data : List ℕ → Result → Data
decided_data name result =
    object (member (codes "board") (string name) (member (codes "cmd") (string (codes "end"))
    (member (codes "how") (string (codes "decided")) (member (codes "result") (string (result_text result)) no_members))))

abbrev pub end_data : List ℕ → Ending → Data
end_data name (Resigns side) = sided_data name (codes "resign") side
end_data name (ClaimThreefold side) = sided_data name (codes "threefold") side
end_data name (ClaimFifty side) = sided_data name (codes "fifty") side
end_data name (LosesOnTime side) = sided_data name (codes "time") side
end_data name (Decided result) = decided_data name result
end_data name Agreed = alone_data name (codes "agreed")
end_data name Abandoned = alone_data name (codes "abandoned")
