-- The values of the members of a JSON object. `get` finds the member that serde_json's reading gives: if a key is repeated in
-- the text, the last.
use Rattle.std.specs.Prelude.{ℕ, ◌^◌, nat_lt, Bool, cond, List, Option, Some, None, is_some, option_map, option_and_then, unwrap_or, codes}
use Rattle.std.specs.Result.{result_ok}
use Rattle.std.specs.Str.{bytes_eq}
use Rattle.serde_json.specs.Data.{Data}
use Rattle.serde_json.specs.Events.{members_len}
use Rattle.serde_json.specs.Find.{get, as_str, as_object, as_number, as_u64}
use Rattle.c960_board.specs.declared.piece.Colour.{Colour}
use Rattle.c960_board.specs.declared.piece.Colour.TheVariants.{White, Black}
use Rattle.c960_board.specs.MoveReading.{move_read}
use Rattle.c960_board.specs.Moves.{Triple}
use Rattle.c960_game.specs.declared.result.Result.{Result}
use Rattle.c960_game.specs.declared.result.Result.TheVariants.{WhiteWins, BlackWins, Draw}
use Rattle.relay_core.specs.Name.{is_name}

-- ---- A member of any form.

-- how many members an object has
abbrev pub member_count : Data → ℕ
member_count d = unwrap_or (option_map members_len (as_object d)) 0

abbrev pub text_at : List ℕ → Data → Option (List ℕ)
text_at key d = option_and_then as_str (get key d)

-- a number that is read as an unsigned whole number, not `-1`, `1.0` or `1e0`
abbrev pub number_at : List ℕ → Data → Option ℕ
number_at key d = option_and_then as_u64 (option_and_then as_number (get key d))

abbrev pub below : ℕ → ℕ → Option ℕ
below bound n = cond (nat_lt n bound) (Some n) None

-- ---- The members of commands.

abbrev pub name_in : List ℕ → Option (List ℕ)
name_in text = cond (is_name text) (Some text) None

-- `board`: the name of a board
abbrev pub board_at : Data → Option (List ℕ)
board_at d = option_and_then name_in (text_at (codes "board") d)

-- a whole number from 0 to 65,535
abbrev pub small_at : List ℕ → Data → Option ℕ
small_at key d = option_and_then (below 65536) (number_at key d)

-- `start`: the number of a start
abbrev pub start_at : Data → Option ℕ
start_at d = small_at (codes "start") d

-- `from`: a place of a log
abbrev pub from_at : Data → Option ℕ
from_at d = small_at (codes "from") d

-- whether there is a member `from`, of any form
abbrev pub has_from : Data → Bool
has_from d = is_some (get (codes "from") d)

-- `spectator`: a whole number from 0 to 4,294,967,295
abbrev pub spectator_at : Data → Option ℕ
spectator_at d = option_and_then (below (2 ^ 32)) (number_at (codes "spectator") d)

-- `move`: the text of a move
abbrev pub move_at : Data → Option Triple
move_at d = option_and_then (λ text. result_ok (move_read text)) (text_at (codes "move") d)

abbrev pub side_in : List ℕ → Option Colour
side_in text = cond (bytes_eq text (codes "white")) (Some White) (cond (bytes_eq text (codes "black")) (Some Black) None)

-- `side`: the player who resigns, claims or loses on time, `white` or `black`
abbrev pub side_at : Data → Option Colour
side_at d = option_and_then side_in (text_at (codes "side") d)

abbrev pub result_in : List ℕ → Option Result
result_in text =
    cond (bytes_eq text (codes "1-0")) (Some WhiteWins)
    (cond (bytes_eq text (codes "0-1")) (Some BlackWins)
    (cond (bytes_eq text (codes "1/2-1/2")) (Some Draw) None))

-- `result`: what an arbiter decides, in the signs of PGN: `1-0`, `0-1` or `1/2-1/2`
abbrev pub result_at : Data → Option Result
result_at d = option_and_then result_in (text_at (codes "result") d)
