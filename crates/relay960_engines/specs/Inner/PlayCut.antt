-- A line of a live game is answered as its first KEPT bytes are: no move's text is longer than five bytes.
use Rattle.std.specs.Prelude.{ℕ, ◌≡◌, List, take, Option, Some, None, ⊤}
use Rattle.std.proofs.Common.{ap, ◌∙◌, lit<}
use Rattle.c960_board.proofs.lemmas.MoveReading.{read_of_front}
use Rattle.c960_board.specs.MoveReading.{move_read}
use Rattle.c960_game.specs.GameRecord.{GameRecord}
use Rattle.relay960_engines.specs.declared.kept_line.TheConstants.{KEPT}
use Rattle.relay960_engines.specs.Play.{line_answer, game_after, lines_read, game_read}

-- the bytes, if there was memory for them, are the answer to the line
abbrev pub IsAnswer : GameRecord → List ℕ → Option (List ℕ) → Type 0
IsAnswer g l (Some bytes) = bytes ≡ line_answer g l
IsAnswer g l None = ⊤

front_read : (l : List ℕ) → move_read (take KEPT l) ≡ move_read l
front_read l = read_of_front KEPT l (lit< tt)

pub answer_cut : (g : GameRecord) (l : List ℕ) (bytes : Option (List ℕ)) → IsAnswer g (take KEPT l) bytes → IsAnswer g l bytes
unfolding line_answer
answer_cut g l (Some bytes) given = given ∙ ap (lines_read g) (front_read l)
answer_cut g l None given = tt

pub game_cut : (g h : GameRecord) (l : List ℕ) → h ≡ game_after g (take KEPT l) → h ≡ game_after g l
unfolding game_after
game_cut g h l given = given ∙ ap (game_read g) (front_read l)
