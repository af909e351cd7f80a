-- What a hall makes of a step of a connection: a function of its boards, of who speaks and of the step, but for what is named.
use Rattle.std.specs.Prelude.{◌≡◌, ◌↔◌, ◌⊎◌, ℕ, ◌+◌, ◌<◌, ◌≤◌, Bool, false, cond, is_some, List, [], ◌∷◌, ◌++◌, length, take, Option, Some, None, Result, Ok, Err, IfOk, IfErr}
use Rattle.std.specs.List.{list_any}
use Rattle.std.specs.Map.{lookup}
use Rattle.atomic_table.specs.Seated.{TableId}
use Rattle.c960_board.specs.declared.parts.Parts.{Parts}
use Rattle.c960_board.specs.Moves.{Triple}
use Rattle.c960_game.specs.declared.ending.Ending.{Ending}
use Rattle.c960_game.specs.declared.outcome.Outcome.{Outcome}
use Rattle.c960_game.specs.declared.refusal.Refusal.{Refusal}
use Rattle.c960_game.specs.declared.refusal.Refusal.TheVariants.{NoSuchBoard, NotYet, OutOfMemory, TooFarBack, TooManyFollowers, WrongMode}
use Rattle.c960_game.specs.GameRecord.{GameRecord}
use Rattle.c960_game.specs.Limits.{LimitNumbers}
use Rattle.c960_game.specs.Positions.{position_at}
use Rattle.c960_game.specs.Record.{opened, with_move}
use Rattle.relay_core.specs.BoardAnswers.{end_answer_at, ended_by, place_in, play_answer_at}
use Rattle.relay_core.specs.declared.reply.Reply.{Reply}
use Rattle.relay_core.specs.declared.reply.Reply.TheVariants.{Opened, Played, Ended, Following, Refused}
use Rattle.relay_core.specs.declared.step.Step.{Step}
use Rattle.relay_core.specs.declared.step.Step.TheVariants.{Open, Submit, End, Follow, Take, Leave}
use Rattle.relay_core.specs.Name.{same_name}
use Rattle.relay_core.specs.Refusals.{first_refusal, open_grounds}
use Rattle.live_board.specs.declared.limits.BoardLimits.{BoardLimits}
use Rattle.live_board.specs.declared.view.Part.{Part}
use Rattle.live_board.specs.Seats.{FollowerSeat}
use Rattle.live_board.specs.Sound.{IsSoundPart}
use Rattle.relay_pushing.specs.Connections.{Question, Knows, Owns, OwnsAny}
use Rattle.relay_hall.specs.declared.handed.Handed.{Handed}
use Rattle.relay_hall.specs.declared.owner.Owner.{Owner}
use Rattle.relay_hall.specs.Keys.{is_owner}
use Rattle.relay_hall.specs.Record.{FloorRecord, FloorState, HallBoard, games_of}

-- ---- What it tells a connection.

abbrev pub is_owned : Option (List ℕ) → Option HallBoard → Bool
is_owned key None = false
is_owned key (Some board) = is_owner key board.owner.key

abbrev pub tells_of : FloorRecord → Owner → Question → Bool
tells_of f speaker (Knows name) = is_some (lookup (same_name name) f.boards)
tells_of f speaker (Owns name) = is_owned speaker.key (lookup (same_name name) f.boards)
tells_of f speaker OwnsAny = list_any (λ e. is_owner speaker.key e.1.owner.key) f.boards

-- ---- Its answers.

-- the reply of an answer: what an accepted one contains, or the refusal
abbrev pub reply_of : {A : Type 0} → (A → Reply) → Result A Refusal → Reply
reply_of accepted (Ok answer) = accepted answer
reply_of accepted (Err refusal) = Refused refusal

abbrev pub reply_to_play : Result (ℕ × Option Outcome) Refusal → Reply
reply_to_play answer = reply_of (λ played. Played played.0 played.1) answer

abbrev pub reply_to_end : Result Outcome Refusal → Reply
reply_to_end answer = reply_of Ended answer

abbrev pub answer_to_open : FloorRecord → List ℕ → ℕ → Result Unit Refusal
answer_to_open f name start =
    first_refusal (open_grounds (is_some (lookup (same_name name) (games_of f))) start (length (games_of f)) f.limits.boards)

abbrev pub answer_to_submit : FloorRecord → List ℕ → Triple → Result (ℕ × Option Outcome) Refusal
answer_to_submit f name m = play_answer_at m (lookup (same_name name) (games_of f))

abbrev pub answer_to_end : FloorRecord → List ℕ → Ending → Result Outcome Refusal
answer_to_end f name ending = end_answer_at ending (lookup (same_name name) (games_of f))

-- ---- What it is afterwards.

-- the value of the first key that passes is changed
abbrev pub change_value : {K V : Type 0} → (K → Bool) → (V → V) → List (K × V) → List (K × V)
change_value test f [] = []
change_value test f (e ∷ es) = cond (test e.0) ((e.0, f e.1) ∷ es) (e ∷ change_value test f es)

abbrev pub with_game : (GameRecord → GameRecord) → HallBoard → HallBoard
with_game change b = record b { game = change b.game }

-- the game of the board of this name is changed, and nothing else
abbrev pub changed : FloorRecord → List ℕ → (GameRecord → GameRecord) → FloorRecord
changed f name change = record f { boards = change_value (same_name name) (with_game change) f.boards }

abbrev pub after_submit : FloorRecord → List ℕ → Triple → Result (ℕ × Option Outcome) Refusal → FloorRecord
after_submit f name m (Ok played) = changed f name (λ g. with_move g m)
after_submit f name m (Err refusal) = f

abbrev pub after_end : FloorRecord → List ℕ → Ending → Result Outcome Refusal → FloorRecord
after_end f name ending (Ok outcome) = changed f name (ended_by ending)
after_end f name ending (Err refusal) = f

-- a new board, with the game of a start, of whoever speaks
abbrev pub new_board : FloorRecord → TableId → Owner → ℕ → HallBoard
new_board f table speaker start = record { table = table; game = opened start f.limits.plies; owner = speaker }

abbrev pub with_board : FloorRecord → List ℕ → HallBoard → FloorRecord
with_board f name board = record f { boards = f.boards ++ (name, board) ∷ [] }

-- ---- Handing out.

abbrev pub board_limits : LimitNumbers → BoardLimits
board_limits limits = record { followers = limits.followers; capacity = limits.capacity; plies = limits.plies }

-- a new follower in a slot, from a place of the game on
abbrev pub newcomer_at : BoardLimits → GameRecord → ℕ → ℕ → Part
newcomer_at limits g slot place = record {
  setup = record { start = g.start; limits = limits };
  slot = slot;
  joined = place;
  before = take place g.log;
  taken = [];
  seen = length g.log;
  outcome = g.outcome;
  loads = 0;
  loaded = None;
  closing = None;
}

-- The answer to a follow of a board. Its first two refusals are exactly as the board's game says. Of the other two the slots decide, which
-- other threads free, and memory. Otherwise it is a follower at this very board's table, which joins at the place asked for with the moves
-- before it, and the position of this board's game there.
pub record Hands (limits : BoardLimits) (b : HallBoard) (from : Option ℕ) (answer : Result (FollowerSeat × Parts) Refusal) : Type 0 where
  pub not_yet : (answer ≡ Err NotYet) ↔ (length b.game.log < place_in from b.game)
  pub too_far_back : (answer ≡ Err TooFarBack) ↔ ((place_in from b.game ≤ length b.game.log) × (place_in from b.game + limits.capacity < length b.game.log))
  pub refusals : IfErr answer (λ r. (r ≡ NotYet) ⊎ (r ≡ TooFarBack) ⊎ (r ≡ TooManyFollowers) ⊎ (r ≡ OutOfMemory))
  pub table : IfOk answer (λ r. r.0.table ≡ b.table)
  pub part : IfOk answer (λ r. r.0.part ≡ newcomer_at limits b.game r.0.part.slot (place_in from b.game))
  pub position : IfOk answer (λ r. position_at b.game.start b.game.log r.0.part.joined ≡ Some r.1)
  pub sound : IfOk answer (λ r. IsSoundPart r.0.part)

-- a follower that joined, and the position there
abbrev pub following : FollowerSeat × Parts → Reply
following joined = Following joined.0.part.joined joined.1

-- what is handed out then, under the board's name
abbrev pub handed_by : List ℕ → Result (FollowerSeat × Parts) Refusal → Option Handed
handed_by name (Ok joined) = Some (record { board = name; follower = joined.0 })
handed_by name (Err refusal) = None

-- ---- What it makes of a step: the reply, what is handed out, and the boards afterwards.

-- A board is opened, or the grounds refuse it. Its table is a new one; and there may be no memory for it, and then nothing has changed.
abbrev pub OpensAs : FloorRecord → Owner → List ℕ → ℕ → Result Unit Refusal → Reply → FloorRecord → Type 0
OpensAs f speaker name start (Err refusal) reply l = (reply ≡ Refused refusal) × (l ≡ f)
OpensAs f speaker name start (Ok u) reply l =
    ((table : TableId) × (reply ≡ Opened) × (l ≡ with_board f name (new_board f table speaker start))) ⊎ ((reply ≡ Refused OutOfMemory) × (l ≡ f))

-- a follower of the board that was found is handed out, or none is
abbrev pub FollowsAs : FloorRecord → List ℕ → Option ℕ → Option HallBoard → Reply → Option Handed → Type 0
FollowsAs f name from None reply handed = (reply ≡ Refused NoSuchBoard) × (handed ≡ None)
FollowsAs f name from (Some b) reply handed =
    (answer : Result (FollowerSeat × Parts) Refusal) × Hands (board_limits f.limits) b from answer × (reply ≡ reply_of following answer)
    × (handed ≡ handed_by name answer)

abbrev pub Makes : FloorRecord → Owner → Step → Reply → Option Handed → FloorRecord → Type 0
Makes f speaker (Open name start) reply handed l = OpensAs f speaker name start (answer_to_open f name start) reply l × (handed ≡ None)
Makes f speaker (Submit name m) reply handed l =
    (reply ≡ reply_to_play (answer_to_submit f name m)) × (l ≡ after_submit f name m (answer_to_submit f name m)) × (handed ≡ None)
Makes f speaker (End name ending) reply handed l =
    (reply ≡ reply_to_end (answer_to_end f name ending)) × (l ≡ after_end f name ending (answer_to_end f name ending)) × (handed ≡ None)
Makes f speaker (Follow who name from) reply handed l = FollowsAs f name from (lookup (same_name name) f.boards) reply handed × (l ≡ f)
Makes f speaker (Take who) reply handed l = (reply ≡ Refused WrongMode) × (l ≡ f) × (handed ≡ None)
Makes f speaker (Leave who) reply handed l = (reply ≡ Refused WrongMode) × (l ≡ f) × (handed ≡ None)

-- ---- The same of the boards while a text is answered.

-- what was handed out last
abbrev pub latest : Option Handed → Option Handed → Option Handed
latest None earlier = earlier
latest (Some handed) earlier = Some handed

pub record StateMakes (s : FloorState) (step : Step) (reply : Reply) (t : FloorState) : Type 0 where
  pub handed : Option Handed
  pub makes : Makes s.floor s.speaker step reply handed t.floor
  pub speaker : t.speaker ≡ s.speaker
  pub latest : t.handed ≡ latest handed s.handed
