-- What a push puts.
use Rattle.std.specs.Prelude.{◌≡◌, ◌⊎◌, ◌+◌, ◌==◌, ◌<◌, ◌≤◌, ℕ, Bool, cond, true, false, List, [], ◌∷◌, ◌++◌, length, Option, None, Some, is_some, ⊤}
use Rattle.std.specs.Map.{lookup}
use Rattle.c960_board.specs.Moves.{Triple}
use Rattle.c960_game.specs.declared.outcome.Outcome.{Outcome}
use Rattle.relay_core.specs.Name.{same_name}
use Rattle.relay_core.specs.declared.reply.Taken.{Taken}
use Rattle.relay_core.specs.declared.reply.Taken.TheVariants as takes
use Rattle.relay_core.specs.declared.reply.Account.{Account}
use Rattle.live_board.specs.Accounts.{account_of}
use Rattle.live_board.specs.Takes.{HasSeenNoLess}
use Rattle.live_board.specs.Views.{next_of}
use Rattle.relay_hall.specs.Meeting.{Meets}
use Rattle.relay_hall.specs.Record.{FloorRecord, HallBoard}
use Rattle.relay_service.specs.declared.following.stage.Stage.{Stage}
use Rattle.relay_service.specs.declared.following.stage.Stage.TheVariants.{Follows, Over, Cut, Left, Failed}
use Rattle.relay_service.specs.Following.Boards.{IsOf, end_of}
use Rattle.relay_service.specs.Following.Calls.{left as left_as, puts}
use Rattle.relay_service.specs.declared.following.delivery.pushing.Round.{Round}
use Rattle.relay_service.specs.Following.Pieces.{Piece, a_move, an_end, frames_of, move_pieces}
use Rattle.relay_service.specs.Following.Record.{DeliveryRecord}
use Rattle.relay_service.specs.Following.Served.{IsLost}

-- the same connection: it follows the same board from the same place on, and nothing was sent meanwhile
pub record StaysWith (c d : DeliveryRecord) : Type 0 where
  pub board : d.board ≡ c.board
  pub table : d.follower.table ≡ c.follower.table
  pub setup : d.follower.part.setup ≡ c.follower.part.setup
  pub joined : d.follower.part.joined ≡ c.follower.part.joined
  pub before : d.follower.part.before ≡ c.follower.part.before
  pub seen : HasSeenNoLess c.follower.part d.follower.part
  pub opening : d.opening ≡ c.opening
  pub sent : d.sent ≡ c.sent

-- the last of these moves, if there is one, was taken while less than `most` was due: these bytes, and the frames of the moves before it
abbrev pub WhileLittle : ℕ → List ℕ → ℕ → List Triple → Type 0
WhileLittle most due place moves =
    (moves ≡ [])
    ⊎ ((earlier : List Triple) × (last : Triple) × (moves ≡ earlier ++ last ∷ []) × (length (due ++ frames_of (move_pieces place earlier)) < most))

-- Its follower took moves while less than `most` was due. All but those lost were put, each once and in order, with the places from its
-- next one on; and then this.
pub record Delivers (most : ℕ) (c d : DeliveryRecord) (lost : List Triple) (ends : List Piece) : Type 0 where
  pub stays : StaysWith c d
  pub moves : List Triple
  pub little : WhileLittle most c.due (next_of c.follower.part) (moves ++ lost)
  pub taken : d.follower.part.taken ≡ c.follower.part.taken ++ (moves ++ lost)
  pub pieces : d.pieces ≡ c.pieces ++ (move_pieces (next_of c.follower.part) moves ++ ends)
  pub due : d.due ≡ c.due ++ frames_of (move_pieces (next_of c.follower.part) moves ++ ends)

-- the end's piece, if an end was put: the game's end is closed with 1000, or with 1001 if the server goes
abbrev pub end_pieces : Bool → Stage → List Piece
end_pieces is_ending Follows = []
end_pieces is_ending (Over outcome) = an_end (takes.Over outcome) (cond is_ending 1001 1000) ∷ []
end_pieces is_ending Cut = an_end takes.Cut 4001 ∷ []
end_pieces is_ending Left = []
end_pieces is_ending Failed = []

-- how far one has come that has taken all that there is: it was cut off, if it was closed; or else the game may be over
abbrev pub stage_behind : Bool → Option Outcome → Stage
stage_behind true outcome = Cut
stage_behind false (Some outcome) = Over outcome
stage_behind false None = Follows

-- More can be taken: then much is due, and it still follows. Or all moves were taken, to its closing or to the present, and its end was put
-- if there is one.
abbrev pub HasReached : ℕ → HallBoard → DeliveryRecord → Bool → Type 0
HasReached most b d true = (most ≤ length d.due) × (d.stage ≡ Follows)
HasReached most b d false = (next_of d.follower.part ≡ end_of b d.follower.part) × (d.stage ≡ stage_behind (is_some d.follower.part.closing) b.game.outcome)

-- All that was taken was put, and it has reached its end or what may be due, by the board of its name in this hall.
pub record Pushes (f : FloorRecord) (most : ℕ) (is_ending : Bool) (c d : DeliveryRecord) (more : Bool) : Type 0 where
  pub board : HallBoard
  pub found : lookup (same_name c.board) f.boards ≡ Some board
  pub delivers : Delivers most c d [] (end_pieces is_ending d.stage)
  pub reached : HasReached most board d more

-- it still follows, or there was no memory for a move
abbrev pub HasNoEnd : Stage → Type 0
HasNoEnd Follows = ⊤
HasNoEnd (Over outcome) = ⊥
HasNoEnd Cut = ⊥
HasNoEnd Left = ⊥
HasNoEnd Failed = ⊤

-- There was no memory. It still follows, and all that was taken was put; or a move was taken and not put, and it follows no more.
pub record PushFails (most : ℕ) (c d : DeliveryRecord) : Type 0 where
  pub lost : List Triple
  pub few : IsLost d.stage lost
  pub delivers : Delivers most c d lost []
  pub stands : HasNoEnd d.stage

-- what was put of a take: a move, and then there may be more; or nothing
abbrev pub PutAs : Taken → Bool → DeliveryRecord → DeliveryRecord → Type 0
PutAs (takes.Move place m) some c d = (some ≡ true) × (d ≡ puts c (a_move place m))
PutAs takes.Nothing some c d = (some ≡ false) × (d ≡ c)
PutAs (takes.Over outcome) some c d = (some ≡ false) × (d ≡ c)
PutAs takes.Cut some c d = (some ≡ false) × (d ≡ c)

-- ---- The parts of a push.

-- a move was taken and not put, or none
abbrev pub DeliversLost : ℕ → DeliveryRecord → DeliveryRecord → Type 0
DeliversLost most c d = (lost : List Triple) × (length lost ≤ 1) × Delivers most c d lost []

-- One move was taken and put. Or none was: much is due, all that was seen had been taken, or it stands at its closing.
abbrev pub TakesOne : ℕ → Bool → DeliveryRecord → DeliveryRecord → Type 0
TakesOne most true c d = Delivers most c d [] [] × (next_of d.follower.part ≡ next_of c.follower.part + 1)
TakesOne most false c d =
    Delivers most c d [] []
    × ((most ≤ length d.due) ⊎ ((c.follower.part.seen ≤ next_of d.follower.part) ⊎ (d.follower.part.closing ≡ Some (next_of d.follower.part))))

-- why no more was taken: much is due; this place is reached; all that was seen was taken; or it stands at its closing
abbrev pub StopsAt : ℕ → ℕ → DeliveryRecord → DeliveryRecord → Type 0
StopsAt most limit c d =
    (most ≤ length d.due)
    ⊎ ((limit ≤ next_of d.follower.part)
    ⊎ ((c.follower.part.seen ≤ next_of d.follower.part) ⊎ (d.follower.part.closing ≡ Some (next_of d.follower.part))))

-- it is at the table of the board of its name
abbrev pub IsAt : FloorRecord → DeliveryRecord → Type 0
IsAt f c = (b : HallBoard) × (lookup (same_name c.board) f.boards ≡ Some b) × (c.follower.table ≡ b.table)

-- it met the board of its name
abbrev pub MeetsIn : FloorRecord → DeliveryRecord → DeliveryRecord → Account → Option Outcome → Type 0
MeetsIn f c d account outcome =
    (b : HallBoard) × (lookup (same_name c.board) f.boards ≡ Some b) × (d ≡ record c { follower = d.follower })
    × Meets b c.follower d.follower × (account ≡ account_of d.follower.part) × (outcome ≡ b.game.outcome)

-- This is known behind a meeting with the board of its name, all of whose moves it has seen.
pub record IsMet (f : FloorRecord) (c : DeliveryRecord) (round : Round) : Type 0 where
  pub board : HallBoard
  pub found : lookup (same_name c.board) f.boards ≡ Some board
  pub is_of : IsOf board c.follower Follows
  pub follows : c.stage ≡ Follows
  pub seen : c.follower.part.seen ≡ length board.game.log
  pub account : round.account ≡ account_of c.follower.part
  pub outcome : round.outcome ≡ board.game.outcome

-- It took moves to this place and met its board.
pub record GoesOn (f : FloorRecord) (most limit : ℕ) (c d : DeliveryRecord) (round : Round) : Type 0 where
  pub met : IsMet f d round
  pub lost : List Triple
  pub few : length lost ≤ 1
  pub delivers : Delivers most c d lost []
  pub whole : round.is_put ≡ true → (lost ≡ []) × StopsAt most limit c d

-- all is taken, to the closing or to the present
abbrev pub is_through : Round → Bool
is_through round = round.account.joined + round.account.taken == round.account.limit

-- It took what was left in a round. Then much is due, or all is taken.
pub record CaughtUp (f : FloorRecord) (most : ℕ) (c d : DeliveryRecord) (round : Round) : Type 0 where
  pub met : IsMet f d round
  pub lost : List Triple
  pub few : length lost ≤ 1
  pub delivers : Delivers most c d lost []
  pub whole : round.is_put ≡ true → (lost ≡ []) × (is_through round ≡ false → most ≤ length d.due)

-- if there was memory in that round; if not, nothing has changed
abbrev pub CatchesUp : Bool → FloorRecord → ℕ → Round → DeliveryRecord → DeliveryRecord → Round → Type 0
CatchesUp true f most before c d after = CaughtUp f most c d after
CatchesUp false f most before c d after = (d ≡ c) × (after ≡ before)

-- the end that there is was put, if there is one
abbrev pub EndsBy : Bool → Stage → DeliveryRecord → DeliveryRecord → Type 0
EndsBy is_ending Follows c d = d ≡ c
EndsBy is_ending (Over outcome) c d = d ≡ left_as (puts c (an_end (takes.Over outcome) (cond is_ending 1001 1000))) (Over outcome)
EndsBy is_ending Cut c d = d ≡ left_as (puts c (an_end takes.Cut 4001)) Cut
EndsBy is_ending Left c d = ⊥
EndsBy is_ending Failed c d = ⊥

-- behind a round all of which was put: something is left, or the end was put if there is one
abbrev pub Finishes : Bool → Bool → Round → DeliveryRecord → DeliveryRecord → Type 0
Finishes true is_ending round c d = (round.is_put ≡ true) × (is_through round ≡ false) × (d ≡ c)
Finishes false is_ending round c d =
    (round.is_put ≡ true) × (is_through round ≡ true) × EndsBy is_ending (stage_behind round.account.cut round.outcome) c d

-- there was no memory for the end, or for a move before
abbrev pub FinishesNot : Round → DeliveryRecord → DeliveryRecord → Type 0
FinishesNot round c d = ((round.is_put ≡ true) × (d ≡ c)) ⊎ ((round.is_put ≡ false) × (d ≡ left_as c Failed))
