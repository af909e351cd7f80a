-- Who comes and goes, what time does, and which games a hall ends by itself.
use Rattle.std.specs.Prelude.{◌≡◌, ℕ, ◌+◌, ◌-◌, ◌^◌, max, min, nat_lt, Bool, false, true, ◌&&◌, not, is_none, cond, is_some, List, map, Option, Some, None}
use Rattle.std.specs.List.{list_any}
use Rattle.c960_game.specs.declared.outcome.Outcome.TheVariants.{Abandoned}
use Rattle.c960_game.specs.GameRecord.{GameRecord}
use Rattle.c960_game.specs.Record.{with_outcome}
use Rattle.relay_hall.specs.declared.holders.Holder.{Holder}
use Rattle.relay_hall.specs.declared.owner.Owner.{Owner}
use Rattle.relay_hall.specs.Holders.{AllRunOut, OthersStay, has_run_out, presence_of, with_newcomer, without_one}
use Rattle.relay_hall.specs.Keys.{is_owner}
use Rattle.relay_hall.specs.Owning.{is_left_by}
use Rattle.relay_hall.specs.Record.{FloorRecord, HallBoard, HallRecord}
use Rattle.relay_hall.specs.Steps.{with_game}

-- ---- Endings by the hall.

-- a game that is not over is ended as abandoned
abbrev pub abandoned_game : GameRecord → GameRecord
abandoned_game g = cond (is_some g.outcome) g (with_outcome g Abandoned)

abbrev pub swept_board : (Owner → Bool) → HallBoard → HallBoard
swept_board gone b = cond (gone b.owner) (with_game abandoned_game b) b

-- the games of the boards of those that are gone are
abbrev pub swept_floor : FloorRecord → (Owner → Bool) → FloorRecord
swept_floor f gone = record f { boards = map (λ e. (e.0, swept_board gone e.1)) f.boards }

abbrev pub swept : HallRecord → (Owner → Bool) → HallRecord
swept k gone = record k { floor = swept_floor k.floor gone }

-- ---- Coming and going.

-- a connection with the key has come
abbrev pub Came : HallRecord → List ℕ → HallRecord → Type 0
Came k key l =
    (is_some (presence_of key l.keys) ≡ true) × (presence_of key l.keys ≡ with_newcomer (presence_of key k.keys)) × OthersStay key k.keys l.keys
    × (l ≡ record k { keys = l.keys })

-- when a grace that begins now is over
abbrev pub due_at : HallRecord → ℕ
due_at k = min (k.time + k.grace) (2 ^ 64 - 1)

-- until when the boards of a key wait, if it has any, somebody can come back, and there is a grace
abbrev pub waits_until : HallRecord → List ℕ → Option ℕ
waits_until k key =
    cond (list_any (λ e. is_owner (Some key) e.1.owner.key) k.floor.boards && (not k.shut && nat_lt k.time (due_at k))) (Some (due_at k)) None

-- the boards of this key are left by all
abbrev pub is_left_all : List Holder → List ℕ → Owner → Bool
is_left_all keys key owner = is_none (presence_of key keys) && is_owner (Some key) owner.key

-- a connection with this key goes: it is counted, its boards wait, or they are ended now
abbrev pub WentWith : HallRecord → List ℕ → HallRecord → Type 0
WentWith k key l =
    (presence_of key l.keys ≡ without_one (presence_of key k.keys) (waits_until k key)) × OthersStay key k.keys l.keys
    × (l ≡ record (swept k (is_left_all l.keys key)) { keys = l.keys })

-- a connection of this number goes
abbrev pub WentBy : HallRecord → ℕ → Option (List ℕ) → HallRecord → Type 0
WentBy k who None l = l ≡ swept k (is_left_by who)
WentBy k who (Some key) l = WentWith k key l

-- ---- Time.

-- the boards of this owner have waited until now; without a time, they wait
abbrev pub has_waited : Option ℕ → List Holder → Option (List ℕ) → Bool
has_waited now keys None = false
has_waited now keys (Some key) = has_run_out now (presence_of key keys)

-- the time comes: each key whose boards have waited until then is gone, and those boards are ended
abbrev pub Timed : HallRecord → ℕ → HallRecord → Type 0
Timed k t l =
    AllRunOut (Some t) k.keys l.keys × (l ≡ record (swept k (λ o. has_waited (Some t) k.keys o.key)) { keys = l.keys; time = max k.time t })

-- nobody can come back any more: no board waits any longer
abbrev pub Shut : HallRecord → HallRecord → Type 0
Shut k l =
    AllRunOut None k.keys l.keys × (l ≡ record (swept k (λ o. has_waited None k.keys o.key)) { keys = l.keys; shut = true })
