-- The entries that the events of a hall make.
use Rattle.std.specs.Prelude.{◌≡◌, Bool, true, cond, is_some, not, ◌&&◌, ℕ, List, [], ◌∷◌, ◌++◌, Some, None}
use Rattle.c960_game.specs.declared.ending.Ending.TheVariants.{Abandoned}
use Rattle.relay_core.specs.declared.step.Step.{Step}
use Rattle.relay_core.specs.declared.step.Step.TheVariants.{Open, Submit, End, Follow, Take, Leave}
use Rattle.relay_core.specs.History.{is_accepted}
use Rattle.relay_hall.specs.declared.owner.Owner.{Owner}
use Rattle.relay_hall.specs.Record.{HallBoard, HallRecord}
use Rattle.relay_hall.specs.Runs.{HallEvent, Comes, Says, Goes, Time, Shuts, Ends, HallTold, Replied, Silent, HallStep, goes_left}
use Rattle.relay_hall.specs.Times.{has_waited}
use Rattle.relay_journal.specs.declared.entry.Entry.{Entry}
use Rattle.relay_journal.specs.declared.entry.Entry.TheVariants.{Opens, Plays, Ends as EndsGame}

-- the entry of a step, if it is accepted; follows make none
abbrev pub entry_of : Owner → Step → List Entry
entry_of who (Open name start) = Opens name start who.key ∷ []
entry_of who (Submit name m) = Plays name m ∷ []
entry_of who (End name ending) = EndsGame name ending ∷ []
entry_of who (Follow by name from) = []
entry_of who (Take by) = []
entry_of who (Leave by) = []

-- those of the games that go on and are left
abbrev pub ends_in : (Owner → Bool) → List (List ℕ × HallBoard) → List Entry
ends_in gone [] = []
ends_in gone (e ∷ es) = cond (gone e.1.owner && not (is_some e.1.game.outcome)) (EndsGame e.0 Abandoned ∷ []) [] ++ ends_in gone es

-- those of an event
abbrev pub entries_at : HallRecord → HallEvent → HallTold → HallRecord → List Entry
entries_at k (Comes key) told l = []
entries_at k (Says speaker step) (Replied reply handed) l = cond (is_accepted reply) (entry_of speaker step) []
entries_at k (Says speaker step) Silent l = []
entries_at k (Goes who) told l = ends_in (goes_left l who.opener who.key) k.floor.boards
entries_at k (Time t) told l = ends_in (λ o. has_waited (Some t) k.keys o.key) k.floor.boards
entries_at k Shuts told l = ends_in (λ o. has_waited None k.keys o.key) k.floor.boards
entries_at k Ends told l = ends_in (λ _. true) k.floor.boards

-- one event after another, from a hall to a hall, and all entries that they make
abbrev pub Journals : HallRecord → List HallEvent → List HallTold → List Entry → HallRecord → Type 0
Journals k [] [] js l = (js ≡ []) × (l ≡ k)
Journals k [] (t ∷ ts) js l = ⊥
Journals k (e ∷ es) [] js l = ⊥
Journals k (e ∷ es) (t ∷ ts) js l = (mid : HallRecord) × (rest : List Entry) × HallStep k e t mid × (js ≡ entries_at k e t mid ++ rest) × Journals mid es ts rest l
