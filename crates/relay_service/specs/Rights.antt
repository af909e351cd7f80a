-- Who may move and end the boards of a hall.
use Rattle.std.specs.Prelude.{◌≡◌, ◌⊎◌, ℕ, zero, suc, true, List, [], ◌∷◌, Some}
use Rattle.std.specs.Map.{lookup}
use Rattle.relay_core.specs.declared.step.Step.{Step}
use Rattle.relay_core.specs.declared.step.Step.TheVariants.{Open, Submit, End, Follow, Take, Leave}
use Rattle.relay_core.specs.History.{History}
use Rattle.relay_core.specs.Name.{same_name}
use Rattle.relay_hall.specs.declared.owner.Owner.{Owner}
use Rattle.relay_hall.specs.Keys.{is_owner}
use Rattle.relay_hall.specs.Record.{FloorRecord, HallBoard, HallRecord}
use Rattle.relay_hall.specs.Runs.{HallEvent, HallRuns, HallTold, Comes, Says, Goes, Time, Shuts, Ends, history_after}

-- the board of this name is there, and belongs to this one: it opened it, or has the key of whoever did
abbrev pub OwnsBoard : FloorRecord → Owner → List ℕ → Type 0
OwnsBoard f who name = (b : HallBoard) × (lookup (same_name name) f.boards ≡ Some b) × ((b.owner ≡ who) ⊎ (is_owner who.key b.owner.key ≡ true))

-- whoever makes a move or ends a game owns the board
abbrev pub IsRightfulStep : FloorRecord → Owner → Step → Type 0
IsRightfulStep f who (Open name start) = Unit {0}
IsRightfulStep f who (Submit name m) = OwnsBoard f who name
IsRightfulStep f who (End name ending) = OwnsBoard f who name
IsRightfulStep f who (Follow spectator name from) = Unit {0}
IsRightfulStep f who (Take spectator) = Unit {0}
IsRightfulStep f who (Leave spectator) = Unit {0}

abbrev pub IsRightful : HallRecord → HallEvent → Type 0
IsRightful k (Comes key) = Unit {0}
IsRightful k (Says who step) = IsRightfulStep k.floor who step
IsRightful k (Goes who) = Unit {0}
IsRightful k (Time t) = Unit {0}
IsRightful k Shuts = Unit {0}
IsRightful k Ends = Unit {0}

-- each event of a run behind so many, at the hall as it stood: the first of them made the hall again, and need no right
abbrev pub AreRightful : ℕ → (k : HallRecord) (h : History) (es : List HallEvent) (ts : List HallTold) (g : History) (l : HallRecord) → HallRuns k h es ts g l → Type 0
AreRightful n k h [] [] g l r = Unit {0}
AreRightful n k h [] (t ∷ ts) g l r = Unit {0}
AreRightful n k h (e ∷ es) [] g l r = Unit {0}
AreRightful zero k h (e ∷ es) (t ∷ ts) g l r = IsRightful k e × AreRightful 0 r.0 (history_after k e t r.0 h) es ts g l r.2
AreRightful (suc n) k h (e ∷ es) (t ∷ ts) g l r = AreRightful n r.0 (history_after k e t r.0 h) es ts g l r.2
