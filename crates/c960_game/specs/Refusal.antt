-- The refusals: their numbers and names.
use Rattle.std.specs.Prelude.{ℕ, List, codes}
use Rattle.c960_game.specs.declared.refusal.Refusal.{Refusal}
use Rattle.c960_game.specs.declared.refusal.Refusal.TheVariants.{NoSuchBoard, BoardExists, BadStart, TooManyBoards, GameOver, Illegal, LogFull, ClaimRefused, NoSuchFollower, FollowerExists, TooManyFollowers, OutOfMemory, NotYourBoard, WrongMode, TooFarBack, NotYet}

abbrev pub refusal_code : Refusal → ℕ
refusal_code NoSuchBoard = 1
refusal_code BoardExists = 2
refusal_code BadStart = 3
refusal_code TooManyBoards = 4
refusal_code GameOver = 5
refusal_code Illegal = 6
refusal_code LogFull = 7
refusal_code ClaimRefused = 8
refusal_code NoSuchFollower = 9
refusal_code FollowerExists = 10
refusal_code TooManyFollowers = 11
refusal_code OutOfMemory = 12
refusal_code NotYourBoard = 13
refusal_code WrongMode = 14
refusal_code TooFarBack = 15
refusal_code NotYet = 16

abbrev pub refusal_name : Refusal → List ℕ
refusal_name NoSuchBoard = codes "NoSuchBoard"
refusal_name BoardExists = codes "BoardExists"
refusal_name BadStart = codes "BadStart"
refusal_name TooManyBoards = codes "TooManyBoards"
refusal_name GameOver = codes "GameOver"
refusal_name Illegal = codes "Illegal"
refusal_name LogFull = codes "LogFull"
refusal_name ClaimRefused = codes "ClaimRefused"
refusal_name NoSuchFollower = codes "NoSuchFollower"
refusal_name FollowerExists = codes "FollowerExists"
refusal_name TooManyFollowers = codes "TooManyFollowers"
refusal_name OutOfMemory = codes "OutOfMemory"
refusal_name NotYourBoard = codes "NotYourBoard"
refusal_name WrongMode = codes "WrongMode"
refusal_name TooFarBack = codes "TooFarBack"
refusal_name NotYet = codes "NotYet"
