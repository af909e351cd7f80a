-- The words in answers are short.
use Rattle.std.proofs.Common.{◌≤◌, length, lit≤}
use Rattle.c960_board.specs.declared.piece.Colour.TheVariants.{White, Black}
use Rattle.c960_game.specs.declared.outcome.Outcome.{Outcome}
use Rattle.c960_game.specs.declared.outcome.Outcome.TheVariants.{Checkmate, Stalemate, Resigned, Agreed, Abandoned, Threefold, Fifty, Fivefold, SeventyFive, LostOnTime, Decided}
use Rattle.c960_game.specs.declared.result.Result.TheVariants.{WhiteWins, BlackWins, Draw}
use Rattle.c960_game.specs.declared.refusal.Refusal.{Refusal}
use Rattle.c960_game.specs.declared.refusal.Refusal.TheVariants.{NoSuchBoard, BoardExists, BadStart, TooManyBoards, GameOver, Illegal, LogFull, ClaimRefused, NoSuchFollower, FollowerExists, TooManyFollowers, OutOfMemory, NotYourBoard, WrongMode, TooFarBack, NotYet}
use Rattle.c960_game.specs.Outcome.{outcome_text}
use Rattle.c960_game.specs.Refusal.{refusal_name}
use Rattle.relay_messages.specs.declared.fault.MessageFault.{MessageFault}
use Rattle.relay_messages.specs.declared.fault.MessageFault.TheVariants as faults
use Rattle.relay_messages.specs.Faults.{message_fault_name}

pub outcome_short : (o : Outcome) → length (outcome_text o) ≤ 22
outcome_short (Checkmate White) = lit≤ tt
outcome_short (Checkmate Black) = lit≤ tt
outcome_short Stalemate = lit≤ tt
outcome_short (Resigned White) = lit≤ tt
outcome_short (Resigned Black) = lit≤ tt
outcome_short Agreed = lit≤ tt
outcome_short Abandoned = lit≤ tt
outcome_short Threefold = lit≤ tt
outcome_short Fifty = lit≤ tt
outcome_short Fivefold = lit≤ tt
outcome_short SeventyFive = lit≤ tt
outcome_short (LostOnTime White) = lit≤ tt
outcome_short (LostOnTime Black) = lit≤ tt
outcome_short (Decided WhiteWins) = lit≤ tt
outcome_short (Decided BlackWins) = lit≤ tt
outcome_short (Decided Draw) = lit≤ tt

pub refusal_short : (r : Refusal) → length (refusal_name r) ≤ 20
refusal_short NoSuchBoard = lit≤ tt
refusal_short BoardExists = lit≤ tt
refusal_short BadStart = lit≤ tt
refusal_short TooManyBoards = lit≤ tt
refusal_short GameOver = lit≤ tt
refusal_short Illegal = lit≤ tt
refusal_short LogFull = lit≤ tt
refusal_short ClaimRefused = lit≤ tt
refusal_short NoSuchFollower = lit≤ tt
refusal_short FollowerExists = lit≤ tt
refusal_short TooManyFollowers = lit≤ tt
refusal_short OutOfMemory = lit≤ tt
refusal_short NotYourBoard = lit≤ tt
refusal_short WrongMode = lit≤ tt
refusal_short TooFarBack = lit≤ tt
refusal_short NotYet = lit≤ tt

pub fault_short : (f : MessageFault) → length (message_fault_name f) ≤ 20
fault_short faults.OutOfMemory = lit≤ tt
fault_short faults.NotJson = lit≤ tt
fault_short faults.NotObject = lit≤ tt
fault_short faults.UnknownCommand = lit≤ tt
fault_short faults.BadField = lit≤ tt
