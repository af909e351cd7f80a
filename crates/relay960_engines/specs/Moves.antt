-- The lines for a text in FEN: its legal moves and its state, or why it has none.
use Rattle.std.specs.Prelude.{ℕ, ◌≡◌, ◌⊎◌, ◌↔◌, Bool, true, false, List, [], ◌∷◌, ◌++◌, Option, codes}
use Rattle.std.specs.List.{flat_map}
use Rattle.std.specs.Io.KnownBytes.{Appends, Keeps}
use Rattle.c960_board.specs.declared.fen.fault.FenFault.{FenFault}
use Rattle.c960_board.specs.declared.parts.Parts.{Parts}
use Rattle.c960_board.specs.Fen.Faults.{IsFault, fen_fault_code, fen_fault_name}
use Rattle.c960_board.specs.Fen.Text.{FenText}
use Rattle.c960_board.specs.Moves.{Triple}
use Rattle.c960_board.specs.MoveTexts.{move_text}
use Rattle.c960_rules.specs.Check.{IsLawful}
use Rattle.c960_rules.specs.Legal.{Legal, Mate, Stale}
use Rattle.c960_rules.specs.Tests.Legal.{legal_list}
use Rattle.c960_rules.specs.declared.side_to_move.State.{State}
use Rattle.c960_rules.specs.declared.side_to_move.State.TheVariants.{Going, Checkmate, Stalemate}
use Rattle.relay960_engines.specs.declared.fault.RunFault.{RunFault}
use Rattle.relay960_engines.specs.declared.fault.RunFault.TheVariants.{Read, Write, TooLong, OutOfMemory, BadStart}
use Rattle.relay960_engines.specs.Writing.{AppendsPart, line, numbered_line}

-- a space and the text of the move
abbrev pub spaced : Triple → List ℕ
spaced m = 32 ∷ move_text m

-- the texts of the moves, with single spaces between them
abbrev pub parted : List Triple → List ℕ
parted [] = []
parted (m ∷ ms) = move_text m ++ flat_map spaced ms

-- the line of a fault of the text
abbrev pub fault_line : FenFault → List ℕ
fault_line e = numbered_line (codes "fault ") (fen_fault_code e) (fen_fault_name e)

-- the line of a position whose side not to move is in check
abbrev pub unlawful_line : List ℕ
unlawful_line = line (codes "unlawful")

abbrev pub state_name : State → List ℕ
state_name Going = codes "going"
state_name Checkmate = codes "checkmate"
state_name Stalemate = codes "stalemate"

-- the state is the position's, whatever its counters
pub record IsState (s : State) (p : Parts) : Type 0 where
  pub going : (s ≡ Going) ↔ ((m : Triple) × Legal p m)
  pub checkmate : (s ≡ Checkmate) ↔ Mate p
  pub stalemate : (s ≡ Stalemate) ↔ Stale p

-- the line of the legal moves and that of the state
abbrev pub moves_lines : Parts → State → List ℕ
moves_lines p s = line (parted (legal_list p)) ++ line (state_name s)

-- the text has a fault, and the bytes are its line
pub record Refused (fen bytes : List ℕ) : Type 0 where
  pub fault : FenFault
  pub is_fault : IsFault fault fen
  pub text : bytes ≡ fault_line fault

-- the text is that of a position that is not lawful, and the bytes say so
pub record Unlawful (fen bytes : List ℕ) : Type 0 where
  pub position : Parts
  pub fen_text : FenText position fen
  pub not_lawful : IsLawful position → ⊥
  pub text : bytes ≡ unlawful_line

-- the text is that of a lawful position, and the bytes are its lines
pub record Listed (fen bytes : List ℕ) : Type 0 where
  pub position : Parts
  pub fen_text : FenText position fen
  pub lawful : IsLawful position
  pub state : State
  pub is_state : IsState state position
  pub text : bytes ≡ moves_lines position state

-- the bytes are the answer to the text; the answer is true if they list the moves
abbrev pub IsAnswer : List ℕ → Bool → List ℕ → Type 0
IsAnswer fen true bytes = Listed fen bytes
IsAnswer fen false bytes = Refused fen bytes ⊎ Unlawful fen bytes

-- the whole answer was written
pub record Answered (fen : List ℕ) (good : Bool) (old new : Option (List ℕ)) : Type 0 where
  pub bytes : List ℕ
  pub answer : IsAnswer fen good bytes
  pub written : Appends old new bytes

-- a part of the answer was written
pub record PartlyAnswered (fen : List ℕ) (old new : Option (List ℕ)) : Type 0 where
  pub good : Bool
  pub bytes : List ℕ
  pub answer : IsAnswer fen good bytes
  pub written : AppendsPart old new bytes

-- nothing was written of the answer to a lawful position
pub record Unanswered (fen : List ℕ) (old new : Option (List ℕ)) : Type 0 where
  pub bytes : List ℕ
  pub answer : Listed fen bytes
  pub kept : Keeps old new

-- what is written before a fault: a part of the answer if a write failed, and nothing if there was no memory, which
-- only lawful positions need
abbrev pub Failed : List ℕ → RunFault → Option (List ℕ) → Option (List ℕ) → Type 0
Failed fen Write old new = PartlyAnswered fen old new
Failed fen OutOfMemory old new = Unanswered fen old new
Failed fen Read old new = ⊥
Failed fen TooLong old new = ⊥
Failed fen BadStart old new = ⊥

-- the same for a text that is to be written
abbrev pub FailedText : List ℕ → RunFault → Option (List ℕ) → Option (List ℕ) → Type 0
FailedText text Write old new = AppendsPart old new text
FailedText text OutOfMemory old new = Keeps old new
FailedText text Read old new = ⊥
FailedText text TooLong old new = ⊥
FailedText text BadStart old new = ⊥
