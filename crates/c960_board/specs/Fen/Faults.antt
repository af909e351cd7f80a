-- The first fault of a text that belongs to no position.
use Rattle.std.specs.Prelude.{ℕ, ◌≡◌, List, Option, codes}
use Rattle.c960_board.specs.declared.piece.Colour.{Colour}
use Rattle.c960_board.specs.declared.rights.CastlingRights.{CastlingRights}
use Rattle.c960_board.specs.declared.fen.fault.FenFault.{FenFault}
use Rattle.c960_board.specs.declared.fen.fault.FenFault.TheVariants.{Fields, Placement, Turn, Castling, EnPassant, Counters}
use Rattle.c960_board.specs.Pieces.{Cell}
use Rattle.c960_board.specs.Fen.Letters.{turn_text}
use Rattle.c960_board.specs.Fen.Fields.{Six, IsSix}
use Rattle.c960_board.specs.Fen.Placement.{IsPlacementField}
use Rattle.c960_board.specs.Fen.Rights.{IsRightsField}
use Rattle.c960_board.specs.Fen.Target.{IsTargetField}
use Rattle.c960_board.specs.Fen.Counters.{AreCounterFields}

abbrev pub fen_fault_code : FenFault → ℕ
fen_fault_code Fields = 1
fen_fault_code Placement = 2
fen_fault_code Turn = 3
fen_fault_code Castling = 4
fen_fault_code EnPassant = 5
fen_fault_code Counters = 6

abbrev pub fen_fault_name : FenFault → List ℕ
fen_fault_name Fields = codes "Fields"
fen_fault_name Placement = codes "Placement"
fen_fault_name Turn = codes "Turn"
fen_fault_name Castling = codes "Castling"
fen_fault_name EnPassant = codes "EnPassant"
fen_fault_name Counters = codes "Counters"

-- Every field before this one is good, and this one is not. The rights are judged against the placement, the target against the
-- placement and the turn.
abbrev pub FaultIn : FenFault → Six → Type 0
FaultIn Fields f = ⊥
FaultIn Placement f = (cells : List Cell) → IsPlacementField f.placement cells → ⊥
FaultIn Turn f =
    (cells : List Cell) × IsPlacementField f.placement cells
    × ((turn : Colour) → f.turn ≡ turn_text turn → ⊥)
FaultIn Castling f =
    (cells : List Cell) × (turn : Colour) × IsPlacementField f.placement cells × (f.turn ≡ turn_text turn)
    × ((r : CastlingRights) → IsRightsField cells f.rights r → ⊥)
FaultIn EnPassant f =
    (cells : List Cell) × (turn : Colour) × (r : CastlingRights) × IsPlacementField f.placement cells × (f.turn ≡ turn_text turn)
    × IsRightsField cells f.rights r × ((t : Option ℕ) → IsTargetField cells turn f.target t → ⊥)
FaultIn Counters f =
    (cells : List Cell) × (turn : Colour) × (r : CastlingRights) × (t : Option ℕ) × IsPlacementField f.placement cells
    × (f.turn ≡ turn_text turn) × IsRightsField cells f.rights r × IsTargetField cells turn f.target t
    × ((h n : ℕ) → AreCounterFields f.half_moves f.number h n → ⊥)

-- the text is not six fields, or it is and the fault is in one of them
abbrev pub IsFault : FenFault → List ℕ → Type 0
IsFault Fields text = (f : Six) → IsSix f text → ⊥
IsFault e text = (f : Six) × IsSix f text × FaultIn e f
