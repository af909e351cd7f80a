-- The grammar: which texts belong to a position.
use Rattle.std.specs.Prelude.{ℕ, ◌≡◌, List}
use Rattle.c960_board.specs.declared.parts.Parts.{Parts}
use Rattle.c960_board.specs.Fen.Letters.{turn_text}
use Rattle.c960_board.specs.Fen.Fields.{Six, IsSix}
use Rattle.c960_board.specs.Fen.Placement.{IsPlacementField}
use Rattle.c960_board.specs.Fen.Rights.{IsRightsField}
use Rattle.c960_board.specs.Fen.Target.{IsTargetField}
use Rattle.c960_board.specs.Fen.Counters.{AreCounterFields}

-- the fields spell the position
pub record Spells (f : Six) (p : Parts) : Type 0 where
  pub placement : IsPlacementField f.placement p.placement
  pub turn : f.turn ≡ turn_text p.turn
  pub rights : IsRightsField p.placement f.rights p.rights
  pub target : IsTargetField p.placement p.turn f.target p.target
  pub counters : AreCounterFields f.half_moves f.number p.half_moves p.number

-- the text is one of the position's
pub record FenText (p : Parts) (text : List ℕ) : Type 0 where
  pub fields : Six
  pub six : IsSix fields text
  pub spelt : Spells fields p
