-- Legal moves, checkmate and stalemate (FIDE Laws, Articles 1.4.1, 3.9.2, 3.10.1, 5.1.1 and 5.2.1).
use Rattle.std.specs.Prelude.{◌⊎◌, IsTrue}
use Rattle.c960_board.specs.declared.parts.Parts.{Parts}
use Rattle.c960_board.specs.Moves.{Triple, IsMove}
use Rattle.c960_rules.specs.Check.{InCheck}
use Rattle.c960_rules.specs.Reaches.{Reaches}
use Rattle.c960_rules.specs.Castles.{Castles}
use Rattle.c960_rules.specs.After.{placement_after, is_en_passant}

-- the move is one of the piece's or castling, and does not leave the mover's king attacked
pub record Legal (p : Parts) (m : Triple) : Type 0 where
  pub move : IsMove m
  pub goes : Reaches p m ⊎ Castles p m
  pub safe : InCheck (placement_after p m) p.turn → ⊥

-- a legal capture en passant
pub record LegalEnPassant (p : Parts) (m : Triple) : Type 0 where
  pub legal : Legal p m
  pub takes : IsTrue (is_en_passant p m)

-- no legal move, and the king of the side to move is attacked
pub record Mate (p : Parts) : Type 0 where
  pub no_move : (m : Triple) → Legal p m → ⊥
  pub check : InCheck p.placement p.turn

-- no legal move, and the king of the side to move is not attacked
pub record Stale (p : Parts) : Type 0 where
  pub no_move : (m : Triple) → Legal p m → ⊥
  pub no_check : InCheck p.placement p.turn → ⊥
