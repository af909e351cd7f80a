-- When two positions are the same for a claim, as a test that computes.
use Rattle.std.specs.Prelude.{ℕ, Bool, ◌&&◌, nat_eq, Option, None, cond}
use Rattle.std.specs.Bool.{beq}
use Rattle.std.specs.Cmp.Lexicographic.{pointwise}
use Rattle.std.specs.List.{list_any}
use Rattle.std.specs.Option.{option_eq}
use Rattle.c960_board.specs.declared.parts.Parts.{Parts}
use Rattle.c960_board.specs.declared.piece.Piece.{Piece}
use Rattle.c960_board.specs.declared.rights.CastlingRights.{CastlingRights}
use Rattle.c960_board.specs.Moves.{Triple}
use Rattle.c960_board.specs.Pieces.{same_colour, same_kind}
use Rattle.c960_rules.specs.After.{is_en_passant}
use Rattle.c960_rules.specs.Tests.Legal.{is_legal, all_moves}

abbrev pub same_piece : Piece → Piece → Bool
same_piece a b = same_colour a.colour b.colour && same_kind a.kind b.kind

abbrev pub same_rights : CastlingRights → CastlingRights → Bool
same_rights a b = pointwise beq a.white b.white && pointwise beq a.black b.black

-- a legal capture en passant
unfoldable pub is_legal_en_passant : Parts → Triple → Bool
is_legal_en_passant p m = is_en_passant p m && is_legal p m

-- the target, if a legal capture en passant exists
unfoldable pub legal_target : Parts → Option ℕ
legal_target p = cond (list_any (is_legal_en_passant p) all_moves) p.target None

unfoldable pub same : Parts → Parts → Bool
same p q =
    same_colour p.turn q.turn && (pointwise (option_eq same_piece) p.placement q.placement
    && (same_rights p.rights q.rights && option_eq nat_eq (legal_target p) (legal_target q)))
