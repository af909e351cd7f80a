-- The outcome that a game has by itself (FIDE Laws, Articles 5.1.1, 5.2.1 and 9.6).
use Rattle.std.specs.Prelude.{ℕ, ◌==◌, List, length, Option, Some, None, cond}
use Rattle.std.specs.Option.{option_or}
use Rattle.c960_board.specs.declared.parts.Parts.{Parts}
use Rattle.c960_board.specs.Moves.{Triple}
use Rattle.c960_board.specs.Pieces.{other}
use Rattle.c960_rules.specs.Tests.Check.{in_check}
use Rattle.c960_rules.specs.Tests.Legal.{legal_list}
use Rattle.c960_game.specs.declared.outcome.Outcome.{Outcome}
use Rattle.c960_game.specs.declared.outcome.Outcome.TheVariants.{Checkmate, Stalemate}
use Rattle.c960_game.specs.Draws.{auto_outcome}
use Rattle.c960_game.specs.Positions.{last_position}

-- None while the side to move has a legal move; otherwise it is mated by the other side if its king is attacked, and stalemated
-- if it is not.
unfoldable pub outcome_of : Parts → Option Outcome
outcome_of p =
    cond (length (legal_list p) == 0) (Some (cond (in_check p.placement p.turn) (Checkmate (other p.turn)) Stalemate)) None

-- Mate or stalemate in the last position, or else the draw that comes without a claim. (Article 9.6.2 puts checkmate first. That
-- stalemate and the fivefold appearance come before the seventy-five moves is a choice of this project.)
unfoldable pub own_outcome : ℕ → List Triple → Option Outcome
own_outcome n l = option_or (outcome_of (last_position n l)) (auto_outcome n l)
