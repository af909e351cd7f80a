-- Ordinary moves, as a test that computes.
use Rattle.std.specs.Prelude.{ℕ, Bool, true, false, ◌&&◌, ◌||◌, ◌==◌, not, is_none, List, Option, Some, None}
use Rattle.c960_board.specs.declared.piece.Colour.{Colour}
use Rattle.c960_board.specs.declared.piece.Kind.{Kind}
use Rattle.c960_board.specs.declared.piece.Kind.TheVariants.{Pawn}
use Rattle.c960_board.specs.declared.parts.Parts.{Parts}
use Rattle.c960_board.specs.Squares.{rank_of, ahead}
use Rattle.c960_board.specs.Pieces.{Cell, other, is_of, holds}
use Rattle.c960_board.specs.Cells.{cell_at}
use Rattle.c960_board.specs.Moves.{Triple}
use Rattle.c960_rules.specs.Lines.{same_file}
use Rattle.c960_rules.specs.Tests.Attacks.{is_forward, attacks}
use Rattle.c960_rules.specs.Reaches.{is_target, last_rank, pawn_rank}

abbrev pub is_empty : List Cell → ℕ → Bool
is_empty cells s = is_none (cell_at cells s)

abbrev pub promotes_rightly : Bool → Option Kind → Bool
promotes_rightly at_last None = not at_last
promotes_rightly at_last (Some k) = at_last

unfoldable pub steps : List Cell → Colour → ℕ → ℕ → Bool
steps cells c s t = same_file s t && (is_forward c s t && is_empty cells t)

unfoldable pub steps_twice : List Cell → Colour → ℕ → ℕ → Bool
steps_twice cells c s t =
    (rank_of s == pawn_rank c) && ((t == ahead c (ahead c s)) && (is_empty cells (ahead c s) && is_empty cells t))

unfoldable pub takes : List Cell → Colour → Option ℕ → ℕ → ℕ → Bool
takes cells c target s t = attacks cells s t && (is_of (other c) (cell_at cells t) || is_target target t)

unfoldable pub reaches : Parts → Triple → Bool
reaches p m =
    elim (is_of p.turn (cell_at p.placement m.from) && not (is_of p.turn (cell_at p.placement m.to))) [
      | false ↦ false
      | true ↦ elim (holds p.turn Pawn (cell_at p.placement m.from)) [
        | true ↦ promotes_rightly (rank_of m.to == last_rank p.turn) m.promotion
            && (steps p.placement p.turn m.from m.to
            || (steps_twice p.placement p.turn m.from m.to
            || takes p.placement p.turn p.target m.from m.to))
        | false ↦ is_none m.promotion && attacks p.placement m.from m.to
      ]
    ]
