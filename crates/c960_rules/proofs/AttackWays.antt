-- How the piece of a square attacks.
use Rattle.std.proofs.Common.{◌≡◌, ℕ, ◌<◌, List, sym, ◌∙◌, subst, ◌⊎◌, inl, inr}
use Rattle.c960_board.specs.declared.piece.Colour.{Colour}
use Rattle.c960_board.specs.declared.piece.Kind.{Kind}
use Rattle.c960_board.specs.declared.piece.Kind.TheVariants.{Pawn}
use Rattle.c960_board.specs.declared.parts.Parts.{Parts}
use Rattle.c960_board.specs.Pieces.{Cell, man}
use Rattle.c960_board.specs.Moves.{Triple}
use Rattle.c960_board.specs.Cells.{cell_at}
use Rattle.c960_rules.specs.Attacks.{AttacksAs, Attacks, AttackedBy, IsForward}
use Rattle.c960_rules.specs.Reaches.{StepsTwice, GoesAsPawn}
use Rattle.c960_rules.proofs.lemmas.PieceFacts.{one_colour, one_kind}

-- a piece attacks as its colour and kind do
pub attack_way : (cells : List Cell) (c : Colour) (k : Kind) (s t : ℕ) → cell_at cells s ≡ man c k → Attacks cells s t
    → AttacksAs cells c k s t
attack_way cells c k s t e w =
    let same = sym w.piece ∙ e in
    subst (λ (j : Kind). AttacksAs cells c j s t) (one_kind w.colour c w.kind k same)
    (subst (λ (d : Colour). AttacksAs cells d w.kind s t) (one_colour w.colour c w.kind k same) w.way)

-- a pawn attacks forward
pub pawn_forward : (cells : List Cell) (c : Colour) (s t : ℕ) → cell_at cells s ≡ man c Pawn → Attacks cells s t
    → IsForward c s t
pawn_forward cells c s t e w = (attack_way cells c Pawn s t e w).1

-- a pawn goes one rank forward, or steps twice
pub pawn_way : (p : Parts) (m : Triple) → GoesAsPawn p m → IsForward p.turn m.from m.to ⊎ StepsTwice p m
pawn_way p m r =
    elim r.way [
      | inl w ↦ inl w.forward
      | inr (inl w) ↦ inr w
      | inr (inr w) ↦ inl (pawn_forward p.placement p.turn m.from m.to r.mover w.attack)
    ]

-- a square that a piece of the colour attacks is attacked by the colour
pub attacked_from : (cells : List Cell) (c : Colour) (k : Kind) (s t : ℕ) → s < 64 → cell_at cells s ≡ man c k
    → Attacks cells s t → AttackedBy cells c t
attacked_from cells c k s t l e w =
    record { from = s; kind = k; on_board = l; piece = e; way = attack_way cells c k s t e w }
