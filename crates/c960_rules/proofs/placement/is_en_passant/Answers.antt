use Rattle.std.proofs.Common.{◌≡◌, ℕ, Option, false, ap, sym, ◌∙◌}
use Rattle.std.proofs.Math.Bool.{and-false}
use Rattle.c960_board.specs.declared.piece.Kind.TheVariants.{Pawn}
use Rattle.c960_board.specs.Moves.{Triple}
use Rattle.c960_board.specs.Pieces.{holds}
use Rattle.c960_board.specs.Cells.{cell_at}
use Rattle.c960_rules.specs.After.{is_en_passant}
use Rattle.c960_rules.specs.Reaches.{is_target}
use Rattle.c960_rules.proofs.placement.is_en_passant.Goals as goal

pub returns-then-not-is_on_target : goal.returns-then-not-is_on_target
unfolding is_en_passant
returns-then-not-is_on_target c =
    let p = c.args.position.now in
    let m = c.args.m.now in
    let to = ap (λ (t : Triple). t.to) c.m.view_is in
    let off : is_target p.target m.to ≡ false =
    ap (λ (o : Option ℕ). is_target o m.to) (sym c.target.ensures) ∙ ap (λ (u : ℕ). is_target c.target.result u) (sym to)
    ∙ sym c.is_target-is_on_target.ensures ∙ c.if-not-is_on_target.true in
    rw off (sym (and-false (holds p.turn Pawn (cell_at p.placement m.from))))
