use Rattle.std.proofs.Common.{◌≡◌, true, false, ap, sym, ◌∙◌}
use Rattle.std.specs.Prelude.{◌==◌}
use Rattle.std.proofs.Math.Bool.{and-false, and-true}
use Rattle.c960_board.specs.declared.piece.Colour.{Colour}
use Rattle.c960_board.specs.declared.piece.Kind.TheVariants.{Pawn}
use Rattle.c960_board.specs.Pieces.{holds}
use Rattle.c960_board.specs.Cells.{cell_at}
use Rattle.c960_board.specs.Squares.{rank_of}
use Rattle.c960_rules.specs.Reaches.{last_rank}
use Rattle.c960_rules.proofs.GoalFacts.{holds_test}
use Rattle.c960_rules.proofs.promotion.promotes.Goals as goal

pub returns-then-not-is_last : goal.returns-then-not-is_last
returns-then-not-is_last c =
    let p = c.args.position.now in
    let off : (rank_of c.args.to == last_rank p.turn) ≡ false =
    ap (λ (d : Colour). rank_of c.args.to == last_rank d) (sym c.turn-turn.ensures) ∙ sym c.is_on_last_rank-is_last.ensures
    ∙ c.if-not-is_last.true in
    rw off (sym (and-false (holds p.turn Pawn (cell_at p.placement c.args.from))))

pub returns : goal.returns
returns c =
    let p = c.args.position.now in
    let on : (rank_of c.args.to == last_rank p.turn) ≡ true =
    ap (λ (d : Colour). rank_of c.args.to == last_rank d) (sym c.turn-turn.ensures) ∙ sym c.is_on_last_rank-is_last.ensures
    ∙ c.if-not-is_last.false in
    rw on
    (holds_test Pawn c.stands.result c.turn-turn.result p.turn (cell_at p.placement c.args.from) c.stands.ensures c.turn-turn.ensures
    ∙ sym (and-true (holds p.turn Pawn (cell_at p.placement c.args.from))))
