use Rattle.std.proofs.Common.{ℕ, ap, ◌∙◌}
use Rattle.std.specs.Prelude.{◌==◌}
use Rattle.c960_board.specs.declared.piece.Colour.{Colour}
use Rattle.c960_board.specs.Moves.{Triple}
use Rattle.c960_rules.specs.Castles.{king_goal, rook_goal}
use Rattle.c960_rules.proofs.lemmas.PieceFacts.{piece_on}
use Rattle.c960_rules.proofs.CastlingFacts.{castling}
use Rattle.c960_rules.proofs.WhereFacts.{where_or, only_at}
use Rattle.c960_rules.proofs.CastledSets.{castled_sets}
use Rattle.c960_rules.proofs.after.sets_castled.Goals as goal

pub returns : goal.returns
returns c =
    let p = c.args.position.now in
    let m = c.args.m.now in
    let valid = c.sets-sets.ensures.valid in
    let from = ap (λ (t : Triple). t.from) c.m.view_is in
    let to = ap (λ (t : Triple). t.to) c.m.view_is in
    let turn = c.turn-turn.ensures in
    let sets = c.sets-sets.ensures.value in
    let goal = c.king_goal-goal.ensures ∙ ap (λ (d : Colour). king_goal d m) turn in
    let place = c.rook_goal-place.ensures ∙ ap (λ (d : Colour). rook_goal d m) turn in
    let king = c.piece_at-king.ensures ∙ ap (λ (u : ℕ). piece_on p u) from in
    let rook = c.piece_at-rook.ensures ∙ ap (λ (u : ℕ). piece_on p u) to in
    let gone =
    where_or (λ u. u == m.from) (λ u. u == m.to) c.only.result c.only-2.result
    (only_at from c.only.ensures) (only_at to c.only-2.ensures) in
    let left = c.taken_off-left.ensures in
    let with_king = c.put_on-with_king.ensures in
    c.put_on.ensures ∙ rw (with_king, left, sets, goal, place, king, rook) (castled_sets p m (castling p m valid c.requires) _ valid.placement.full gone)
