use Rattle.std.proofs.Common.{◌≡◌, Some, ap, ◌∙◌}
use Rattle.c960_board.specs.Pieces.{Cell, is_of, holds}
use Rattle.c960_board.specs.Sets.{is_kind, colour_set, kind_set}
use Rattle.c960_board.proofs.lemmas.SetFacts.{opened, set_and, holds_both, man_says, bit_says, colour_is, kind_is}
use Rattle.c960_board.proofs.position.Position.pieces.Goals as goal

pub returns : goal.returns
returns c =
    let p = c.args.self.now in
    let s = c.self.inside.sets in
    let k = c.args.piece.kind in
    let side = c.args.piece.colour in
    let o = opened _ p s c.self.invariant.0 c.self.invariant.1 c.self.view_is in
    let set = set_and (is_of side) (is_kind k) (holds side k) p.placement c.colour.result c.kind.result o.0 (holds_both side k)
    (c.colour.ensures ∙ ap (colour_set side) o.1 ∙ colour_is side p.placement)
    (c.kind.ensures ∙ ap (kind_set k) o.1 ∙ kind_is k p.placement) in
    record { set = set; bits = λ i l. bit_says (holds side k) (λ (x : Cell). x ≡ Some c.args.piece) p.placement _ i o.0 set (man_says side k) l }
