use Rattle.std.proofs.Common.{◌≢◌, None, ap}
use Rattle.c960_board.specs.declared.piece.Colour.TheVariants.{White, Black}
use Rattle.c960_board.specs.declared.sets.Sets.{Sets}
use Rattle.c960_board.specs.Pieces.{Cell, is_of}
use Rattle.c960_board.specs.Sets.{is_occupied}
use Rattle.c960_board.proofs.lemmas.SetFacts.{opened, set_or, occupied_either, occupied_says, bit_says}
use Rattle.c960_board.proofs.position.Position.occupied.Goals as goal

pub returns : goal.returns
returns c =
    let p = c.args.self.now in
    let s = c.self.inside.sets in
    let o = opened _ p s c.self.invariant.0 c.self.invariant.1 c.self.view_is in
    let set = set_or (is_of White) (is_of Black) is_occupied p.placement s.white s.black o.0 occupied_either
    (ap (λ (x : Sets). x.white) o.1) (ap (λ (x : Sets). x.black) o.1) in
    record { set = set; bits = λ i l. bit_says is_occupied (λ (x : Cell). x ≢ None) p.placement _ i o.0 set occupied_says l }
