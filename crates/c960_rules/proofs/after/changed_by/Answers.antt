use Rattle.std.proofs.Common.{ap}
use Rattle.std.specs.Prelude.{◌==◌}
use Rattle.c960_board.specs.Moves.{Triple}
use Rattle.c960_rules.specs.Inner.Safety.{is_gone, is_passed_on}
use Rattle.c960_rules.proofs.WhereFacts.{where_or, only_at}
use Rattle.c960_rules.proofs.after.changed_by.Goals as goal

pub returns : goal.returns
returns c =
    let p = c.args.position.now in
    let m = c.args.m.now in
    let from = ap (λ (t : Triple). t.from) c.m.view_is in
    let to = ap (λ (t : Triple). t.to) c.m.view_is in
    let gone =
    where_or (λ u. u == m.to) (λ u. is_passed_on p m u) c.only-2.result c.captured_pawn.result
    (only_at to c.only-2.ensures) c.captured_pawn.ensures in
    where_or (λ u. u == m.from) (λ u. is_gone p m u) c.only.result _
    (only_at from c.only.ensures) gone
