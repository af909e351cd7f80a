use Rattle.std.proofs.Common.{arith, length, ap, length-append}
use Rattle.c960_board.specs.declared.piece.Colour.TheVariants.{White}
use Rattle.c960_board.specs.Fen.Canonical.{side_text, rights_text}
use Rattle.c960_board.proofs.Written.Steps.{dash_written, rights_written, sides_length, rights_length_some}
use Rattle.c960_board.proofs.fen.writer.write_rights.Goals as goal

pub write_side-requires-2 : goal.write_side-requires-2
write_side-requires-2 c =
    let white = ap length c.write_side.ensures in
    omega (arith, length-append c.args.text.now.items (side_text c.args.rights.now White 8), sides_length c.args.rights.now)

pub push-requires : goal.push-requires
push-requires c = (omega arith, omega (arith, rights_length_some c.args.rights.now))

pub returns-then-len-before-clause-text : goal.returns-then-len-before-clause-text
returns-then-len-before-clause-text c =
    dash_written _ _ _ _ _ c.write_side.ensures c.write_side-2.ensures (omega arith) c.push.ensures.items

pub returns-else-len-before-clause-text : goal.returns-else-len-before-clause-text
returns-else-len-before-clause-text c = rights_written _ _ _ _ c.write_side.ensures c.write_side-2.ensures (omega arith)

pub returns-then-len-before-clause-len : goal.returns-then-len-before-clause-len
returns-then-len-before-clause-len c =
    let all = ap length (dash_written _ _ _ _ _ c.write_side.ensures c.write_side-2.ensures (omega arith) c.push.ensures.items) in
    omega (arith, length-append c.args.text.now.items (rights_text c.args.rights.now))

pub returns-else-len-before-clause-len : goal.returns-else-len-before-clause-len
returns-else-len-before-clause-len c =
    let all = ap length (rights_written _ _ _ _ c.write_side.ensures c.write_side-2.ensures (omega arith)) in
    omega (arith, length-append c.args.text.now.items (rights_text c.args.rights.now))
