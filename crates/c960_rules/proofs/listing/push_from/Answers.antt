use Rattle.std.proofs.Common.{◌≡◌, ◌++◌, ◌∙◌, IfOk, List, sym, subst, arith}
use Rattle.std.proofs.lemmas.Bool.{and_parts}
use Rattle.c960_board.specs.Moves.{Triple}
use Rattle.c960_board.specs.Sets.{is_in}
use Rattle.c960_rules.specs.Inner.Listing.{are_plain}
use Rattle.c960_rules.proofs.PinFacts.{plain_moves}
use Rattle.c960_rules.proofs.listing.push_from.Goals as goal

pub returns-then-is_plain : goal.returns-then-is_plain
returns-then-is_plain c =
    let p = c.args.position.now in
    let goals = c.goals-goals.result in
    let both = and_parts (is_in c.args.unpinned c.args.from) (are_plain p c.args.from goals) (sym c.is_plain.ensures ∙ c.if-is_plain.true) in
    let all = plain_moves p c.args.from goals c.args.unpinned c.requires.unpinned (omega arith) both.0 both.1 c.goals-goals.ensures in
    subst (λ (l : List Triple). IfOk c.push_all.result (λ _. c.push_all.new.moves.items ≡ c.args.moves.now.items ++ l)) all c.push_all.ensures
