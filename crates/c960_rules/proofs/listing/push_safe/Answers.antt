use Rattle.std.proofs.Common.{◌∙◌}
use Rattle.std.proofs.lemmas.Bool.{both_ways}
use Rattle.c960_rules.specs.Inner.Listing.{triple}
use Rattle.c960_rules.proofs.ListFacts.{after_legal, after_illegal}
use Rattle.c960_rules.proofs.listing.push_safe.Goals as goal

pub returns-else-is_legal_unless_pinned : goal.returns-else-is_legal_unless_pinned
returns-else-is_legal_unless_pinned c =
    let m = triple c.args.from c.args.to c.args.promotion in
    after_illegal c.args.moves.now.items c.args.position.now m c.code.ensures.valid
    (λ h. both_ways c.is_legal_unless_pinned.result c.if-is_legal_unless_pinned.false (c.is_legal_unless_pinned.ensures.1 h))

pub returns-in_ok-push : goal.returns-in_ok-push
returns-in_ok-push c =
    let m = triple c.args.from c.args.to c.args.promotion in
    c.in_ok-push.ensures.items
    ∙ after_legal c.args.moves.now.items c.args.position.now m (c.is_legal_unless_pinned.ensures.0 c.if-is_legal_unless_pinned.true)
