use Rattle.std.proofs.Common.{◌∙◌, None}
use Rattle.std.proofs.lemmas.Bool.{both_ways}
use Rattle.c960_rules.specs.Inner.Listing.{triple}
use Rattle.c960_rules.proofs.GoalFacts.{off_goals, between_off}
use Rattle.c960_rules.proofs.ListFacts.{after_legal, after_illegal}
use Rattle.c960_rules.proofs.listing.push_castling.Goals as goal

pub returns-else-is_legal_castling : goal.returns-else-is_legal_castling
returns-else-is_legal_castling c =
    let m = triple c.args.from c.args.to None in
    rw (between_off c.args.position.now c.args.from c.args.to c.requires)
    (after_illegal c.args.moves.now.items c.args.position.now m c.code.ensures.valid
    (λ h. both_ways c.is_legal_castling.result c.if-is_legal_castling.false (c.is_legal_castling.ensures.1 h)))

pub returns-in_ok-push : goal.returns-in_ok-push
returns-in_ok-push c =
    let m = triple c.args.from c.args.to None in
    let legal = c.is_legal_castling.ensures.0 c.if-is_legal_castling.true in
    rw (between_off c.args.position.now c.args.from c.args.to c.requires)
    (c.in_ok-push.ensures.items ∙ after_legal c.args.moves.now.items c.args.position.now m legal)

pub is_legal_castling-requires : goal.is_legal_castling-requires
is_legal_castling-requires c = off_goals c.args.position.now c.args.from c.args.to None c.requires
