use Rattle.std.proofs.Common.{ℕ, Option, sym, ◌∙◌, ap, arith}
use Rattle.c960_board.specs.declared.piece.Kind.TheVariants.{King}
use Rattle.c960_rules.specs.Reaches.{is_target}
use Rattle.c960_rules.specs.Inner.Wheres.{where_set}
use Rattle.c960_rules.proofs.EvasionFacts.{no_candidate}
use Rattle.c960_rules.proofs.GoalFacts.{holds_test, none_goes}
use Rattle.c960_rules.proofs.lemmas.PieceFacts.{piece_on}
use Rattle.c960_rules.proofs.WayCandidates.{none_between}
use Rattle.c960_rules.proofs.listing.candidates.Goals as goal

pub returns-then-stands : goal.returns-then-stands
returns-then-stands c =
    let p = c.args.position.now in
    λ t l e. none_between p c.args.from t
    (none_goes p c.args.from t c.args.goals c.rooks_to_castle.result c.requires.goals (omega arith) (λ k. c.rooks_to_castle.ensures t k l) l e)

pub returns : goal.returns
returns c =
    let p = c.args.position.now in
    let s = c.args.from in
    let no_king =
    sym (holds_test King c.stands.result c.turn.result p.turn (piece_on p s) c.stands.ensures c.turn.ensures) ∙ c.if-stands.false in
    let target = c.target_set.ensures ∙ ap (λ (o : Option ℕ). where_set (λ t. is_target o t)) c.target.ensures in
    λ t l e. no_candidate p s t c.args.goals c.args.evasions c.target_set.result c.requires.evasions c.ranges.evasions.fits (omega arith) l
    no_king c.requires.goals target e
