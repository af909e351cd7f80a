use Rattle.std.proofs.Common.{◌≡◌, ◌∙◌, true, ap, sym}
use Rattle.std.proofs.lemmas.Bool.{eq-eqb}
use Rattle.std.specs.Int.{bit_at}
use Rattle.c960_board.specs.declared.piece.Colour.{Colour}
use Rattle.c960_board.specs.declared.piece.Kind.TheVariants.{King}
use Rattle.c960_board.specs.Pieces.{man, other}
use Rattle.c960_rules.specs.Inner.Wheres.{where_set, is_attacker_on}
use Rattle.c960_rules.proofs.WhereFacts.{in_where, occupied_where}
use Rattle.c960_rules.proofs.EvasionFacts.{evasions_are, evasions_all}
use Rattle.c960_rules.proofs.pins.evasions.Goals as goal

pub returns-then-unpinned-ne0 : goal.returns-then-unpinned-ne0
returns-then-unpinned-ne0 c = evasions_all c.args.position.now

pub returns-then-squares_of-alone : goal.returns-then-squares_of-alone
returns-then-squares_of-alone c = evasions_all c.args.position.now

pub returns-then-checkers-eq0 : goal.returns-then-checkers-eq0
returns-then-checkers-eq0 c = evasions_all c.args.position.now

pub returns : goal.returns
returns c =
    let p = c.args.position.now in
    let king = c.king_of-king.result in
    let occupied = c.occupied.result in
    let checkers = c.attackers_over-checkers.result in
    let checker = c.lowest-checker.result in
    let valid = c.sets-sets.ensures.valid in
    let turn = c.turn-turn.ensures in
    let by = c.other.ensures ∙ ap other turn in
    let are = c.attackers_over-checkers.ensures ∙ ap (λ (d : Colour). where_set (λ s. is_attacker_on p.placement occupied d s king)) by in
    let hit : is_attacker_on p.placement occupied (other p.turn) checker king ≡ true =
    sym (in_where (λ s. is_attacker_on p.placement occupied (other p.turn) s king) checkers checker are c.lowest-checker.ensures.bound)
    ∙ eq-eqb (bit_at checkers checker) 1 c.lowest-checker.ensures.lowest.inside in
    evasions_are p king occupied checker c.only.result c.squares_between.result valid c.king_of-king.ensures.bound
    (c.king_of-king.ensures.stands ∙ ap (λ (d : Colour). man d King) turn) c.lowest-checker.ensures.bound
    (occupied_where p valid c.occupied.ensures.set) hit c.only.ensures c.squares_between.ensures
