use Rattle.std.proofs.Common.{◌≡◌, true, false, not, sym, ◌∙◌, ap}
use Rattle.c960_board.specs.declared.piece.Colour.{Colour}
use Rattle.c960_board.specs.declared.piece.Kind.TheVariants.{Pawn}
use Rattle.c960_board.specs.Pieces.{is_of}
use Rattle.c960_board.specs.Cells.{cell_at}
use Rattle.c960_rules.specs.Inner.Listing.{pawn_goes, goes_to}
use Rattle.c960_rules.specs.Inner.Wheres.{where_set}
use Rattle.c960_rules.proofs.GoalFacts.{own_test, holds_test, goes_none, pawns_go}
use Rattle.c960_rules.proofs.lemmas.PieceFacts.{piece_on, holds_is}
use Rattle.c960_rules.proofs.WayCandidates.{side_of}
use Rattle.c960_rules.proofs.WhereFacts.{where_and, where_not, where_nothing}
use Rattle.c960_rules.proofs.goals.goals.Goals as goal

pub returns-then-not-is_occupied_by : goal.returns-then-not-is_occupied_by
returns-then-not-is_occupied_by c =
    let p = c.args.position.now in
    let s = c.args.from in
    let none =
    sym (own_test c.is_occupied_by.result c.turn-turn.result p.turn (piece_on p s) c.is_occupied_by.ensures c.turn-turn.ensures)
    ∙ c.if-not-is_occupied_by.true in
    sym (where_nothing (λ t. goes_to p s t) (λ t l. goes_none p s t none))

pub returns-in_default : goal.returns-in_default
returns-in_default c =
    let own : is_of c.turn-turn.result (piece_on c.args.position.now c.args.from) ≡ true = sym c.is_occupied_by.ensures ∙ c.if-not-is_occupied_by.false in
    let none = sym c.piece_at.ensures ∙ c.in_default.is in
    let bad : false ≡ true = rw none at own in
    absurd cc

pub pawn_goals-requires : goal.pawn_goals-requires
pawn_goals-requires c =
    let p = c.args.position.now in
    let s = c.args.from in
    let pawn = sym (holds_test Pawn c.stands.result c.turn-turn.result p.turn (piece_on p s) c.stands.ensures c.turn-turn.ensures) ∙ c.if-stands.true in
    holds_is p.turn Pawn (piece_on p s) pawn

pub returns-then-stands : goal.returns-then-stands
returns-then-stands c =
    let p = c.args.position.now in
    let s = c.args.from in
    let turn = c.turn-turn.ensures in
    let pawn = sym (holds_test Pawn c.stands.result c.turn-turn.result p.turn (piece_on p s) c.stands.ensures turn) ∙ c.if-stands.true in
    let side = c.squares_of.ensures ∙ ap (λ (d : Colour). where_set (λ u. is_of d (cell_at p.placement u))) turn in
    pawns_go p s _ (holds_is p.turn Pawn (piece_on p s) pawn)
    (where_and (λ t. pawn_goes p s t) (λ u. not (is_of p.turn (cell_at p.placement u))) c.pawn_goals.result _ c.pawn_goals.ensures
    (where_not (λ u. is_of p.turn (cell_at p.placement u)) c.squares_of.result side))

pub officer_goals-requires-clause-there : goal.officer_goals-requires-clause-there
officer_goals-requires-clause-there c = sym c.piece_at.ensures ∙ c.in-Some.is

pub officer_goals-requires-clause-own : goal.officer_goals-requires-clause-own
officer_goals-requires-clause-own c =
    side_of c.in-Some.piece c.turn-turn.result c.args.position.now.turn (piece_on c.args.position.now c.args.from)
    (sym c.is_occupied_by.ensures ∙ c.if-not-is_occupied_by.false) (sym c.piece_at.ensures ∙ c.in-Some.is) c.turn-turn.ensures

pub officer_goals-requires-clause-officer : goal.officer_goals-requires-clause-officer
officer_goals-requires-clause-officer c =
    let p = c.args.position.now in
    sym (holds_test Pawn c.stands.result c.turn-turn.result p.turn (piece_on p c.args.from) c.stands.ensures c.turn-turn.ensures) ∙ c.if-stands.false
