use Rattle.std.proofs.Common.{◌≡◌, ℕ, Bool, true, false, ap, sym, not, ◌∙◌, ◌&&◌, arith}
use Rattle.std.specs.Prelude.{◌==◌}
use Rattle.c960_board.specs.declared.piece.Colour.{Colour}
use Rattle.c960_board.specs.Sets.{is_occupied, is_in}
use Rattle.c960_board.specs.Squares.{rank_of, ahead}
use Rattle.c960_rules.specs.Reaches.{pawn_rank}
use Rattle.c960_rules.specs.Tests.Reaches.{steps_twice}
use Rattle.c960_rules.proofs.GoalFacts.{pawn_in, first_ahead, twice_elsewhere, twice_barred, twice_is, only_free}
use Rattle.c960_rules.proofs.lemmas.PieceFacts.{piece_on}
use Rattle.c960_rules.proofs.WhereFacts.{in_where, where_agree, where_nothing, occupied_where}
use Rattle.c960_rules.proofs.goals.double_step.Goals.{After-ahead-passed}
use Rattle.c960_rules.proofs.goals.double_step.Goals as goal

-- the pawn is on its first rank
first : (c : After-ahead-passed) → (rank_of c.args.from == pawn_rank c.args.position.now.turn) ≡ true
first c =
    ap (λ (d : Colour). rank_of c.args.from == pawn_rank d) (sym c.turn-turn.ensures) ∙ sym c.is_on_pawn_rank-is_first.ensures
    ∙ c.if-not-is_first.false

-- the square in front of it
passed : (c : After-ahead-passed) → c.ahead-passed.result ≡ ahead c.args.position.now.turn c.args.from
passed c = c.ahead-passed.ensures ∙ ap (λ (d : Colour). ahead d c.args.from) c.turn-turn.ensures

-- whether there is a piece there
barred : (c : After-ahead-passed) → (b : Bool) → is_in c.occupied-occupied.result c.ahead-passed.result ≡ b
    → is_occupied (piece_on c.args.position.now (ahead c.args.position.now.turn c.args.from)) ≡ b
barred c b h =
    let p = c.args.position.now in
    let s = c.args.from in
    let next = first_ahead p.turn s (first c) in
    sym (in_where (λ t. is_occupied (piece_on p t)) c.occupied-occupied.result (ahead p.turn s)
    (occupied_where p c.sets-sets.ensures.valid c.occupied-occupied.ensures.set) (let l = next.high in omega arith))
    ∙ ap (λ (k : ℕ). is_in c.occupied-occupied.result k) (sym (passed c)) ∙ h

pub returns-then-not-is_first : goal.returns-then-not-is_first
returns-then-not-is_first c =
    let p = c.args.position.now in
    let s = c.args.from in
    let none =
    ap (λ (d : Colour). rank_of s == pawn_rank d) (sym c.turn-turn.ensures) ∙ sym c.is_on_pawn_rank-is_first.ensures ∙ c.if-not-is_first.true in
    sym (where_nothing (λ t. steps_twice p.placement p.turn s t) (λ t l. twice_elsewhere p s t none))

pub ahead-passed-requires : goal.ahead-passed-requires
ahead-passed-requires c =
    let inner = pawn_in c.args.position.now c.args.from c.sets-sets.ensures.valid (omega arith) c.requires in
    record { low = inner.low; high = inner.high }

pub returns-then-is_barred : goal.returns-then-is_barred
returns-then-is_barred c =
    let p = c.args.position.now in
    let s = c.args.from in
    let there = barred (goal.at.returns-then-is_barred c).After-ahead-passed true (sym c.is_in-is_barred.ensures ∙ c.if-is_barred.true) in
    sym (where_nothing (λ t. steps_twice p.placement p.turn s t) (λ t l. twice_barred p s t there))

pub ahead-goal-requires : goal.ahead-goal-requires
ahead-goal-requires c =
    let w = (goal.at.ahead-goal-requires c).After-ahead-passed in
    let next = first_ahead c.args.position.now.turn c.args.from (first w) in
    let at : c.ahead-passed.result ≡ ahead c.args.position.now.turn c.args.from = passed w in
    record { low = rw at next.low; high = rw at next.high }

pub returns : goal.returns
returns c =
    let p = c.args.position.now in
    let s = c.args.from in
    let w = (goal.at.returns c).After-ahead-passed in
    let there = barred w false (sym c.is_in-is_barred.ensures ∙ c.if-is_barred.false) in
    let goal_at =
    c.ahead-goal.ensures ∙ ap (λ (d : Colour). ahead d c.ahead-passed.result) c.turn-turn.ensures ∙ ap (ahead p.turn) (passed w) in
    only_free p (ahead p.turn (ahead p.turn s)) c.sets-sets.ensures.valid goal_at c.only.ensures c.occupied-occupied.ensures.set
    ∙ where_agree (λ t. (t == ahead p.turn (ahead p.turn s)) && not (is_occupied (piece_on p t))) (λ t. steps_twice p.placement p.turn s t)
    (λ t l. sym (twice_is p s t (first w) there))
