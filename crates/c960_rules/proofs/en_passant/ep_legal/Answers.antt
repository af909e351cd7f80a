use Rattle.std.proofs.Common.{ℕ, ◌<◌, ◌≡◌, true, Some, None, ap, sym, subst, ◌∙◌}
use Rattle.std.proofs.lemmas.Bool.{both_ways}
use Rattle.c960_board.specs.declared.parts.Parts.{Parts}
use Rattle.c960_rules.specs.Legal.{LegalEnPassant}
use Rattle.c960_rules.specs.Inner.Wheres.{is_taker}
use Rattle.c960_rules.proofs.EnPassantFacts.{capture, has_target, no_target, legal_taker}
use Rattle.c960_rules.proofs.SetLoops.{searched_more, searched_all}
use Rattle.c960_rules.proofs.WhereFacts.{in_where}
use Rattle.c960_rules.proofs.en_passant.ep_legal.Goals as goal

pub returns-in_default-clause-some : goal.returns-in_default-clause-some
returns-in_default-clause-some c =
    let p = c.args.lawful.now in
    let same = ap (λ (x : Parts). x.target) c.position-position.ensures.value in
    let none : p.target ≡ None = cc in
    ((λ e. cc), (λ h. absurd (has_target p none h)))

pub loop-left-init : goal.loop-left-init
loop-left-init c =
    let p = c.args.lawful.now in
    let q = c.position-position.result in
    let t = c.in-Some.target in
    λ s l e w.
    let same = c.position-position.ensures.value in
    both_ways (is_taker q s t) (sym (in_where (λ u. is_taker q u t) c.takers-left.result s c.takers-left.ensures l) ∙ e)
    (subst (λ (x : Parts). is_taker x s t ≡ true) (sym same) (legal_taker p s t c.position-position.ensures.valid w))

pub loop-left-preserved : goal.loop-left-preserved
loop-left-preserved c =
    let p = c.args.lawful.now in
    let t = c.in-Some.target in
    let k = c.lowest-from.result in
    searched_more (λ (s : ℕ). LegalEnPassant p (capture s t)) c.loop-left.left k c.without_lowest-left.result (c.without_lowest-left.ensures.taken_out _ c.lowest-from.ensures.lowest) c.loop-left.invariant
    (λ h. both_ways c.takes.result c.if-takes.false (c.takes.ensures.1 h))

pub returns-clause-some : goal.returns-clause-some
returns-clause-some c =
    let p = c.args.lawful.now in
    let same = ap (λ (x : Parts). x.target) c.position-position.ensures.value in
    let there : p.target ≡ Some c.in-Some.target = cc in
    let none : (s : ℕ) → s < 64 → LegalEnPassant p (capture s c.in-Some.target) → ⊥ =
    λ s l. c.loop-left.invariant s l (searched_all c.loop-left.left s c.loop-left-test.false) in
    ((λ e. cc), (λ h. absurd (no_target p c.in-Some.target c.position-position.ensures.valid there none h)))
