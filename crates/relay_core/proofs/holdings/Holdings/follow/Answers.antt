use Rattle.std.proofs.Common.{◌≡◌, nat_le, refl, sym, ap, ◌∙◌, unwrap_or, Some, rules}
use Rattle.std.specs.Map.{lookup}
use Rattle.relay_core.specs.declared.step.Step.TheVariants.{Follow}
use Rattle.relay_core.specs.declared.reply.Reply.TheVariants.{Following}
use Rattle.relay_core.specs.Inner.HoldingsFields.{held_of}
use Rattle.relay_core.specs.BoardAnswers.{place_in}
use Rattle.relay_core.specs.Held.{turned}
use Rattle.relay_core.specs.Held.Stands.{Goes}
use Rattle.relay_core.specs.Name.{same_name}
use Rattle.relay_core.specs.Refusals.{first_refusal, follow_grounds}
use Rattle.relay_core.proofs.lemmas.Followed.{follow_goes, follow_no_memory, follow_refused, grounds}
use Rattle.relay_core.proofs.lemmas.Standing.{keeps, shown_is, stands, stays}
use Rattle.relay_core.proofs.holdings.Holdings.follow.Goals.{After-may_follow, In-Ok}
use Rattle.relay_core.proofs.holdings.Holdings.follow.Goals as goal

-- the board's game was found
found : (c : After-may_follow) → lookup (same_name c.args.board) (held_of c.self.inside).boards ≡ Some c.in-Some.game.now
found c = search rules

-- the place at which the follower would join
place : (c : After-may_follow) → c.unwrap_or-joined.result ≡ place_in c.args.from c.in-Some.game.now
place c = c.unwrap_or-joined.ensures ∙ ap (unwrap_or c.args.from) c.len.ensures

-- the answer is by the grounds that the record shows
told : (c : After-may_follow) → c.may_follow.result ≡ first_refusal (grounds (held_of c.self.inside) c.args.who c.args.board c.args.from c.in-Some.game.now (found c))
told c =
    c.may_follow.ensures
    ∙ (λ i. first_refusal (follow_grounds (c.contains-follows.ensures i) (c.len-2.ensures i) (place c i) (c.capacity-capacity.ensures.value i)
    (nat_le ((c.from.ensures ∙ c.followers.ensures.value) i) (c.count.ensures i))))

-- what the follower's joining does
joined : (c : In-Ok) → Goes (held_of c.self.inside) (turned (held_of c.self.inside) (held_of c.self.inside).boards c.admit.new.self.entries)
    (Follow c.args.who c.args.board c.args.from) (Following c.unwrap_or-joined.result c.in-Some-position_at.position)
joined c =
    let m = c.before.before.before.before.before.before in
    follow_goes (held_of c.self.inside) c.args.who c.args.board c.args.from c.in-Some.game.now (found m) c.in_default-may_follow.field-0
    (sym c.in_default-may_follow.is ∙ told m) c.admit.new.self.entries c.unwrap_or-joined.result c.in-Some-position_at.position (place m)
    (sym c.in-Some-position_at.is ∙ c.position_at.ensures) (search rules)

pub returns-in-Err-clause-stands : goal.returns-in-Err-clause-stands
returns-in-Err-clause-stands c =
    let m = (goal.at.returns-in-Err-clause-stands c).After-may_follow in
    stays (held_of c.self.inside) _ _ c.self.invariant.0 _ (shown_is c.self.view_is)
    (follow_refused (held_of c.self.inside) c.args.who c.args.board c.args.from c.in-Some.game.now (found m) c.in-Err.refusal (sym c.in-Err.is ∙ told m))

pub returns-in_default-admit-clause-stands : goal.returns-in_default-admit-clause-stands
returns-in_default-admit-clause-stands c =
    let m = (goal.at.returns-in_default-admit-clause-stands c).After-may_follow in
    stands (held_of c.self.inside) _ _ _ c.self.invariant.0 _ (shown_is c.self.view_is)
    (follow_no_memory (held_of c.self.inside) c.args.who c.args.board c.args.from c.in-Some.game.now (found m) c.in_default-may_follow.field-0
    (sym c.in_default-may_follow.is ∙ told m) c.admit.new.self.entries (search rules))

pub invariant_of-self-2 : goal.invariant_of-self-2
invariant_of-self-2 c =
    (keeps (held_of c.self.inside) _ _ _ c.self.invariant.0 refl (joined (goal.at.invariant_of-self-2 c).In-Ok), c.self.invariant.1)

pub returns-clause-stands : goal.returns-clause-stands
returns-clause-stands c =
    stands (held_of c.self.inside) _ _ _ c.self.invariant.0 _ (shown_is c.self.view_is) (joined (goal.at.returns-clause-stands c).In-Ok)
