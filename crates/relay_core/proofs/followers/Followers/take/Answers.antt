use Rattle.std.proofs.Common.{◌≡◌, ◌∙◌, sym, ap, subst, cond, is_some, nat_eq, option_map, Option, None, Some, rules}
use Rattle.std.specs.Map.{lookup, set_value}
use Rattle.std.specs.Option.{IfSome}
use Rattle.relay_core.specs.Held.{HeldFollower}
use Rattle.relay_core.specs.Held.Followers.{HasPlaces, popped}
use Rattle.relay_core.specs.Inner.Maps.{HeldFollowers}
use Rattle.relay_core.specs.Held.Order.{in_order}
use Rattle.relay_core.proofs.BoardKept.{board_kept}
use Rattle.relay_core.proofs.lemmas.Orders.{nobody_else, one_written, reads, written}
use Rattle.relay_core.proofs.Seatings.{seat_written}
use Rattle.relay_core.proofs.followers.Followers.take.Goals.{After-from_residual, In_ok-follower}
use Rattle.relay_core.proofs.followers.Followers.take.Goals as goal

nobody : (c : After-from_residual) → lookup (nat_eq c.args.who) (in_order c.self.inside.order.spectators c.self.inside.seats.entries) ≡ None
nobody c =
    let missing : lookup (nat_eq c.args.who) c.self.inside.seats.entries ≡ None = search rules in
    reads c.self.inside.order.spectators c.self.inside.seats.entries c.self.invariant.ordered c.args.who ∙ missing

pub returns-in_err-follower-clause-answer : goal.returns-in_err-follower-clause-answer
returns-in_err-follower-clause-answer c = rw (← c.self.view_is, nobody c) c.from_residual.ensures

pub returns-in_err-follower-clause-updates : goal.returns-in_err-follower-clause-updates
returns-in_err-follower-clause-updates c q =
    let same : c.get_mut.follows.lender-at-none.entries ≡ c.self.inside.seats.entries = search rules in
    rw (← c.self.view_is, same)
    (nobody_else (in_order c.self.inside.order.spectators c.self.inside.seats.entries) c.args.who q _ (nobody c ∙ sym (ap (option_map popped) (nobody c))))

-- the follower was found
found : (c : In_ok-follower) → lookup (nat_eq c.args.who) c.self.inside.seats.entries ≡ Some c.in_ok-follower.follower.now
found c = search rules

shown_there : (c : In_ok-follower) → lookup (nat_eq c.args.who) c.args.self.now.entries ≡ Some c.in_ok-follower.follower.now
shown_there c =
    ap (λ (f : HeldFollowers). lookup (nat_eq c.args.who) f.entries) (sym c.self.view_is)
    ∙ reads c.self.inside.order.spectators c.self.inside.seats.entries c.self.invariant.ordered c.args.who ∙ found c

pub take-requires : goal.take-requires
take-requires c = subst (λ (o : Option HeldFollower). IfSome o HasPlaces) (shown_there c) c.requires

pub invariant_of-self-2 : goal.invariant_of-self-2
invariant_of-self-2 c =
    let f = c.in_ok-follower.follower.now in
    let is : (c.get_mut.follows.lender c.take.new.self).entries ≡ set_value (nat_eq c.args.who) c.self.inside.seats.entries c.take.new.self = search rules in
    seat_written c.self.inside.order.spectators c.self.inside.tags.items c.self.inside.seats.entries
    (c.get_mut.follows.lender c.take.new.self).entries c.args.who f c.take.new.self c.self.invariant
    (found (goal.at.invariant_of-self-2 c).In_ok-follower) is (ap (λ (g : HeldFollower). g.board) c.take.ensures.after ∙ board_kept f.queue f)

pub returns-clause-answer : goal.returns-clause-answer
returns-clause-answer c = rw (shown_there (goal.at.returns-clause-answer c).In_ok-follower) (ap Some c.take.ensures.answer)

pub returns-clause-updates : goal.returns-clause-updates
returns-clause-updates c q =
    let i = (goal.at.returns-clause-updates c).In_ok-follower in
    let order = c.self.inside.order.spectators in
    let es = c.self.inside.seats.entries in
    let fs = (c.get_mut.follows.lender c.take.new.self).entries in
    let is : fs ≡ set_value (nat_eq c.args.who) es c.take.new.self = search rules in
    let after : Some c.take.new.self ≡ option_map popped (lookup (nat_eq c.args.who) c.args.self.now.entries) =
    ap Some c.take.ensures.after ∙ sym (ap (option_map popped) (shown_there i)) in
    let known : lookup (nat_eq q) es ≡ lookup (nat_eq q) c.args.self.now.entries =
    sym (reads order es c.self.invariant.ordered q) ∙ ap (λ (f : HeldFollowers). lookup (nat_eq q) f.entries) c.self.view_is in
    reads order fs (one_written order es fs c.self.invariant.ordered c.args.who c.take.new.self is) q
    ∙ ((c.get_mut.follows.holds c.take.new.self).3 (ap is_some (found i))).0 q
    ∙ ap (λ o. cond (nat_eq c.args.who q) o (lookup (nat_eq q) es)) after
    ∙ ap (cond (nat_eq c.args.who q) (option_map popped (lookup (nat_eq c.args.who) c.args.self.now.entries))) known

pub returns-clause-boards : goal.returns-clause-boards
returns-clause-boards c =
    let there = found (goal.at.returns-clause-boards c).In_ok-follower in
    let is : (c.get_mut.follows.lender c.take.new.self).entries ≡ set_value (nat_eq c.args.who) c.self.inside.seats.entries c.take.new.self = search rules in
    rw (← c.self.view_is, is)
    (written (λ f. f.board) c.self.inside.order.spectators c.self.inside.seats.entries c.args.who c.in_ok-follower.follower.now
    c.take.new.self there (ap (λ (f : HeldFollower). f.board) c.take.ensures.after ∙ board_kept c.in_ok-follower.follower.now.queue c.in_ok-follower.follower.now))
