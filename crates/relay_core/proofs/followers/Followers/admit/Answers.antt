use Rattle.std.proofs.Common.{◌≡◌, ◌∙◌, sym, ap, nat_eq, None, [], ◌∷◌, ◌++◌}
use Rattle.std.specs.Map.{lookup}
use Rattle.indexmap.proofs.CallerLemmas.{insert_entry-new}
use Rattle.relay_core.specs.Held.{HeldFollower}
use Rattle.relay_core.specs.Held.Order.{in_order}
use Rattle.relay_core.specs.Inner.Seating.{tags_of}
use Rattle.relay_core.proofs.lemmas.Orders.{is_out, one_more, pushed, reads}
use Rattle.relay_core.proofs.Seatings.{joined_tags}
use Rattle.relay_core.proofs.followers.Followers.admit.Goals as goal

pub invariant_of-self-2 : goal.invariant_of-self-2
invariant_of-self-2 c =
    let out = is_out c.self.inside.order.spectators c.self.inside.seats.entries c.self.invariant.ordered c.args.who (rw (← c.self.view_is) at c.requires.new) in
    let none : lookup (nat_eq c.args.who) c.self.inside.seats.entries ≡ None =
    sym (reads c.self.inside.order.spectators c.self.inside.seats.entries c.self.invariant.ordered c.args.who) ∙ (rw (← c.self.view_is) at c.requires.new) in
    record {
      ordered = rw (c.joined-self-inside.ensures)
          (one_more c.self.inside.order.spectators c.self.inside.seats.entries c.insert.new.self.entries c.self.invariant.ordered c.args.who
          c.in_ok-follower.follower out c.in_ok-insert.ensures.updates.0);
      tagged = c.push_reserved.ensures.items
          ∙ ap (λ ts. ts ++ c.tag-tag.result ∷ []) c.reserve.ensures.items
          ∙ ap (λ t. c.self.inside.tags.items ++ t ∷ []) c.tag-tag.ensures
          ∙ joined_tags c.self.inside.tags.items c.self.inside.seats.entries c.args.who c.in_ok-follower.follower c.self.invariant.tagged
          ∙ ap tags_of (sym (c.in_ok-insert.ensures.entries ∙ insert_entry-new nat_eq c.self.inside.seats c.args.who c.in_ok-follower.follower none));
    }

pub returns-clause-ok : goal.returns-clause-ok
returns-clause-ok c =
    let out = is_out c.self.inside.order.spectators c.self.inside.seats.entries c.self.invariant.ordered c.args.who (rw (← c.self.view_is) at c.requires.new) in
    rw (← c.self.view_is, c.joined-self-inside.ensures)
    (pushed c.self.inside.order.spectators c.self.inside.seats.entries c.insert.new.self.entries c.args.who
    c.in_ok-follower.follower out c.in_ok-insert.ensures.updates.0
    ∙ ap (λ (f : HeldFollower). in_order c.self.inside.order.spectators c.self.inside.seats.entries ++ (c.args.who, f) ∷ []) c.in_ok-follower.ensures)
