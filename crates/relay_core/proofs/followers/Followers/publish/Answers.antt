use Rattle.std.proofs.Common.{◌≡◌, ℕ, ◌+◌, suc, length, ap, refl, sym, ◌∙◌, arith}
use Rattle.std.specs.Vec.{vec_len}
use Rattle.indexmap.proofs.CallerLemmas.{keys-with_value_at}
use Rattle.indexmap.specs.Layout.{length-set_value_at}
use Rattle.relay_core.specs.Held.{HeldFollower}
use Rattle.relay_core.specs.Held.Followers.{offered, published}
use Rattle.relay_core.specs.Inner.Tag.{tag_of}
use Rattle.relay_core.proofs.lemmas.Orders.{keys_kept, shown-in_order}
use Rattle.relay_core.proofs.Seatings.{as_many, offered_board, others_as_they_are, tags_at}
use Rattle.relay_core.proofs.TagRows.{passes_as, search_as}
use Rattle.relay_core.proofs.lemmas.Lists.{done_all, done_one_more, done_up_to}
use Rattle.relay_core.proofs.followers.Followers.publish.Goals.{After-loop-i, After-next-i-in-loop-i}
use Rattle.relay_core.proofs.followers.Followers.publish.Goals as goal

next : (i : ℕ) → suc i ≡ i + 1
next i = omega arith

pub loop-i-init : goal.loop-i-init
loop-i-init c = record {
  inside = omega (arith, c.next-i.ensures.bound, ap length c.deref.ensures.value);
  search = search_as c.deref.result.now c.self.inside.tags.items c.tag.result (tag_of c.args.board) c.next-i.new.self c.deref.ensures.value
      (c.tag.ensures ∙ ap tag_of c.new-tagged.ensures) c.next-i.ensures.search;
  on = λ inside. c.next-i.ensures.on (omega (arith, inside, ap length c.deref.ensures.value));
  done = others_as_they_are c.args.board c.args.place c.args.m c.self.inside.tags.items c.self.inside.seats.entries 0 c.next-i.result
      (omega arith) c.self.invariant.tagged
      (passes_as c.deref.result.now c.self.inside.tags.items c.tag.result (tag_of c.args.board) c.new-search.result.from.value 0 c.next-i.result
      c.deref.ensures.value (c.tag.ensures ∙ ap tag_of c.new-tagged.ensures) c.new-search.ensures.from c.next-i.ensures.passed);
  same = refl;
  tags = refl;
  order = refl;
  seating = c.self.invariant;
  room = refl;
}

-- the search went on behind the follower
behind : (c : After-next-i-in-loop-i) → c.loop-i.search.from.value ≡ c.loop-i.i + 1
behind c = c.loop-i.invariant.on (omega (arith, c.loop-i-test.true, c.len.ensures))

pub loop-i-preserved : goal.loop-i-preserved
loop-i-preserved c = record {
  inside = omega (arith, c.next-i-in-loop-i.ensures.bound, ap length c.deref-in-loop-i.ensures.value);
  search = search_as c.deref-in-loop-i.result.now c.loop-i.self-inside.tags.items c.tag-in-loop-i.result (tag_of c.args.board)
      c.next-i-in-loop-i.new.self c.deref-in-loop-i.ensures.value (c.tag-in-loop-i.ensures ∙ ap tag_of c.new-tagged.ensures)
      c.next-i-in-loop-i.ensures.search;
  on = λ inside. c.next-i-in-loop-i.ensures.on (omega (arith, inside, ap length c.deref-in-loop-i.ensures.value));
  done = rw (c.offer.ensures, c.new-tagged.ensures, c.loop-i.invariant.done)
      (done_one_more (offered c.args.board c.args.place c.args.m) c.self.inside.seats.entries c.loop-i.i _ _
      (rw c.loop-i.invariant.done at c.pair_mut-follower.ensures.value))
      ∙ ap (λ k. done_up_to (offered c.args.board c.args.place c.args.m) k c.self.inside.seats.entries) (next c.loop-i.i)
      ∙ others_as_they_are c.args.board c.args.place c.args.m c.loop-i.self-inside.tags.items c.self.inside.seats.entries (c.loop-i.i + 1)
      c.next-i-in-loop-i.result (omega (arith, c.next-i-in-loop-i.ensures.behind, behind c)) (rw (c.loop-i.invariant.tags) c.self.invariant.tagged)
      (passes_as c.deref-in-loop-i.result.now c.loop-i.self-inside.tags.items c.tag-in-loop-i.result (tag_of c.args.board)
      c.loop-i.search.from.value (c.loop-i.i + 1) c.next-i-in-loop-i.result c.deref-in-loop-i.ensures.value
      (c.tag-in-loop-i.ensures ∙ ap tag_of c.new-tagged.ensures) (behind c) c.next-i-in-loop-i.ensures.passed);
  same = length-set_value_at c.loop-i.self-inside.seats.entries c.loop-i.i c.offer.new.self ∙ c.loop-i.invariant.same;
  tags = c.loop-i.invariant.tags;
  order = c.loop-i.invariant.order;
  seating = record {
    ordered = keys_kept c.loop-i.self-inside.order.spectators c.loop-i.self-inside.seats.entries _ c.loop-i.invariant.seating.ordered
        (keys-with_value_at c.loop-i.self-inside.seats c.loop-i.i c.offer.new.self);
    tagged = c.loop-i.invariant.seating.tagged
        ∙ sym (tags_at c.loop-i.self-inside.seats.entries c.loop-i.i c.pair_mut-follower.result.0.now c.pair_mut-follower.result.1.now
        c.offer.new.self c.pair_mut-follower.ensures.value
        (ap (λ (f : HeldFollower). f.board) c.offer.ensures
        ∙ offered_board c.new-tagged.result c.args.place c.args.m c.pair_mut-follower.result.1.now));
  };
  room = c.loop-i.invariant.room;
}

-- all followers have been offered the move
all : (c : After-loop-i) → c.loop-i.self-inside.seats.entries ≡ published c.args.board c.args.place c.args.m c.self.inside.seats.entries
all c =
    c.loop-i.invariant.done ∙ done_all (offered c.args.board c.args.place c.args.m) c.self.inside.seats.entries c.loop-i.i
    (omega (arith, c.loop-i-test.false, ap vec_len c.loop-i.invariant.tags, as_many c.self.inside.tags.items c.self.inside.seats.entries c.self.invariant.tagged))

pub returns-clause-entries : goal.returns-clause-entries
returns-clause-entries c =
    rw (← c.self.view_is, all (goal.at.returns-clause-entries c).After-loop-i, c.loop-i.invariant.order)
    (sym (shown-in_order (offered c.args.board c.args.place c.args.m) c.self.inside.order.spectators c.self.inside.seats.entries))
