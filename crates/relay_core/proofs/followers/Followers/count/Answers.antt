use Rattle.std.proofs.Common.{◌≡◌, ◌<◌, ◌≤◌, ◌+◌, ℕ, Bool, List, take, count_by, length, true, false, sym, ap, ◌∙◌, arith}
use Rattle.std.proofs.Math.Seq.{take_all}
use Rattle.relay_core.specs.Held.{HeldFollower}
use Rattle.relay_core.specs.Inner.Tag.{tag_of}
use Rattle.relay_core.specs.Name.{same_name}
use Rattle.relay_core.proofs.lemmas.Orders.{counted}
use Rattle.relay_core.proofs.Seatings.{as_many, one_more_counted, others_not_counted, read_not_counted}
use Rattle.relay_core.proofs.TagRows.{passes_as, search_as}
use Rattle.relay_core.proofs.followers.Followers.count.Goals.{then-follows, else-follows}
use Rattle.relay_core.proofs.followers.Followers.count.Goals as goal

pub loop-i-init : goal.loop-i-init
loop-i-init c =
    let bound : c.next-i.result ≤ length c.self.inside.tags.items = omega (arith, c.next-i.ensures.bound, ap length c.deref.ensures.value) in
    record {
      inside = bound;
      search = search_as c.deref.result.now c.self.inside.tags.items c.tag.result (tag_of c.args.board) c.next-i.new.self c.deref.ensures.value
          (c.tag.ensures ∙ ap tag_of c.new-tagged.ensures) c.next-i.ensures.search;
      on = λ inside. c.next-i.ensures.on (omega (arith, inside, ap length c.deref.ensures.value));
      so_far = sym (others_not_counted c.args.board c.self.inside.tags.items c.self.inside.seats.entries 0 c.next-i.result (omega arith) bound
          c.self.invariant.tagged
          (passes_as c.deref.result.now c.self.inside.tags.items c.tag.result (tag_of c.args.board) c.new-search.result.from.value 0 c.next-i.result
          c.deref.ensures.value (c.tag.ensures ∙ ap tag_of c.new-tagged.ensures) c.new-search.ensures.from c.next-i.ensures.passed));
      few = omega arith;
    }

-- what the compare of the names answers
compared : (board name : List ℕ) (f : HeldFollower) → name ≡ board → (b r : Bool) → r ≡ b → r ≡ same_name name f.board → same_name board f.board ≡ b
compared board name f same b r is answer = ap (λ n. same_name n f.board) (sym same) ∙ sym answer ∙ is

pub loop-i-preserved : goal.loop-i-preserved
loop-i-preserved c =
    let entries = c.self.inside.seats.entries in
    let bound : c.next-i-in-loop-i.result ≤ length c.self.inside.tags.items =
    omega (arith, c.next-i-in-loop-i.ensures.bound, ap length c.deref-in-loop-i.ensures.value) in
    let many = as_many c.self.inside.tags.items entries c.self.invariant.tagged in
    let inside : c.loop-i.i < length entries = omega (arith, c.loop-i-test.true) in
    let from : c.loop-i.search.from.value ≡ c.loop-i.i + 1 = c.loop-i.invariant.on (omega (arith, inside, many)) in
    let behind : c.loop-i.i + 1 ≤ c.next-i-in-loop-i.result = omega (arith, c.next-i-in-loop-i.ensures.behind, from) in
    let search = search_as c.deref-in-loop-i.result.now c.self.inside.tags.items c.tag-in-loop-i.result (tag_of c.args.board)
    c.next-i-in-loop-i.new.self c.deref-in-loop-i.ensures.value (c.tag-in-loop-i.ensures ∙ ap tag_of c.new-tagged.ensures)
    c.next-i-in-loop-i.ensures.search in
    let on : c.next-i-in-loop-i.result < length c.self.inside.tags.items → c.next-i-in-loop-i.new.self.from.value ≡ c.next-i-in-loop-i.result + 1 =
    λ there. c.next-i-in-loop-i.ensures.on (omega (arith, there, ap length c.deref-in-loop-i.ensures.value)) in
    let counted_up_to : ℕ → ℕ = λ n. count_by (λ (e : ℕ × HeldFollower). same_name c.args.board e.1.board) (take n entries) in
    let passed : counted_up_to c.next-i-in-loop-i.result ≡ counted_up_to (c.loop-i.i + 1) =
    others_not_counted c.args.board c.self.inside.tags.items entries (c.loop-i.i + 1) c.next-i-in-loop-i.result behind bound
    c.self.invariant.tagged
    (passes_as c.deref-in-loop-i.result.now c.self.inside.tags.items c.tag-in-loop-i.result (tag_of c.args.board) c.loop-i.search.from.value
    (c.loop-i.i + 1) c.next-i-in-loop-i.result c.deref-in-loop-i.ensures.value (c.tag-in-loop-i.ensures ∙ ap tag_of c.new-tagged.ensures)
    from c.next-i-in-loop-i.ensures.passed) in
    elim c.if-follows.branch [
      | then-follows w ↦
          let one : counted_up_to (c.loop-i.i + 1) ≡ counted_up_to c.loop-i.i + 1 =
          one_more_counted c.args.board entries c.loop-i.i inside c.index.result.now c.index.ensures
          (compared c.args.board c.new-tagged.result c.index.result.now c.new-tagged.ensures true c.follows.result w.if-follows.true c.follows.ensures) in
          record {
            inside = bound;
            search = search;
            on = on;
            so_far = w.count-is ∙ ap (λ n. n + 1) c.loop-i.invariant.so_far ∙ sym one ∙ sym passed;
            few = omega (arith, w.count-is, c.loop-i.invariant.few, behind);
          }
      | else-follows w ↦
          let none : counted_up_to (c.loop-i.i + 1) ≡ counted_up_to c.loop-i.i =
          read_not_counted c.args.board entries c.loop-i.i inside c.index.result.now c.index.ensures
          (compared c.args.board c.new-tagged.result c.index.result.now c.new-tagged.ensures false c.follows.result w.if-follows.false c.follows.ensures) in
          record {
            inside = bound;
            search = search;
            on = on;
            so_far = w.count-is ∙ c.loop-i.invariant.so_far ∙ sym none ∙ sym passed;
            few = omega (arith, w.count-is, c.loop-i.invariant.few, behind);
          }
    ]

pub returns : goal.returns
returns c =
    let follows : ℕ × HeldFollower → Bool = λ e. same_name c.args.board e.1.board in
    let here : c.loop-i.count ≡ count_by follows c.self.inside.seats.entries =
    c.loop-i.invariant.so_far ∙ ap (count_by follows) (take_all c.loop-i.i c.self.inside.seats.entries
    (omega (arith, c.loop-i-test.false, as_many c.self.inside.tags.items c.self.inside.seats.entries c.self.invariant.tagged))) in
    rw (← c.self.view_is)
    (here ∙ sym (counted c.self.inside.seats c.self.inside.order.spectators c.len.ensures.unique c.self.invariant.ordered follows))
