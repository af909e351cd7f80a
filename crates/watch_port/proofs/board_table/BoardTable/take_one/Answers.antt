use Rattle.std.proofs.Common.{◌≡◌, ◌∷◌, ◌++◌, [], refl, subst, sym, ap, ◌∙◌, rules}
use Rattle.rtrb.specs.Ring.{known_items, received}
use Rattle.watch_port.specs.Copies.{HasTaken, copied_after}
use Rattle.watch_port.specs.Inner.{table_of}
use Rattle.watch_port.proofs.Copying.{peeked, table_more}
use Rattle.watch_port.proofs.board_table.BoardTable.take_one.Goals as goal

pub invariant_of-self-2 : goal.invariant_of-self-2
invariant_of-self-2 c =
    let event = c.peek_known-event.result.now in
    let its : event ≡ c.pop_known.result =
    peeked event c.pop_known.result (known_items c.is_empty.new.self) (known_items c.pop_known.new.self) c.peek_known-event.ensures c.pop_known.ensures.received.1 in
    let more : received c.pop_known.new.self ≡ received c.self.inside.ring ++ event ∷ [] =
    c.pop_known.ensures.received.0 ∙ ap (λ xs. xs ++ c.pop_known.result ∷ []) c.is_empty.ensures.looked.1
    ∙ ap (λ x. received c.self.inside.ring ++ x ∷ []) (sym its) in
    let applied : c.apply.new.boards.items ≡ copied_after c.self.inside.limits.plies c.self.inside.boards.items event = search rules in
    table_more c.self.inside.limits.plies c.self.inside.boards.items c.apply.new.boards.items (received c.self.inside.ring) (received c.pop_known.new.self) event
    c.self.invariant applied more

pub returns-clause-taken : goal.returns-clause-taken
returns-clause-taken c =
    subst (λ t. HasTaken t (table_of (record { alloc = c.self.inside.alloc; ring = c.pop_known.new.self; limits = c.self.inside.limits; boards = c.apply.new.boards })))
    c.self.view_is (record {
      plies = refl;
      more = c.pop_known.result ∷ [];
      told = c.pop_known.ensures.received.0 ∙ ap (λ xs. xs ++ c.pop_known.result ∷ []) c.is_empty.ensures.looked.1;
    })
