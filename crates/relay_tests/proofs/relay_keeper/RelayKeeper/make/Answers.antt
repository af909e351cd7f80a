use Rattle.std.proofs.Common.{arith, vec_capacity}
use Rattle.relay_tests.proofs.Names.{fits, keeps}
use Rattle.relay_tests.proofs.relay_keeper.RelayKeeper.make.Goals as goal

pub push_reserved-requires : goal.push_reserved-requires
push_reserved-requires c =
    let names = c.self.inside.names in
    omega (
      arith,
      names.ok.0,
      fits c.self.inside.relay c.step-reply.new.self names.items (vec_capacity names) c.args.step.now
          c.step-reply.result c.self.invariant c.step-reply.ensures.stands c.in-Some.board c.in-Some.ensures,
    )

pub invariant_of-self : goal.invariant_of-self
invariant_of-self c =
    let names = c.self.inside.names in
    rw (c.push_reserved.ensures.items, c.push_reserved.ensures.capacity)
    (keeps c.self.inside.relay c.step-reply.new.self names.items (vec_capacity names) c.args.step.now c.step-reply.result
    c.self.invariant c.step-reply.ensures.stands _ c.in-Some.ensures)
