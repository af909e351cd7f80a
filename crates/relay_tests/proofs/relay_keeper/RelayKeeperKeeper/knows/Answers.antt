use Rattle.std.proofs.Common.{◌≡◌, rules, vec_capacity}
use Rattle.relay_pushing.specs.Connections.{is_among}
use Rattle.relay_tests.proofs.Names.{known_by_names}
use Rattle.relay_tests.proofs.relay_keeper.RelayKeeperKeeper.knows.Goals as goal

pub returns : goal.returns
returns c =
    let names = c.self.inside.names in
    let is : c.contains.result ≡ is_among c.args.board.now names.items = search rules in
    rw (← c.self.view_is)
    (known_by_names c.self.inside.relay names.items (vec_capacity names) c.args.board.now c.contains.result c.self.invariant is)
