use Rattle.std.proofs.Common.{rules, ◌≡◌, ◌∙◌, is_some, length, arith}
use Rattle.std.specs.Vec.{vec_len}
use Rattle.relay_hall.proofs.Standing.{has_where_found}
use Rattle.relay_hall.proofs.holders.Holders.has.Goals as goal

pub returns : goal.returns
returns c =
    let rows = c.args.self.now.rows in
    let told : c.is_some.result ≡ is_some c.index_of.result = search rules in
    let long : vec_len rows ≡ length rows.items = omega (arith, rows.ok.0) in
    told ∙ has_where_found c.args.key.now rows.items (vec_len rows) c.index_of.result long c.args.self.now.once c.index_of.ensures.within c.index_of.ensures.found c.index_of.ensures.missing
