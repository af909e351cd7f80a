use Rattle.std.proofs.Common.{rules}
use Rattle.relay960_engines.specs.Moves.{spaced}
use Rattle.relay960_engines.proofs.Items.{items_part}
use Rattle.relay960_engines.proofs.Prefixes.{on_err_known}
use Rattle.relay960_engines.proofs.listing.write_spaced.Goals as goal

pub returns-in_err-write_pieces-clause-part : goal.returns-in_err-write_pieces-clause-part
returns-in_err-write_pieces-clause-part g c =
    on_err_known _ (items_part spaced _ _ _ c.args.moves.now c.loop-m.m-index c.m-item.result
    _ (search rules) c.m-item.is c.loop-m.invariant.written (search rules))
