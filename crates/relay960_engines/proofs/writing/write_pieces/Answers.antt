use Rattle.std.proofs.Common.{rules, refl}
use Rattle.relay960_engines.proofs.Items.{items_part}
use Rattle.relay960_engines.proofs.Prefixes.{on_err_known}
use Rattle.relay960_engines.proofs.writing.write_pieces.Goals as goal

pub returns-in_err-write_whole-clause-part : goal.returns-in_err-write_whole-clause-part
returns-in_err-write_whole-clause-part g c =
    on_err_known _ (items_part (λ piece. piece.now) _ _ _ c.args.pieces.now c.loop-piece.piece-index _ _ (search rules)
    refl c.loop-piece.invariant.written c.in_err-write_whole.ensures.part)
