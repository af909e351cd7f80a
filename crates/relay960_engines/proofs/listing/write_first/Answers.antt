use Rattle.std.proofs.Common.{rules}
use Rattle.std.specs.List.{flat_map}
use Rattle.c960_board.specs.MoveTexts.{move_text}
use Rattle.relay960_engines.specs.Moves.{spaced}
use Rattle.relay960_engines.proofs.Prefixes.{part_before, on_err_behind, on_err_known}
use Rattle.relay960_engines.proofs.listing.write_first.Goals as goal

pub returns-in_err-write_whole-clause-part : goal.returns-in_err-write_whole-clause-part
returns-in_err-write_whole-clause-part g c =
    on_err_known _ (part_before _ _ (move_text c.args.first.now) (flat_map spaced c.args.others.now) (search rules))

pub returns-clause-part : goal.returns-clause-part
returns-clause-part g c =
    on_err_behind _ _ (g.W.WriteDevice.contents c.write_whole.new.writer) _ (move_text c.args.first.now)
    (flat_map spaced c.args.others.now) (search rules) c.write_spaced.ensures.part
