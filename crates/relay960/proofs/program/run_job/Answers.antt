use Rattle.std.proofs.KnownBytes.{Keeps-refl}
use Rattle.relay960.specs.Statuses.{MovesEnds, end_status}
use Rattle.relay960.proofs.EndFacts.{line_ends, moves_end, play_ends, script_ends}
use Rattle.relay960.proofs.program.run_job.Goals as goal

pub returns-in-Moves : goal.returns-in-Moves
returns-in-Moves g c =
    let ends : MovesEnds c.as_bytes.result.now (g.W.Write.contents c.args.writer.now) (g.W.Write.contents c.moves_run.new.writer)
    (end_status c.after_answer-in-Moves.result) =
    moves_end _ c.moves_run.result _ _ _ c.moves_run.ensures.whole c.moves_run.ensures.part c.after_answer-in-Moves.ensures in
    rw c.in-Moves.is (Keeps-refl _, rw (← c.as_bytes.ensures.value) ends)

pub returns-in-Play : goal.returns-in-Play
returns-in-Play g c =
    rw c.in-Play.is (play_ends _ c.greatest-bounds.result _ c.play_run.result _ _ _ _ _ c.greatest-bounds.ensures
    c.play_run.ensures.done c.play_run.ensures.failed c.after_lines.ensures)

pub returns-in-Script : goal.returns-in-Script
returns-in-Script g c =
    rw c.in-Script.is (script_ends c.greatest-bounds-in-Script.result _ c.script_run.result _ _ _ _ _
    c.greatest-bounds-in-Script.ensures c.script_run.ensures.done c.script_run.ensures.failed c.after_lines-in-Script.ensures)

pub returns-in-Version : goal.returns-in-Version
returns-in-Version g c =
    rw c.in-Version.is (
      Keeps-refl _,
      line_ends _ _ c.version_run.result _ c.version_run.ensures.whole c.version_run.ensures.part
          c.version_run.ensures.fault c.after_line.ensures,
    )
