use Rattle.std.proofs.Common.{rules, false, true}
use Rattle.relay960_engines.specs.Moves.{moves_lines, unlawful_line}
use Rattle.relay960_engines.proofs.AnswerFacts.{unlawful_answer, lawful_answer, answered, failed, failed_unlawful, passed_on}
use Rattle.relay960_engines.proofs.moves.moves_run.Goals as goal

pub returns-in_err-write_line-clause-part : goal.returns-in_err-write_line-clause-part
returns-in_err-write_line-clause-part g c =
    passed_on _ _ _ c.from_residual-in_err-write_line.ensures.1 (failed_unlawful _ _ _ _
    (unlawful_answer _ c.in-Ok.position (search rules) (search rules))
    c.in_err-write_line.ensures.fault c.in_err-write_line.ensures.part)

pub returns-in_default-clause-whole : goal.returns-in_default-clause-whole
returns-in_default-clause-whole g c =
    answered _ false unlawful_line _ _ (unlawful_answer _ c.in-Ok.position (search rules) (search rules)) (search rules)

pub returns-in_err-write_lawful-clause-part : goal.returns-in_err-write_lawful-clause-part
returns-in_err-write_lawful-clause-part g c =
    passed_on _ _ _ c.from_residual-in_err-write_lawful.ensures.1 (failed _ (moves_lines c.in-Ok-of.lawful c.state.result)
    _ _ _ (lawful_answer _ c.in-Ok.position c.in-Ok-of.lawful c.state.result c.in-Ok.ensures.ok (search rules)
    c.in-Ok-of.ensures.value c.state.ensures.going c.state.ensures.checkmate c.state.ensures.stalemate)
    c.in_err-write_lawful.ensures.part)

pub returns-clause-whole : goal.returns-clause-whole
returns-clause-whole g c =
    answered _ true (moves_lines c.in-Ok-of.lawful c.state.result) _ _
    (lawful_answer _ c.in-Ok.position c.in-Ok-of.lawful c.state.result c.in-Ok.ensures.ok (search rules)
    c.in-Ok-of.ensures.value c.state.ensures.going c.state.ensures.checkmate c.state.ensures.stalemate) (search rules)
