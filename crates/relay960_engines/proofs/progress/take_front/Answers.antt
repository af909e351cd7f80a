use Rattle.std.proofs.Common.{rules, arith, ◌≡◌, ◌+◌, ◌<◌, ◌≤◌, length, refl}
use Rattle.relay960_engines.proofs.AnswerFacts.{passed_on}
use Rattle.relay960_engines.proofs.PieceFacts.{taken_line, taken_piece, stops_at_lines, stops_at_bytes, stops_at_line}
use Rattle.relay960_engines.proofs.SendingFacts.{sends_nothing}
use Rattle.relay960_engines.proofs.TakingFacts.{stops_unsent}
use Rattle.relay960_engines.proofs.progress.take_front.Goals.{After-answer_ended, then-end-bytes, else-end-bytes, then-progress-bounds-via-then-progress-bounds, then-progress-bounds-via-else-progress-bounds+then-count-bounds}
use Rattle.relay960_engines.proofs.progress.take_front.Goals as goal

pub returns-in_err-send-clause-failed : goal.returns-in_err-send-clause-failed
returns-in_err-send-clause-failed g c =
    passed_on _ _ _ c.from_residual.ensures.1 (stops_unsent _ _ _ _ c.args.bytes.now _ _ _ c.requires.within
    c.in_err-send.ensures.fault c.in_err-send.ensures.part)

pub returns-then-progress-bounds-clause-failed : goal.returns-then-progress-bounds-clause-failed
returns-then-progress-bounds-clause-failed g c =
    let near : c.if-end-bytes.count ≤ c.line_end-end.result + 1 =
    elim c.if-end-bytes.branch [
      | then-end-bytes w ↦ search rules
      | else-end-bytes w ↦ search rules
    ] in
    let inside : c.if-end-bytes.count ≤ length c.args.bytes.now =
    elim c.if-end-bytes.branch [
      | then-end-bytes w ↦ search rules
      | else-end-bytes w ↦ search rules
    ] in
    elim c.then-progress-bounds.branch [
      | then-progress-bounds-via-then-progress-bounds w ↦ stops_at_lines _ _ _ _ _ _ _ c.requires.within c.requires.some (search rules)
          (sends_nothing _ _ _ c.in_ok-send.ensures.whole)
      | then-progress-bounds-via-else-progress-bounds+then-count-bounds w ↦ stops_at_bytes _ _ _ _ _ c.line_end-end.result
          c.if-end-bytes.count _ _ c.requires.within c.line_end-end.ensures.plain near inside (search rules)
          (sends_nothing _ _ _ c.in_ok-send.ensures.whole)
    ]

-- where a line ends in the bytes, its line feed is counted
ended : (g : _) (c : After-answer_ended g) → (c.line_end-end.result < length c.args.bytes.now) × (c.if-end-bytes.count ≡ c.line_end-end.result + 1)
ended g c =
    let below : c.line_end-end.result < length c.args.bytes.now = search rules in
    let count : c.if-end-bytes.count ≡ c.line_end-end.result + 1 =
    elim c.if-end-bytes.branch [
      | then-end-bytes w ↦ search rules
      | else-end-bytes w ↦ search rules
    ] in
    (below, count)

pub returns-in_err-answer_ended-clause-failed : goal.returns-in_err-answer_ended-clause-failed
returns-in_err-answer_ended-clause-failed g c =
    let w = ended g (goal.at.returns-in_err-answer_ended-clause-failed g c).After-answer_ended in
    passed_on _ _ _ c.from_residual-in_err-answer_ended.ensures.1 (stops_at_line _ _ _ _ _ _ c.line_end-end.result _ _ _
    c.line_end-end.ensures.plain w.0 (c.line_end-end.ensures.feed w.0) c.requires.within (search rules)
    (omega (arith, w.1, c.if-count-bounds.false)) c.in_err-answer_ended.ensures.failed)

pub returns-in_ok-answer_ended-clause-took : goal.returns-in_ok-answer_ended-clause-took
returns-in_ok-answer_ended-clause-took g c =
    let w = ended g (goal.at.returns-in_ok-answer_ended-clause-took g c).After-answer_ended in
    taken_line _ _ _ _ _ _ c.line_end-end.result c.if-end-bytes.count _ _ c.line_end-end.ensures.plain w.0
    (c.line_end-end.ensures.feed w.0) w.1 c.in_ok-answer_ended.ensures.sent c.in_ok-answer_ended.ensures.none refl refl

pub returns-else-end-bytes-2-clause-took : goal.returns-else-end-bytes-2-clause-took
returns-else-end-bytes-2-clause-took g c =
    let all : c.line_end-end.result ≡ length c.args.bytes.now = omega (arith, c.line_end-end.ensures.bound, c.if-end-bytes-2.false) in
    let count : c.if-end-bytes.count ≡ c.line_end-end.result =
    elim c.if-end-bytes.branch [
      | then-end-bytes w ↦ search rules
      | else-end-bytes w ↦ search rules
    ] in
    taken_piece _ _ _ _ _ c.line_end-end.result c.if-end-bytes.count _ c.line_end-end.ensures.plain all count c.extend.ensures refl refl
