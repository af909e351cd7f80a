use Rattle.std.proofs.Common.{◌≡◌, None, ap, ◌∙◌, string_bytes}
use Rattle.std.proofs.lemmas.Result.{IfOk-weaker}
use Rattle.relay_hall.specs.Inner.{state_of}
use Rattle.relay_hall.specs.Record.{FloorState}
use Rattle.relay_hall.proofs.Answered.{answered, unanswered}
use Rattle.relay_hall.proofs.OneBoard.{onto_err}
use Rattle.relay_hall.proofs.floor.Floor.answer.Goals as goal

pub returns-clause-ok : goal.returns-clause-ok
returns-clause-ok c =
    let s : FloorState = record (state_of c.self.inside) { speaker = c.args.speaker.now } in
    let empty : s.handed ≡ None = ap (λ (x : FloorState). x.handed) c.self.view_is ∙ c.requires.empty in
    rw (← c.self.view_is)
    (IfOk-weaker c.answer_with.result _ _ (λ bytes a. answered s empty c.args.conn.now c.args.text.now c.answer_with.new.self c.answer_with.new.keeper (string_bytes bytes) a) c.answer_with.ensures.ok)

pub returns-clause-err : goal.returns-clause-err
returns-clause-err c =
    let s : FloorState = record (state_of c.self.inside) { speaker = c.args.speaker.now } in
    let empty : s.handed ≡ None = ap (λ (x : FloorState). x.handed) c.self.view_is ∙ c.requires.empty in
    rw (← c.self.view_is)
    (onto_err (λ stopped. unanswered s empty c.args.conn.now c.args.text.now c.answer_with.new.self c.answer_with.new.keeper stopped) c.answer_with.result c.answer_with.ensures.err)
