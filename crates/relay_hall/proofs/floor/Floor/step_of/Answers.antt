use Rattle.std.proofs.Common.{◌≡◌, [], None, ap, ◌∙◌}
use Rattle.relay_hall.specs.Inner.{state_of}
use Rattle.relay_hall.specs.Record.{FloorState}
use Rattle.relay_hall.proofs.Answered.{made}
use Rattle.relay_hall.proofs.floor.Floor.step_of.Goals as goal

pub returns : goal.returns
returns c =
    let s : FloorState = record (state_of c.self.inside) { speaker = c.args.owner.now } in
    let empty : s.handed ≡ None = ap (λ (x : FloorState). x.handed) c.self.view_is ∙ c.requires.empty in
    rw (← c.self.view_is)
    (made s [] empty [] c.make.new.self c.args.step.now c.make.result c.make.ensures)
