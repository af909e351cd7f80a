use Rattle.std.proofs.Common.{rules, refl, ap, ◌∙◌, ◌++◌, ◌∷◌, [], ℕ, List, inr}
use Rattle.std.proofs.lemmas.Map.Steps.{set_value_same}
use Rattle.relay_hall.specs.Record.{HallRecord}
use Rattle.relay_service.specs.Calling.Connections.{Turn, happens}
use Rattle.relay_service.specs.Calling.Running.{came}
use Rattle.relay_service.specs.declared.connection.Connection.{Connection}
use Rattle.relay_service.specs.Inner.{service_of}
use Rattle.relay_service.specs.Record.{ServiceRecord}
use Rattle.relay_service.proofs.Keeping.{keeps_as, kept, lost, received}
use Rattle.relay_service.proofs.service.Service.receive.Goals as goal

pub invariant_of-self-in_err-key : goal.invariant_of-self-in_err-key
invariant_of-self-in_err-key c = keeps_as _ _ (kept c.self.inside c.self.invariant) (search (rules, set_value_same))

pub invariant_of-self-in-Err : goal.invariant_of-self-in-Err
invariant_of-self-in-Err c =
    let s : ServiceRecord = service_of c.self.inside in
    let left : List (ℕ × Connection) = c.swap_remove.new.self.entries in
    let turns : List Turn = c.and-turns.result.items in
    let t : ServiceRecord = record s { connections = left; turns = turns } in
    keeps_as _ t
    (lost s c.args.number c.args.bytes.now c.in-Some.connection.now c.feed.new.self c.in_ok-key.key (c.get_mut.follows.lender c.feed.new.self).entries left turns (kept c.self.inside c.self.invariant)
    (search rules) (search rules) c.in_ok-key.ensures.fed (search rules) (search rules)
    (c.and-turns.ensures ∙ ap (λ (b : List ℕ). s.turns ++ happens c.args.number (came b) ∷ []) c.of.ensures) c.in-Err.ensures.keyed).0
    (ap (λ (k : HallRecord). record t { hall = k }) c.in-Err.ensures.err)

pub returns-in-Err-clause-err : goal.returns-in-Err-clause-err
returns-in-Err-clause-err c =
    let s : ServiceRecord = service_of c.self.inside in
    let left : List (ℕ × Connection) = c.swap_remove.new.self.entries in
    let turns : List Turn = c.and-turns.result.items in
    rw (← c.self.view_is, c.in-Err.ensures.err)
    (inr (lost s c.args.number c.args.bytes.now c.in-Some.connection.now c.feed.new.self c.in_ok-key.key (c.get_mut.follows.lender c.feed.new.self).entries left turns (kept c.self.inside c.self.invariant)
    (search rules) (search rules) c.in_ok-key.ensures.fed (search rules) (search rules)
    (c.and-turns.ensures ∙ ap (λ (b : List ℕ). s.turns ++ happens c.args.number (came b) ∷ []) c.of.ensures) c.in-Err.ensures.keyed).1)

pub invariant_of-self-2 : goal.invariant_of-self-2
invariant_of-self-2 c =
    let s : ServiceRecord = service_of c.self.inside in
    let connections : List (ℕ × Connection) = (c.get_mut.follows.lender c.feed.new.self).entries in
    let turns : List Turn = c.with_arrival-self-inside.result.items in
    let t : ServiceRecord = record s { hall = c.arrive-arrived.new.hall; connections = connections; turns = turns } in
    keeps_as _ t
    (received s c.args.number c.args.bytes.now c.in-Some.connection.now c.feed.new.self c.in_ok-key.key connections c.arrive-arrived.new.hall c.and-turns.result.items turns (kept c.self.inside c.self.invariant)
    (search rules) (search rules) c.in_ok-key.ensures.fed (search rules) c.in_default-arrived.ensures.ok
    (c.and-turns.ensures ∙ ap (λ (b : List ℕ). s.turns ++ happens c.args.number (came b) ∷ []) c.of.ensures) c.with_arrival-self-inside.ensures).0
    refl

pub returns-clause-ok : goal.returns-clause-ok
returns-clause-ok c =
    let s : ServiceRecord = service_of c.self.inside in
    let connections : List (ℕ × Connection) = (c.get_mut.follows.lender c.feed.new.self).entries in
    let turns : List Turn = c.with_arrival-self-inside.result.items in
    rw (← c.self.view_is)
    (received s c.args.number c.args.bytes.now c.in-Some.connection.now c.feed.new.self c.in_ok-key.key connections c.arrive-arrived.new.hall c.and-turns.result.items turns (kept c.self.inside c.self.invariant)
    (search rules) (search rules) c.in_ok-key.ensures.fed (search rules) c.in_default-arrived.ensures.ok
    (c.and-turns.ensures ∙ ap (λ (b : List ℕ). s.turns ++ happens c.args.number (came b) ∷ []) c.of.ensures) c.with_arrival-self-inside.ensures).1
