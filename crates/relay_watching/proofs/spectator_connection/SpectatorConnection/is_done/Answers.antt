use Rattle.std.proofs.Common.{◌≡◌, length, sym, ◌∙◌}
use Rattle.std.proofs.lemmas.Bool.{eqb-true}
use Rattle.std.proofs.lemmas.List.{nil_from_length}
use Rattle.relay_watching.proofs.Progresses.{due_none}
use Rattle.relay_watching.proofs.spectator_connection.SpectatorConnection.is_done.Goals as goal

pub returns-then-is_over-clause-written : goal.returns-then-is_over-clause-written
returns-then-is_over-clause-written c =
    λ is. (
    let empty : length c.offered.result.now ≡ 0 = eqb-true _ _ (sym c.is_empty.ensures ∙ is) in
    due_none c.args.tape.now c.args.self.now (sym c.offered.ensures ∙ nil_from_length _ empty)
    )
