use Rattle.std.proofs.Common.{ℕ, List, Err, refl, subst}
use Rattle.std.specs.HashMap.{spare}
use Rattle.std.specs.Map.{lookup}
use Rattle.relay_core.specs.Name.{same_name}
use Rattle.relay_core.specs.declared.reply.Reply.TheVariants.{Refused}
use Rattle.relay_hall.specs.Hosting.{HandsAt}
use Rattle.relay_hall.specs.Inner.{state_of}
use Rattle.relay_hall.proofs.Floors.{follow_makes}
use Rattle.relay_hall.proofs.floor.Floor.turns_away.Goals as goal

-- nothing has changed, and the refusal is one that a follow of the board may get
pub returns-clause-makes : goal.returns-clause-makes
returns-clause-makes c who =
    let a = c.self.inside in
    let hands = subst (λ (n : List ℕ). HandsAt (lookup (same_name n) a.boards.entries) c.args.from (Err c.turn_away-refusal.result)) c.of.ensures c.turn_away-refusal.ensures in
    rw (← c.self.view_is)
    (follow_makes (state_of a) a.boards.entries a.boards.entries (spare a.boards) refl c.self.invariant refl who c.args.board c.args.from
    (Err c.turn_away-refusal.result) (Err c.turn_away-refusal.result) hands refl (Refused c.turn_away-refusal.result) refl (state_of a) refl)
