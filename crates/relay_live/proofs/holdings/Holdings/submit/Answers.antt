use Rattle.std.proofs.Common.{sym, ◌∙◌, subst}
use Rattle.relay_live.specs.Live.{Boards, IsLive, held_of, held_by}
use Rattle.relay_core.proofs.lemmas.Standing.{shown_is, stands}
use Rattle.relay_live.proofs.Submits.{goes, lives, goes_refused}
use Rattle.relay_live.proofs.Swaps.{boards_counted}
use Rattle.relay_live.proofs.holdings.Holdings.submit.Goals.{in-Err, in-Ok}
use Rattle.relay_live.proofs.holdings.Holdings.submit.Goals as goal

pub invariant_of-self : goal.invariant_of-self
invariant_of-self c =
    let a = c.self.inside in
    elim c.match-play.branch [
      | in-Err w ↦ (subst (λ (b : Boards). IsLive a.limits b a.followers.entries) (sym w.in-Err.ensures.refused) c.self.invariant.0, rw (w.in-Err.ensures.refused, c.play.ensures.room) c.self.invariant.1)
      | in-Ok w ↦ let t = w.in-Ok.ensures.swapped in (
        lives a.limits a.boards.entries c.play.new.boards.entries a.followers.entries c.args.board c.args.m c.self.invariant.0 t.0 t.1 t.2 t.3.0 t.3.1 t.4 w.in-Ok.place w.in-Ok.outcome (sym w.in-Ok.is ∙ c.play.ensures.answer),
        rw (boards_counted a.boards.entries c.play.new.boards.entries c.args.board t.0 t.1 t.2 t.4, c.play.ensures.room) c.self.invariant.1,
      )
    ]

pub returns-clause-stands : goal.returns-clause-stands
returns-clause-stands c =
    let a = c.self.inside in
    elim c.match-play.branch [
      | in-Err w ↦ rw (w.result-is)
          (stands (held_of a) (held_by a.limits c.play.new.boards.entries a.followers.entries) _ _ c.self.invariant.0.kept _ (shown_is c.self.view_is)
          (goes_refused a.limits a.boards.entries c.play.new.boards.entries a.followers.entries c.args.board c.args.m w.in-Err.refusal (sym w.in-Err.is ∙ c.play.ensures.answer) w.in-Err.ensures.refused))
      | in-Ok w ↦ let t = w.in-Ok.ensures.swapped in
          rw (w.result-is)
          (stands (held_of a) (held_by a.limits c.play.new.boards.entries a.followers.entries) _ _ c.self.invariant.0.kept _ (shown_is c.self.view_is)
          (goes a.limits a.boards.entries c.play.new.boards.entries a.followers.entries c.args.board c.args.m c.self.invariant.0 t.0 t.1 t.2 t.3.0 t.3.1 t.4 w.in-Ok.place w.in-Ok.outcome (sym w.in-Ok.is ∙ c.play.ensures.answer)))
    ]
