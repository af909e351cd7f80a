use Rattle.std.proofs.Common.{arith, refl, sym, ap, ◌∙◌, subst, ◌<◌, ◌+◌, ℕ, nat_eq, length, slice_get, Option, option_map}
use Rattle.std.specs.Option.{IfSome}
use Rattle.relay_core.specs.Held.{HeldFollower}
use Rattle.relay_core.specs.Held.Followers.{HasPlaces}
use Rattle.relay_core.proofs.lemmas.Lists.{lookup-map}
use Rattle.relay_core.proofs.lemmas.Standing.{shown_is, stands, stays}
use Rattle.relay_core.proofs.lemmas.Takes.{has_places, take_nobody}
use Rattle.relay_live.specs.declared.seated.Seated.{Seated}
use Rattle.relay_live.specs.Live.{held_of, held_by, held_at}
use Rattle.relay_live.proofs.Maps.{written}
use Rattle.relay_live.proofs.Swaps.{boards_counted}
use Rattle.relay_live.proofs.Takes.{goes, lives, some_due, due_is, counted, uncounted}
use Rattle.relay_live.proofs.holdings.Holdings.take.Goals.{in-Move, in_default-taken}
use Rattle.relay_live.proofs.holdings.Holdings.take.Goals as goal

pub returns-in_default-clause-stands : goal.returns-in_default-clause-stands
returns-in_default-clause-stands c =
    let a = c.self.inside in
    let none = sym c.find.ensures.seated ∙ ap (option_map (λ p. p.1.now)) c.in_default.is in
    stays (held_of a) _ _ c.self.invariant.0.kept _ (shown_is c.self.view_is)
    (take_nobody (held_of a) (held_of a).followers c.args.who (lookup-map (nat_eq c.args.who) (held_at a.limits.capacity a.boards.entries) a.followers.entries ∙ ap (option_map (held_at a.limits.capacity a.boards.entries)) none) refl)

pub take_for-taken-requires-clause-seated : goal.take_for-taken-requires-clause-seated
take_for-taken-requires-clause-seated c =
    let a = c.self.inside in
    let f = c.in-Some.seated.now in
    let at = sym c.find.ensures.seated ∙ ap (option_map (λ p. p.1.now)) c.in-Some.is in
    let w = written (nat_eq c.args.who) a.followers.entries f f at in
    c.self.invariant.0.seated w.0 (w.1, f) w.2

pub take_for-taken-requires-clause-fits : goal.take_for-taken-requires-clause-fits
take_for-taken-requires-clause-fits c =
    let a = c.self.inside in
    let f = c.in-Some.seated.now in
    let at = sym c.find.ensures.seated ∙ ap (option_map (λ p. p.1.now)) c.in-Some.is in
    let all : f.joined + f.taken + length (held_at a.limits.capacity a.boards.entries f).queue < 65536 =
    (subst (λ (o : Option HeldFollower). IfSome o HasPlaces)
    (lookup-map (nat_eq c.args.who) (held_at a.limits.capacity a.boards.entries) a.followers.entries ∙ ap (option_map (held_at a.limits.capacity a.boards.entries)) at)
    (has_places a.limits (held_of a) c.self.invariant.0.kept.history c.args.who c.self.invariant.0.kept.stands c.plies.ensures.valid.most_plies)).0 in
    omega (arith, all)

pub count_take-requires : goal.count_take-requires
count_take-requires c =
    let a = c.self.inside in
    let f = c.in-Some.seated.now in
    let at = sym c.find.ensures.seated ∙ ap (option_map (λ p. p.1.now)) c.in-Some.is in
    let all : f.joined + f.taken + length (held_at a.limits.capacity a.boards.entries f).queue < 65536 =
    (subst (λ (o : Option HeldFollower). IfSome o HasPlaces)
    (lookup-map (nat_eq c.args.who) (held_at a.limits.capacity a.boards.entries) a.followers.entries ∙ ap (option_map (held_at a.limits.capacity a.boards.entries)) at)
    (has_places a.limits (held_of a) c.self.invariant.0.kept.history c.args.who c.self.invariant.0.kept.stands c.plies.ensures.valid.most_plies)).0 in
    let t = c.take_for-taken.ensures.swapped in
    let some = some_due _ _ _ _ _ _ (sym c.in-Move.is ∙ t.3.2) in
    let q = ap length (due_is a.limits.capacity a.boards.entries f t.0 t.2) in
    subst (λ (o : Option (ℕ × Seated)). IfSome o (λ e. e.1.taken < 65535)) (sym c.in-Some.ensures.place) (omega (arith, all, some, q))

pub invariant_of-self : goal.invariant_of-self
invariant_of-self c =
    let a = c.self.inside in
    let f = c.in-Some.seated.now in
    let at = sym c.find.ensures.seated ∙ ap (option_map (λ p. p.1.now)) c.in-Some.is in
    let t = c.take_for-taken.ensures.swapped in (
      lives a.limits a.boards.entries c.take_for-taken.new.boards.entries a.followers.entries c.count_take.new.self.entries c.args.who f c.self.invariant.0 at c.take_for-taken.result t.0 t.1 t.2 t.3.0 t.3.1 t.3.2 t.4
          (counted c.args.who (slice_get a.followers.places c.in-Some.index) a.followers.entries c.count_take.new.self.entries f c.take_for-taken.result _ _ c.in-Some.ensures.place c.in-Move.is c.count_take.ensures.counted),
      rw (boards_counted a.boards.entries c.take_for-taken.new.boards.entries f.board t.0 t.1 t.2 t.4, c.take_for-taken.ensures.room) c.self.invariant.1,
    )

pub invariant_of-self-in_default-taken : goal.invariant_of-self-in_default-taken
invariant_of-self-in_default-taken c =
    let a = c.self.inside in
    let f = c.in-Some.seated.now in
    let at = sym c.find.ensures.seated ∙ ap (option_map (λ p. p.1.now)) c.in-Some.is in
    let t = c.take_for-taken.ensures.swapped in (
      lives a.limits a.boards.entries c.take_for-taken.new.boards.entries a.followers.entries a.followers.entries c.args.who f c.self.invariant.0 at c.take_for-taken.result t.0 t.1 t.2 t.3.0 t.3.1 t.3.2 t.4
          (uncounted c.args.who a.followers.entries f c.take_for-taken.result at c.in_default-taken.not-Move),
      rw (boards_counted a.boards.entries c.take_for-taken.new.boards.entries f.board t.0 t.1 t.2 t.4, c.take_for-taken.ensures.room) c.self.invariant.1,
    )

pub returns-clause-stands : goal.returns-clause-stands
returns-clause-stands c =
    let a = c.self.inside in
    let f = c.in-Some.seated.now in
    let at = sym c.find.ensures.seated ∙ ap (option_map (λ p. p.1.now)) c.in-Some.is in
    let t = c.take_for-taken.ensures.swapped in
    elim c.match-taken.branch [
      | in-Move w ↦ rw (w.self-is) (stands (held_of a) (held_by a.limits c.take_for-taken.new.boards.entries w.count_take.new.self.entries) _ _ c.self.invariant.0.kept _ (shown_is c.self.view_is)
          (goes a.limits a.boards.entries c.take_for-taken.new.boards.entries a.followers.entries w.count_take.new.self.entries c.args.who f c.self.invariant.0 at c.take_for-taken.result t.0 t.1 t.2 t.3.0 t.3.1 t.3.2 t.4
          (counted c.args.who (slice_get a.followers.places c.in-Some.index) a.followers.entries w.count_take.new.self.entries f c.take_for-taken.result _ _ c.in-Some.ensures.place w.in-Move.is w.count_take.ensures.counted)))
      | in_default-taken w ↦ rw (w.self-is) (stands (held_of a) (held_by a.limits c.take_for-taken.new.boards.entries a.followers.entries) _ _ c.self.invariant.0.kept _ (shown_is c.self.view_is)
          (goes a.limits a.boards.entries c.take_for-taken.new.boards.entries a.followers.entries a.followers.entries c.args.who f c.self.invariant.0 at c.take_for-taken.result t.0 t.1 t.2 t.3.0 t.3.1 t.3.2 t.4
          (uncounted c.args.who a.followers.entries f c.take_for-taken.result at w.in_default-taken.not-Move)))
    ]
