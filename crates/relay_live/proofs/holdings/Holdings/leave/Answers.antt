use Rattle.std.proofs.Common.{◌≡◌, sym, ap, subst, ◌∙◌, nat_eq, Some, None, option_map}
use Rattle.std.specs.Map.{lookup}
use Rattle.relay_core.specs.declared.reply.Account.{Account}
use Rattle.relay_core.specs.declared.reply.Reply.TheVariants.{Left}
use Rattle.relay_core.specs.declared.step.Step.TheVariants.{Leave}
use Rattle.relay_core.proofs.lemmas.Leaves.{leave_nobody}
use Rattle.relay_core.proofs.lemmas.Lists.{lookup-map}
use Rattle.relay_core.specs.Held.Stands.{Goes}
use Rattle.relay_core.proofs.lemmas.Standing.{shown_is, stands}
use Rattle.relay_live.specs.Live.{held_of, held_by, held_at, holders}
use Rattle.relay_live.proofs.Entries.{removed}
use Rattle.relay_live.proofs.Leaves.{goes, lives}
use Rattle.relay_live.proofs.Swaps.{boards_counted}
use Rattle.relay_live.proofs.holdings.Holdings.leave.Goals as goal

pub returns-in_default-clause-stands : goal.returns-in_default-clause-stands
returns-in_default-clause-stands c =
    let a = c.self.inside in
    let nobody : lookup (nat_eq c.args.who) a.followers.entries ≡ None = sym c.remove.ensures.value ∙ c.in_default.is in
    stands (held_of a) (held_by a.limits a.boards.entries c.remove.new.self.entries) _ _ c.self.invariant.0.kept _ (shown_is c.self.view_is)
    (leave_nobody (held_of a) (holders a.limits.capacity a.boards.entries c.remove.new.self.entries) c.args.who
    (sym (lookup-map (nat_eq c.args.who) (held_at a.limits.capacity a.boards.entries) a.followers.entries ∙ ap (option_map (held_at a.limits.capacity a.boards.entries)) nobody))
    (ap (holders a.limits.capacity a.boards.entries) c.in_default.ensures.none))

pub leave_for-requires-clause-seated : goal.leave_for-requires-clause-seated
leave_for-requires-clause-seated c =
    let a = c.self.inside in
    let f = c.in-Some.seated in
    let mine : lookup (nat_eq c.args.who) a.followers.entries ≡ Some f = sym c.remove.ensures.value ∙ c.in-Some.is in
    let m = removed (nat_eq c.args.who) a.followers.entries f mine in
    c.self.invariant.0.seated m.0 (m.1, f) m.2

pub leave_for-requires-clause-sound : goal.leave_for-requires-clause-sound
leave_for-requires-clause-sound c b there = (c.self.invariant.0.sound c.in-Some.seated.board b there, c.self.invariant.0.owns c.in-Some.seated.board b there)

pub invariant_of-self-2 : goal.invariant_of-self-2
invariant_of-self-2 c =
    let a = c.self.inside in
    let f = c.in-Some.seated in
    let mine : lookup (nat_eq c.args.who) a.followers.entries ≡ Some f = sym c.remove.ensures.value ∙ c.in-Some.is in
    let t = c.leave_for.ensures.swapped in (
      lives a.limits a.boards.entries c.leave_for.new.boards.entries a.followers.entries c.remove.new.self.entries c.args.who f c.self.invariant.0 mine
          t.0 t.1 t.2 t.3.0.0 t.3.0.1 t.3.0.2 t.3.1 t.4 c.remove.ensures.entries c.remove.ensures.updates,
      rw (boards_counted a.boards.entries c.leave_for.new.boards.entries f.board t.0 t.1 t.2 t.4, c.leave_for.ensures.room) c.self.invariant.1,
    )

pub returns-clause-stands : goal.returns-clause-stands
returns-clause-stands c =
    let a = c.self.inside in
    let f = c.in-Some.seated in
    let mine : lookup (nat_eq c.args.who) a.followers.entries ≡ Some f = sym c.remove.ensures.value ∙ c.in-Some.is in
    let t = c.leave_for.ensures.swapped in
    stands (held_of a) (held_by a.limits c.leave_for.new.boards.entries c.remove.new.self.entries) _ _ c.self.invariant.0.kept _ (shown_is c.self.view_is)
    (subst (λ (x : Account). Goes (held_of a) (held_by a.limits c.leave_for.new.boards.entries c.remove.new.self.entries) (Leave c.args.who) (Left x)) (sym (t.3.2 a.limits.capacity))
    (goes a.limits a.boards.entries c.leave_for.new.boards.entries a.followers.entries c.remove.new.self.entries c.args.who f c.self.invariant.0 mine
    t.0 t.1 t.2 t.3.0.0 t.3.0.1 t.3.0.2 t.3.1 t.4 c.remove.ensures.entries c.remove.ensures.updates))
