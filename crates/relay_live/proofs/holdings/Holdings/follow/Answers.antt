use Rattle.std.proofs.Common.{◌≡◌, ◌-◌, ◌≤◌, ℕ, Option, sym, refl, ap, subst, ◌∙◌, length, position, nat_eq, is_some, option_map, unwrap_or, Bool, true, false, None, Some, Ok, Err, ⊎_elim, arith}
use Rattle.std.specs.Prelude.{IfSome}
use Rattle.std.specs.Map.{keys_of, lookup}
use Rattle.std.proofs.lemmas.Option.{none-some}
use Rattle.c960_game.proofs.lemmas.LogFacts.{position_made}
use Rattle.live_board.specs.declared.setup.BoardSetup.{BoardSetup}
use Rattle.live_board.specs.TableWriter.{NoneVacantBelow}
use Rattle.c960_game.specs.declared.refusal.Refusal.TheVariants.{FollowerExists, OutOfMemory}
use Rattle.relay_core.specs.declared.reply.Reply.TheVariants.{Following, Refused}
use Rattle.relay_core.specs.declared.step.Step.TheVariants.{Follow}
use Rattle.relay_core.specs.Name.{same_name}
use Rattle.relay_core.specs.BoardAnswers.{place_in}
use Rattle.relay_core.specs.Held.Stands.{Goes}
use Rattle.relay_core.specs.Refusals.{first_refusal, follow_grounds}
use Rattle.relay_core.proofs.lemmas.Followed.{follow_no_memory, follow_refused, grounds}
use Rattle.relay_core.proofs.lemmas.Refusals.{followed_where}
use Rattle.relay_core.proofs.lemmas.Standing.{shown_is, stands, stays}
use Rattle.relay_live.specs.declared.seated.Seated.{Seated}
use Rattle.relay_live.specs.Live.{held_of, held_by, game, holders, IsLive}
use Rattle.relay_live.proofs.Follows.{found_vacant, game_found, goes, joins, lives, nowhere, told}
use Rattle.relay_live.proofs.Maps.{found_at}
use Rattle.relay_live.proofs.Swaps.{boards_counted}
use Rattle.relay_live.proofs.holdings.Holdings.follow.Goals.{After-may_follow, After-join}
use Rattle.relay_live.proofs.holdings.Holdings.follow.Goals as goal

-- the board that was found, and its game in the record
there : (c : After-may_follow) → lookup (same_name c.args.board) c.self.inside.boards.entries ≡ Some c.in-Some.live.now
there c = sym c.get_full.ensures.value ∙ ap (option_map (λ p. p.2.now)) c.in-Some.is

-- and its index
stood_at : (c : After-may_follow) → position (same_name c.args.board) (keys_of c.self.inside.boards.entries) ≡ Some c.in-Some.index
stood_at c = sym c.get_full.ensures.index ∙ ap (option_map (λ p. p.0)) c.in-Some.is

found : (c : After-may_follow) → lookup (same_name c.args.board) (held_of c.self.inside).boards ≡ Some (game c.in-Some.live.now)
found c = let a = c.self.inside in game_found a.limits a.boards.entries a.followers.entries c.args.who c.args.board c.args.from c.in-Some.live.now (there c)

-- the place at which the follower would join
place : (c : After-may_follow) → c.unwrap_or-joined.result ≡ place_in c.args.from (game c.in-Some.live.now)
place c = c.unwrap_or-joined.ensures ∙ ap (unwrap_or c.args.from) c.len-len.ensures.value

-- the grounds by what the relay keeps are those of its record
kept_grounds : (c : After-may_follow) (follows : Bool) → is_some (lookup (nat_eq c.args.who) c.self.inside.followers.entries) ≡ follows
    → first_refusal (follow_grounds follows c.len-len.result c.unwrap_or-joined.result c.capacity-capacity.result c.is_none.result)
    ≡ first_refusal (grounds (held_of c.self.inside) c.args.who c.args.board c.args.from (game c.in-Some.live.now) (found c))
kept_grounds c follows is =
    let a = c.self.inside in
    ap (λ t. first_refusal (follow_grounds t c.len-len.result c.unwrap_or-joined.result c.capacity-capacity.result c.is_none.result)) (sym is)
    ∙ told a.limits a.boards.entries a.followers.entries c.args.who c.args.board c.args.from c.in-Some.live.now (there c) c.self.invariant.0
    c.len-len.result c.unwrap_or-joined.result c.capacity-capacity.result c.is_none.result c.vacant_slot-vacant.result
    c.is_none.ensures c.vacant_slot-vacant.ensures.slot c.len-len.ensures.value (place c) c.capacity-capacity.ensures.value

-- the answer, for a spectator that does not follow
held_grounds : (c : After-may_follow) → is_some (lookup (nat_eq c.args.who) c.self.inside.followers.entries) ≡ false
    → c.may_follow.result ≡ first_refusal (grounds (held_of c.self.inside) c.args.who c.args.board c.args.from (game c.in-Some.live.now) (found c))
held_grounds c nobody = c.may_follow.ensures ∙ kept_grounds c false nobody

-- what holds of the place if it is granted
granted : (c : After-may_follow) (u : Unit {0}) → c.may_follow.result ≡ Ok u
    → (c.unwrap_or-joined.result ≤ length c.in-Some.live.now.knows.log)
    × (length c.in-Some.live.now.knows.log - c.unwrap_or-joined.result ≤ c.self.inside.limits.capacity)
granted c u is =
    let w = followed_where false c.len-len.result c.unwrap_or-joined.result c.capacity-capacity.result c.is_none.result u (sym is ∙ c.may_follow.ensures) in (
      omega (arith, w.1, c.len-len.ensures.value),
      omega (arith, w.2, c.len-len.ensures.value, c.capacity-capacity.ensures.value),
    )

-- what the follower's joining does
joined : (c : After-join) → Goes (held_of c.self.inside) (held_by c.self.inside.limits c.join.new.boards.entries c.insert.new.self.entries) (Follow c.args.who c.args.board c.args.from) (Following c.unwrap_or-joined.result c.in-Some-position_at.position)
    × IsLive c.self.inside.limits c.join.new.boards.entries c.insert.new.self.entries
    × (length c.join.new.boards.entries ≡ length c.self.inside.boards.entries)
joined c =
    let a = c.self.inside in
    let b = c.in-Some.live.now in
    let m = c.before.before.before.before.before.before.before.before.before.before.before in
    let u = c.in_default-may_follow.field-0 in
    let w = granted m u c.in_default-may_follow.is in
    let seat = c.in_default-insert.ensures.ok in
    let fine = sym c.in_default-may_follow.is ∙ held_grounds m (ap is_some seat.0) in
    let vacant = (found_vacant b.knows c.vacant_slot-vacant.result c.in-Some-vacant.slot c.in-Some-vacant.is c.vacant_slot-vacant.ensures.slot).1 in
    let s : Seated = record { board = c.of.result; index = c.in-Some.index; slot = c.in-Some-vacant.slot; joined = c.unwrap_or-joined.result; taken = 0 } in
    let t = joins c.args.board a.boards.entries c.join.new.boards.entries c.in-Some-vacant.slot c.unwrap_or-joined.result b (there m) (c.join.ensures.swapped c.args.board (stood_at m)) in
    let stood = sym c.in-Some-position_at.is ∙ c.position_at.ensures.value in (
      goes a.limits a.boards.entries c.join.new.boards.entries a.followers.entries c.insert.new.self.entries c.args.who c.args.board c.in-Some-vacant.slot c.unwrap_or-joined.result c.self.invariant.0 seat.0
          b t.0 (there m) vacant w.0 t.1 t.2 t.3 s c.of.ensures (stood_at m) refl refl refl seat.1 c.args.from c.in-Some-position_at.position u fine (place m) stood,
      lives a.limits a.boards.entries c.join.new.boards.entries a.followers.entries c.insert.new.self.entries c.args.who c.args.board c.in-Some-vacant.slot c.unwrap_or-joined.result c.self.invariant.0 seat.0
          b t.0 (there m) vacant w.0 t.1 t.2 t.3 s c.of.ensures (stood_at m) refl refl refl seat.1 c.args.from c.in-Some-position_at.position u fine (place m) stood,
      boards_counted a.boards.entries c.join.new.boards.entries c.args.board b t.0 (there m) t.3,
    )

pub returns-in_default-clause-stands : goal.returns-in_default-clause-stands
returns-in_default-clause-stands c =
    let a = c.self.inside in
    stays (held_of a) _ _ c.self.invariant.0.kept _ (shown_is c.self.view_is)
    (nowhere a.limits a.boards.entries a.followers.entries c.args.who c.args.board c.args.from (sym c.get_full.ensures.value ∙ ap (option_map (λ p. p.2.now)) c.in_default.is))

pub returns-then-contains-clause-stands : goal.returns-then-contains-clause-stands
returns-then-contains-clause-stands c =
    let a = c.self.inside in
    let m = (goal.at.returns-then-contains-clause-stands c).After-may_follow in
    stays (held_of a) _ _ c.self.invariant.0.kept _ (shown_is c.self.view_is)
    (follow_refused (held_of a) c.args.who c.args.board c.args.from (game c.in-Some.live.now) (found m) FollowerExists (kept_grounds m true (sym c.contains.ensures ∙ c.if-contains.true)))

pub returns-in-Err-clause-stands : goal.returns-in-Err-clause-stands
returns-in-Err-clause-stands c =
    let a = c.self.inside in
    let m = (goal.at.returns-in-Err-clause-stands c).After-may_follow in
    stays (held_of a) _ _ c.self.invariant.0.kept _ (shown_is c.self.view_is)
    (follow_refused (held_of a) c.args.who c.args.board c.args.from (game c.in-Some.live.now) (found m) c.in-Err.refusal
    (sym c.in-Err.is ∙ held_grounds m (sym c.contains.ensures ∙ c.if-contains.false)))

-- a spectator that is not seated: it follows already, or there is no memory for it
pub returns-in-Err-insert-clause-stands : goal.returns-in-Err-insert-clause-stands
returns-in-Err-insert-clause-stands c =
    let a = c.self.inside in
    let m = (goal.at.returns-in-Err-insert-clause-stands c).After-may_follow in
    let now = c.insert.new.self.entries in
    let same = c.in-Err-insert.ensures.err in
    let r = c.in-Err-insert.refusal in
    let who = c.args.who in
    let u = c.in_default-may_follow.field-0 in
    stands (held_of a) (held_by a.limits a.boards.entries now) _ _ c.self.invariant.0.kept _ (shown_is c.self.view_is)
    (⊎_elim
    (λ (x : (is_some (lookup (nat_eq who) a.followers.entries) ≡ true) × (r ≡ FollowerExists)).
    subst (λ fs. Goes (held_of a) (held_by a.limits a.boards.entries fs) (Follow who c.args.board c.args.from) (Refused r)) (sym same)
    (follow_refused (held_of a) who c.args.board c.args.from (game c.in-Some.live.now) (found m) r (ap Err x.1 ∙ kept_grounds m true x.0)))
    (λ (x : (lookup (nat_eq who) a.followers.entries ≡ None) × (r ≡ OutOfMemory)).
    subst (λ y. Goes (held_of a) (held_by a.limits a.boards.entries now) (Follow who c.args.board c.args.from) (Refused y)) (sym x.1)
    (follow_no_memory (held_of a) who c.args.board c.args.from (game c.in-Some.live.now) (found m) u (sym c.in_default-may_follow.is ∙ held_grounds m (ap is_some x.0))
    (holders a.limits.capacity a.boards.entries now) (ap (holders a.limits.capacity a.boards.entries) same)))
    c.in-Err-insert.ensures.ground)

pub unreachable-requires-in_default-position_at : goal.unreachable-requires-in_default-position_at
unreachable-requires-in_default-position_at c =
    let w = granted (goal.at.unreachable-requires-in_default-position_at c).After-may_follow c.in_default-may_follow.field-0 c.in_default-may_follow.is in
    none-some _ (sym c.in_default-position_at.is ∙ c.position_at.ensures.value
    ∙ position_made c.in-Some.live.now.knows.setup.start c.in-Some.live.now.knows.log c.unwrap_or-joined.result w.0)

pub join-requires : goal.join-requires
join-requires c =
    let m = (goal.at.join-requires c).After-may_follow in
    let w = granted m c.in_default-may_follow.field-0 c.in_default-may_follow.is in
    let b = c.in-Some.live.now in
    let v = found_vacant b.knows c.vacant_slot-vacant.result c.in-Some-vacant.slot c.in-Some-vacant.is c.vacant_slot-vacant.ensures.slot in
    let capacity : b.knows.setup.limits.capacity ≡ c.self.inside.limits.capacity = ap (λ (s : BoardSetup). s.limits.capacity) (c.self.invariant.0.setups c.args.board b (there m)) in
    let first = subst (λ (o : Option ℕ). IfSome o (λ k. NoneVacantBelow k b.knows)) c.in-Some-vacant.is c.vacant_slot-vacant.ensures.first in
    let at = sym (found_at (same_name c.args.board) c.self.inside.boards.entries c.in-Some.index (stood_at m)) ∙ there m in
    (b, at, v.0, v.1, first, w.0, omega (arith, capacity, w.0, w.1))

pub invariant_of-self-2 : goal.invariant_of-self-2
invariant_of-self-2 c =
    let t = joined (goal.at.invariant_of-self-2 c).After-join in
    (t.1, rw (t.2, c.join.ensures.room) c.self.invariant.1)

pub returns-clause-stands : goal.returns-clause-stands
returns-clause-stands c =
    let a = c.self.inside in
    stands (held_of a) (held_by a.limits c.join.new.boards.entries c.insert.new.self.entries) _ _ c.self.invariant.0.kept _ (shown_is c.self.view_is)
    (joined (goal.at.returns-clause-stands c).After-join).0
