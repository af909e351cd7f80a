-- What is kept true of a service when something is done to a connection that follows.
use Rattle.std.proofs.Common.{◌≡◌, ℕ, Bool, true, false, true≢false, is_some, Option, Some, Result, Ok, Err, IfOk, OnErr, OnOk, sym, ap, ◌∙◌, subst, refl}
use Rattle.std.specs.Prelude.{MatchOption}
use Rattle.std.specs.declared.alloc.AllocError.{AllocError}
use Rattle.std.proofs.lemmas.Option.{same_Some}
use Rattle.relay_hall.proofs.lemmas.Staying.{same_stay}
use Rattle.relay_service.specs.Following.Boards.{IsIn}
use Rattle.relay_service.specs.Following.Record.{ConnectionRecord, follows}
use Rattle.relay_service.specs.declared.connection.Connection.{Connection}
use Rattle.relay_service.specs.declared.connection.Connection.TheVariants.{Operator, Follower}
use Rattle.relay_service.specs.Calls.{IfFollows, PushFailsAt, PushFailsTo, PushesAt, PushesTo, Replaces, Serves}
use Rattle.relay_service.specs.Inner.{IsJoined, IsOperatorOf, NamesNoneYet, OwnsOpened}
use Rattle.relay_service.specs.Record.{ServiceRecord, connection_at, follower_at, follower_in, owner_in}
use Rattle.relay_service.proofs.Doing.{match_some}
use Rattle.relay_service.proofs.Followers.{Keeps}
use Rattle.relay_service.proofs.Joining.{joined_after}
use Rattle.relay_service.proofs.Keeping.{IsKept}
use Rattle.relay_service.proofs.Led.{led_with}
use Rattle.relay_service.proofs.Ordering.{ordered_with}

pub kept_in : (s : ServiceRecord) (number : ℕ) (P : ConnectionRecord → ConnectionRecord → Type 0) (t : ServiceRecord) → IsKept s → (v : Serves s number P t) → IsIn s.hall.floor v.after.delivery
    → v.after.delivery.opening ≡ v.before.delivery.opening → IsKept t
kept_in s number P t k v follows opening =
    let there = k.led.there number (Follower v.before v.who v.is_present) v.there in
    subst IsKept (sym v.rest) (record {
      led = led_with s number (Some (Follower v.after v.who v.is_present)) t.connections k.led v.connections
          (λ d is. (k.led.known number (Follower v.before v.who v.is_present) v.there, subst (IsOperatorOf (k.led.peers number)) (same_Some _ _ is) (there.0, there.1, there.2 ∙ sym opening)));
      ordered = ordered_with s number (Some (Follower v.after v.who v.is_present)) t.connections k.ordered v.connections (λ who is. ap owner_in v.there ∙ is)
          (λ d is. subst NamesNoneYet (same_Some _ _ is) tt) (λ d is. subst (OwnsOpened s.hall.floor) (same_Some _ _ is) tt);
      joined = joined_after s.hall.floor s.hall.floor number (Some (Follower v.after v.who v.is_present)) s.connections t.connections (same_stay s.hall.floor s.hall.floor refl) k.joined v.connections
          (λ d is. subst (IsJoined s.hall.floor) (same_Some _ _ is) follows);
    })

pub kept_serving : (s : ServiceRecord) (number : ℕ) (P : ConnectionRecord → ConnectionRecord → Type 0) (t : ServiceRecord) → IsKept s → (v : Serves s number P t) → Keeps v.before.delivery v.after.delivery → IsKept t
kept_serving s number P t k v keeps = kept_in s number P t k v (keeps.0 s.hall.floor (k.joined number (Follower v.before v.who v.is_present) v.there)) keeps.1

-- ---- What a call did to it, from what is told of the connection alone.

-- the connection of a number is another one then, and nothing else has changed
pub record IsChanged (s : ServiceRecord) (number : ℕ) (before after : Connection) (t : ServiceRecord) : Type 0 where
  pub there : connection_at s number ≡ Some before
  pub follows : is_some (follower_at s number) ≡ true
  pub connections : Replaces number (Some after) s.connections t.connections
  pub rest : t ≡ record s { connections = t.connections }

module _ (s : ServiceRecord) (number : ℕ) (before after : Connection) (t : ServiceRecord) (c : IsChanged s number before after t) where
  pub serves : (P : ConnectionRecord → ConnectionRecord → Type 0) → IfFollows before P after → Serves s number P t
  serves P told = by before c.there (sym (ap (λ (o : Option Connection). is_some (follower_in o)) c.there) ∙ c.follows) told
    where
      by : (b : Connection) → connection_at s number ≡ Some b → is_some (follower_in (Some b)) ≡ true → IfFollows b P after → Serves s number P t
      by (Operator d here) at is told = absurd (true≢false (sym is))
      by (Follower f who here) at is (g, does, now) = record {
        before = f;
        after = g;
        who = who;
        is_present = here;
        there = at;
        does = does;
        connections = subst (λ (d : Connection). Replaces number (Some d) s.connections t.connections) now c.connections;
        rest = c.rest;
      }

  pub serves_ok : {A : Type 0} (r : Result A AllocError) (P : ConnectionRecord → ConnectionRecord → Type 0) → OnOk r (IfFollows before P after) → OnOk r (Serves s number P t)
  serves_ok (Ok x) P told = serves P told
  serves_ok (Err e) P told = tt

  pub serves_some : {A : Type 0} (r : Result A AllocError) (P : A → ConnectionRecord → ConnectionRecord → Type 0) → IfOk r (λ x. IfFollows before (P x) after) → IfOk r (λ x. Serves s number (P x) t)
  serves_some (Ok x) P told = serves (P x) told
  serves_some (Err e) P told = tt

  pub serves_err : {A : Type 0} (r : Result A AllocError) (P : ConnectionRecord → ConnectionRecord → Type 0) → OnErr r (IfFollows before P after) → OnErr r (Serves s number P t)
  serves_err (Ok x) P told = tt
  serves_err (Err e) P told = serves P told

  -- it is kept true if the connection stays at its board, or has not changed
  pub kept_if : (P : ConnectionRecord → ConnectionRecord → Type 0) → IsKept s → ((f g : ConnectionRecord) → P f g → Keeps f.delivery g.delivery) → IfFollows before P after → IsKept t
  kept_if P k keeps told = let v = serves P told in kept_serving s number P t k v (keeps v.before v.after v.does)

  itself : after ≡ before → IfFollows before (λ f g. g ≡ f) after
  itself same = by before same
    where
      by : (b : Connection) → after ≡ b → IfFollows b (λ f g. g ≡ f) after
      by (Operator d here) is = tt
      by (Follower f who here) is = (f, refl, is)

  pub kept_same : IsKept s → after ≡ before → IsKept t
  kept_same k same = kept_if (λ f g. g ≡ f) k (λ f g is. ((λ h in_it. subst (λ (x : ConnectionRecord). IsIn h x.delivery) (sym is) in_it), ap (λ (x : ConnectionRecord). x.delivery.opening) is)) (itself same)

  pub kept_or : {A : Type 0} (r : Result A AllocError) (P : ConnectionRecord → ConnectionRecord → Type 0) → IsKept s → ((f g : ConnectionRecord) → P f g → Keeps f.delivery g.delivery)
      → OnOk r (IfFollows before P after) → OnErr r (after ≡ before) → IsKept t
  kept_or (Ok x) P k keeps ok err = kept_if P k keeps ok
  kept_or (Err e) P k keeps ok err = kept_same k err

  pub kept_either : {A : Type 0} (r : Result A AllocError) (P : A → ConnectionRecord → ConnectionRecord → Type 0) (Q : ConnectionRecord → ConnectionRecord → Type 0) → IsKept s
      → ((x : A) (f g : ConnectionRecord) → P x f g → Keeps f.delivery g.delivery) → ((f g : ConnectionRecord) → Q f g → Keeps f.delivery g.delivery)
      → IfOk r (λ x. IfFollows before (P x) after) → OnErr r (IfFollows before Q after) → IsKept t
  kept_either (Ok x) P Q k ok_keeps err_keeps ok err = kept_if (P x) k (ok_keeps x) ok
  kept_either (Err e) P Q k ok_keeps err_keeps ok err = kept_if Q k err_keeps err

  -- the same of one that is known to stay at its board
  at_board : (P : ConnectionRecord → ConnectionRecord → Type 0) → IsKept s → ((f g : ConnectionRecord) → P f g → g.delivery.opening ≡ f.delivery.opening) → IsJoined s.hall.floor after
      → IfFollows before P after → IsKept t
  at_board P k openings joined told = by before c.there (sym (ap (λ (o : Option Connection). is_some (follower_in o)) c.there) ∙ c.follows) told
    where
      by : (b : Connection) → connection_at s number ≡ Some b → is_some (follower_in (Some b)) ≡ true → IfFollows b P after → IsKept t
      by (Operator d here) at is told = absurd (true≢false (sym is))
      by (Follower f who here) at is (g, does, now) =
          let v : Serves s number P t = record {
            before = f;
            after = g;
            who = who;
            is_present = here;
            there = at;
            does = does;
            connections = subst (λ (d : Connection). Replaces number (Some d) s.connections t.connections) now c.connections;
            rest = c.rest;
          } in
          kept_in s number P t k v (subst (IsJoined s.hall.floor) now joined) (openings f g does)

  pub kept_pushed : (r : Result Bool AllocError) (most : ℕ) (is_ending : Bool) → IsKept s → IsJoined s.hall.floor after
      → IfOk r (λ more. IfFollows before (λ f g. PushesTo (follows f.delivery.stage) s.hall.floor most is_ending more f g) after) → OnErr r (IfFollows before (PushFailsTo most) after) → IsKept t
  kept_pushed (Ok more) most is_ending k joined ok err =
      at_board (λ f g. PushesTo (follows f.delivery.stage) s.hall.floor most is_ending more f g) k (λ f g does. by (follows f.delivery.stage) f g does) joined ok
    where
      by : (b : Bool) (f g : ConnectionRecord) → PushesTo b s.hall.floor most is_ending more f g → g.delivery.opening ≡ f.delivery.opening
      by true f g (is, pushes) = pushes.delivers.stays.opening
      by false f g (none, same) = ap (λ (x : ConnectionRecord). x.delivery.opening) same
  kept_pushed (Err e) most is_ending k joined ok err = at_board (PushFailsTo most) k (λ f g does. does.2.delivers.stays.opening) joined err

-- ---- Whether it follows.

pub at_follower : (s : ServiceRecord) (number : ℕ) (N R : Type 0) → is_some (follower_at s number) ≡ true → R → MatchOption (follower_at s number) N (λ f. R)
at_follower s number N R is r = match_some (follower_at s number) N R is r

pub pushed_ok : (s : ServiceRecord) (number most : ℕ) (t : ServiceRecord) (r : Result Bool AllocError) → is_some (follower_at s number) ≡ true
    → IfOk r (λ more. Serves s number (λ f g. PushesTo (follows f.delivery.stage) s.hall.floor most s.is_ending more f g) t) → IfOk r (λ more. PushesAt s number most more t)
pushed_ok s number most t (Ok more) is serves = at_follower s number _ _ is serves
pushed_ok s number most t (Err e) is serves = tt

pub pushed_err : (s : ServiceRecord) (number most : ℕ) (t : ServiceRecord) (r : Result Bool AllocError) → is_some (follower_at s number) ≡ true → OnErr r (Serves s number (PushFailsTo most) t)
    → OnErr r (PushFailsAt s number most t)
pushed_err s number most t (Ok more) is serves = tt
pushed_err s number most t (Err e) is serves = at_follower s number _ _ is serves
