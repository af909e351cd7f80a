-- One more turn leads on.
use Rattle.std.proofs.Common.{◌≡◌, ◌≤◌, ◌<◌, ◌+◌, ℕ, nat_eq, List, [], ◌∷◌, ◌++◌, Bool, false, cond, Option, Some, None, refl, sym, ap, ◌∙◌, subst, arith}
use Rattle.std.proofs.lemmas.Option.{none-some, same_Some}
use Rattle.c960_game.specs.Limits.{LimitNumbers}
use Rattle.relay_hall.specs.Record.{HallRecord}
use Rattle.relay_hall.specs.Runs.{HallEvent, HallStep, HallTold, Silent}
use Rattle.relay_service.specs.Calling.Answering.{OperatorRecord, newcomer}
use Rattle.relay_service.specs.Calling.Connections.{ConnectionsRecord, IsTaken, OthersStay, Turn, Turns, deeds_of, happens, passes}
use Rattle.relay_service.specs.Calling.Running.{Deed, IsDone, IsServed}
use Rattle.relay_service.specs.declared.connection.Connection.{Connection}
use Rattle.relay_service.specs.declared.connection.Connection.TheVariants.{Operator, Follower}
use Rattle.relay_service.proofs.FollowingFacts.Shown.{shown}
use Rattle.relay_service.specs.Following.Record.{ConnectionRecord}
use Rattle.relay_service.specs.Following.Served.{IsServed as IsDelivered}
use Rattle.relay_service.specs.Calls.{Does, IsServedAt, IsServedIn, Passes, Replaces}
use Rattle.relay_service.specs.Inner.{AreJoined, IsLedTo, IsOperatorOf, beginning}
use Rattle.relay_service.specs.Record.{ServiceRecord, begun, connection_at, follower_at, follower_in}
use Rattle.relay_service.proofs.Becoming.{operator_becomes}
use Rattle.relay_service.proofs.Connections.{each_after, same_number, unlike}

-- ---- One turn more.

pub turns_then : (f : ConnectionsRecord) (xs : List Turn) (mid : ConnectionsRecord) (x : Turn) (g : ConnectionsRecord) → Turns f xs mid → IsTaken mid x g → Turns f (xs ++ x ∷ []) g
turns_then f [] mid x g is taken = (g, subst (λ (m : ConnectionsRecord). IsTaken m x g) is taken, refl)
turns_then f (y ∷ ys) mid x g (m, t, ts) taken = (m, t, turns_then m ys mid x g ts taken)

pub others_deeds : (i j : ℕ) (x : Deed) → nat_eq j i ≡ false → (xs : List Turn) → deeds_of i (xs ++ happens j x ∷ []) ≡ deeds_of i xs
others_deeds i j x other [] = ap (λ (b : Bool). cond b (x ∷ []) []) other
others_deeds i j x other (happens k y ∷ ys) = ap (λ (ds : List Deed). cond (nat_eq k i) (y ∷ ds) ds) (others_deeds i j x other ys)
others_deeds i j x other (passes e told ∷ ys) = others_deeds i j x other ys

pub others_pass : (i : ℕ) (e : HallEvent) (told : HallTold) (xs : List Turn) → deeds_of i (xs ++ passes e told ∷ []) ≡ deeds_of i xs
others_pass i e told [] = refl
others_pass i e told (happens k y ∷ ys) = ap (λ (ds : List Deed). cond (nat_eq k i) (y ∷ ds) ds) (others_pass i e told ys)
others_pass i e told (passes f told' ∷ ys) = others_pass i e told ys

-- ---- At first.

pub led_at_first : (limits : LimitNumbers) (grace : ℕ) (takes_keys : Bool) → IsLedTo (begun limits grace takes_keys)
led_at_first limits grace takes_keys = record {
  peers = λ i. newcomer i takes_keys;
  run = refl;
  there = λ i c at. absurd (none-some c at);
  known = λ i c at. absurd (none-some c at);
  yet = λ i more. refl;
  unused = λ i more. refl;
}

-- ---- What is done to a connection.

-- one connection in another's place
abbrev put : (ℕ → OperatorRecord) → ℕ → OperatorRecord → ℕ → OperatorRecord
put f i c j = cond (nat_eq i j) c (f j)

pub led_on : (s : ServiceRecord) (number : ℕ) (x : Deed) (t : ServiceRecord) → IsLedTo s → Does s number x t → IsLedTo t
led_on s number x t l d =
    let u : ServiceRecord = record s { hall = t.hall; connections = t.connections; turns = s.turns ++ happens number x ∷ [] } in
    let g : ℕ → OperatorRecord = put l.peers number d.does.then in
    let below : number < s.next = l.known number d.before d.there in
    let mine : g number ≡ d.does.then = ap (λ (b : Bool). cond b d.does.then (l.peers number)) (same_number number) in
    let theirs : (j : ℕ) → nat_eq number j ≡ false → g j ≡ l.peers j = λ j other. ap (λ (b : Bool). cond b d.does.then (l.peers j)) other in
    let own : l.peers number ≡ d.does.connection = subst (IsOperatorOf (l.peers number)) d.does.was (l.there number d.before d.there) in
    let was : IsDone (l.peers number) x d.does.then = subst (λ (c : OperatorRecord). IsDone c x d.does.then) (sym own) d.does.done in
    let done : IsDone (l.peers number) x (g number) = subst (λ (c : OperatorRecord). IsDone (l.peers number) x c) (sym mine) was in
    let is_so : IsOperatorOf d.does.then d.after =
    subst (IsOperatorOf d.does.then) (sym d.does.is) (operator_becomes d.does.connection x d.does.then d.does.is_present d.does.done) in
    let new : IsOperatorOf (g number) d.after = subst (λ (e : OperatorRecord). IsOperatorOf e d.after) (sym mine) is_so in
    let others : OthersStay number l.peers g = theirs in
    let is : IsLedTo u = record {
      peers = g;
      run = turns_then (beginning s.limits s.grace s.takes_keys) s.turns (record { hall = s.hall; peers = l.peers }) (happens number x)
          (record { hall = t.hall; peers = g }) l.run (done, others, d.hall);
      there = each_after (λ i c. IsOperatorOf (g i) c) number (Some d.after) s.connections t.connections d.connections
          (λ c is. subst (IsOperatorOf (g number)) (same_Some _ _ is) new)
          (λ i c other at. subst (λ (e : OperatorRecord). IsOperatorOf e c) (sym (theirs i other)) (l.there i c at));
      known = each_after (λ i c. i < s.next) number (Some d.after) s.connections t.connections d.connections (λ c is. below) (λ i c other at. l.known i c at);
      yet = λ i more. ap (λ (b : Bool). cond b d.does.then (l.peers i)) (unlike number i (less number s.next i below more)) ∙ l.yet i more;
      unused = λ i more. others_deeds i number x (unlike number i (less number s.next i below more)) s.turns ∙ l.unused i more;
    } in
    subst IsLedTo (sym d.rest) is
  where
    less : (a b c : ℕ) → a < b → b ≤ c → a < c
    less a b c h k = omega (arith, h, k)

-- ---- What passes, and which connections there are.

abbrev pub led_passed : (s : ServiceRecord) (e : HallEvent) (k : HallRecord) → IsLedTo s → HallStep s.hall e Silent k → IsLedTo (record s { hall = k; turns = s.turns ++ passes e Silent ∷ [] })
led_passed s e k l step = record {
  peers = l.peers;
  run = turns_then (beginning s.limits s.grace s.takes_keys) s.turns (record { hall = s.hall; peers = l.peers }) (passes e Silent)
      (record { hall = k; peers = l.peers }) l.run (step, refl);
  there = l.there;
  known = l.known;
  yet = l.yet;
  unused = λ i more. others_pass i e Silent s.turns ∙ l.unused i more;
}

pub led_by_pass : (s : ServiceRecord) (e : HallEvent) (t : ServiceRecord) → IsLedTo s → Passes s e t → IsLedTo t
led_by_pass s e t l p = subst IsLedTo (sym p.rest) (led_passed s e t.hall l p.step)

pub below_next : (i next : ℕ) → i < next → i < next + 1
below_next i next h = omega (arith, h)

pub beyond_next : (i next : ℕ) → next + 1 ≤ i → next ≤ i
beyond_next i next h = omega (arith, h)

-- one number more is in use
abbrev pub led_to_next : (s : ServiceRecord) → IsLedTo s → IsLedTo (record s { next = s.next + 1 })
led_to_next s l = record {
  peers = l.peers;
  run = l.run;
  there = l.there;
  known = λ i c at. below_next i s.next (l.known i c at);
  yet = λ i later. l.yet i (beyond_next i s.next later);
  unused = λ i later. l.unused i (beyond_next i s.next later);
}

-- another connection has a number, or none
pub led_with : (s : ServiceRecord) (number : ℕ) (c : Option Connection) (connections : List (ℕ × Connection)) (l : IsLedTo s) → Replaces number c s.connections connections
    → ((d : Connection) → c ≡ Some d → (number < s.next) × IsOperatorOf (l.peers number) d) → IsLedTo (record s { connections = connections })
led_with s number c connections l replaced new = record {
  peers = l.peers;
  run = l.run;
  there = each_after (λ i d. IsOperatorOf (l.peers i) d) number c s.connections connections replaced (λ d is. (new d is).1) (λ i d other at. l.there i d at);
  known = each_after (λ i d. i < s.next) number c s.connections connections replaced (λ d is. (new d is).0) (λ i d other at. l.known i d at);
  yet = l.yet;
  unused = l.unused;
}

pub led_without : (s : ServiceRecord) (number : ℕ) (connections : List (ℕ × Connection)) → IsLedTo s → Replaces number None s.connections connections → IsLedTo (record s { connections = connections })
led_without s number connections l gone = led_with s number None connections l gone (λ d is. absurd (none-some d is))

-- ---- What each is sent.

pub no_follower : (o : Option ConnectionRecord) → o ≡ None → (f : ConnectionRecord) → o ≡ Some f → IsDelivered f.delivery
no_follower o none f is = absurd (none-some f (sym none ∙ is))

pub one_follower : (o : Option ConnectionRecord) (g : ConnectionRecord) → o ≡ Some g → IsDelivered g.delivery → (f : ConnectionRecord) → o ≡ Some f → IsDelivered f.delivery
one_follower o g is delivered f at = subst (λ (h : ConnectionRecord). IsDelivered h.delivery) (same_Some _ _ (sym is ∙ at)) delivered

pub served_at : (s : ServiceRecord) (number : ℕ) → IsLedTo s → AreJoined s
    → ((f : ConnectionsRecord) (turns : List Turn) (g : ConnectionsRecord) → Turns f turns g → (i : ℕ) (opener : ℕ) (takes_keys : Bool) → f.peers i ≡ newcomer opener takes_keys
    → IsServed opener takes_keys (deeds_of i turns) (g.peers i))
    → ((f : ConnectionRecord) → follower_at s number ≡ Some f → IsDelivered f.delivery)
    → IsServedAt s number
served_at s number l joined law delivered = by (connection_at s number) refl
  where
    served : IsServed number s.takes_keys (deeds_of number s.turns) (l.peers number)
    served = law (beginning s.limits s.grace s.takes_keys) s.turns (record { hall = s.hall; peers = l.peers }) l.run number number s.takes_keys refl

    by : (o : Option Connection) → connection_at s number ≡ o → IsServedIn s number o
    by None at = tt
    by (Some (Follower f who here)) at =
        let t = l.there number (Follower f who here) at in (
          record { connection = l.peers number; served = served; handed = t.1; due = t.2 },
          shown s.hall.floor f.delivery (delivered f (ap follower_in at)) (joined number (Follower f who here) at),
        )
    by (Some (Operator c here)) at =
        subst (λ (d : OperatorRecord). IsServed number s.takes_keys (deeds_of number s.turns) d) (l.there number (Operator c here) at) served
