-- One more turn leaves the run of the hall orderly.
use Rattle.std.proofs.Common.{◌≡◌, ◌≤◌, ◌<◌, ◌+◌, ◌-◌, ℕ, nat_eq, List, [], ◌∷◌, ◌++◌, Bool, true, false, true≢false, ◌&&◌, is_none, cond, Option, Some, None, refl, sym, ap, ◌∙◌, subst, arith, append-nil}
use Rattle.std.proofs.lemmas.Bool.{eqb-true}
use Rattle.std.proofs.lemmas.Option.{none-some, same_Some}
use Rattle.std.specs.Map.{lookup, remove_entry}
use Rattle.c960_game.specs.Limits.{LimitNumbers}
use Rattle.relay_core.specs.declared.reply.Reply.{Reply}
use Rattle.relay_core.specs.declared.step.Step.{Step}
use Rattle.relay_pushing.specs.Connections as pushing
use Rattle.relay_hall.specs.declared.handed.Handed.{Handed}
use Rattle.relay_hall.specs.declared.owner.Owner.{Owner}
use Rattle.relay_hall.specs.Keys.{is_owner, same_key}
use Rattle.relay_hall.specs.Meeting.{BoardsStay}
use Rattle.relay_hall.specs.Owning.{is_left_by}
use Rattle.relay_hall.specs.Record.{FloorRecord, HallRecord, nobody_yet}
use Rattle.relay_hall.specs.Talk.{may_make}
use Rattle.relay_hall.specs.Runs.{HallEvent, HallStep, HallTold, Comes, Goes, Says, Replied, Silent, SaysWhileThere, count_after, counts_after, goes_now, has_gone, history_after, says_now}
use Rattle.relay_hall.proofs.lemmas.Staying.{same_stay, step_stays}
use Rattle.relay_service.specs.Calling.Answering.{OperatorRecord}
use Rattle.relay_service.specs.Calling.Connections.{Turn, happens, passes}
use Rattle.relay_service.specs.Calling.Running.{Deed, came}
use Rattle.relay_service.specs.declared.connection.Connection.{Connection}
use Rattle.relay_service.specs.declared.connection.Connection.TheVariants.{Operator, Follower}
use Rattle.relay_service.specs.Calls.{Departs, Does, Passes, Replaces, arrival}
use Rattle.relay_service.specs.Inner.{AreOpened, IsOrdered, IsSeated, OwnsOpened, NamesNone, NamesNoneYet, count_of}
use Rattle.relay_service.specs.Record.{ServiceRecord, begun, connection_at, connection_in, opened, owner_at, owner_in}
use Rattle.relay_service.specs.Rights.{IsRightful}
use Rattle.relay_service.specs.Runs.{AreMadeBy, IsOrderlyRun, MadeBy}
use Rattle.relay_service.proofs.Becoming.{names_becomes, opened_becomes, owner_becomes}
use Rattle.relay_service.proofs.Connections.{each_after, each_owner, other_way, owners_stay, same_number, unlike}
use Rattle.relay_service.proofs.Events.{counts_then, made_then, not_gone_then, orderly_then, say_then}
use Rattle.relay_service.proofs.Here.{is_here, one_less, others_here}
use Rattle.relay_service.proofs.Owners.{arrives_with, opener_stays, same_opened, same_owner, still_none, unanswered_opened}
use Rattle.relay_service.proofs.Rights.{made_own, may_rightly, opened_still, run_as, run_then}

-- ---- The run.

abbrev book_then : (limits : LimitNumbers) (grace restarted : ℕ) (turns : List Turn) (k : HallRecord) (b : IsOrderlyRun limits grace restarted turns k) (x : Turn) (e : HallEvent) (t : HallTold) (l : HallRecord)
    → MadeBy x (e ∷ []) [] → HallStep k e t l → ((w : ℕ) → has_gone w b.events ≡ true → says_now w e ≡ false) → SaysWhileThere (counts_after (λ key. 0) b.events) e
    → IsRightful k e → IsOrderlyRun limits grace restarted (turns ++ x ∷ []) l
book_then limits grace restarted turns k b x e t l made step quiet says right = record {
  events = b.events ++ e ∷ [];
  told = b.told ++ t ∷ [];
  history = history_after k e t l b.history;
  run = (run_then restarted (nobody_yet limits grace) [] b.events b.told b.history k b.run b.rightful e t l step right).0;
  made = made_then turns x b.events (e ∷ []) b.made made;
  orderly = orderly_then b.events e b.orderly quiet;
  there = say_then (λ key. 0) b.events e b.there says;
  rightful = (run_then restarted (nobody_yet limits grace) [] b.events b.told b.history k b.run b.rightful e t l step right).1;
}

abbrev book_still : (limits : LimitNumbers) (grace restarted : ℕ) (turns : List Turn) (k : HallRecord) (b : IsOrderlyRun limits grace restarted turns k) (x : Turn) (l : HallRecord)
    → MadeBy x [] [] → l ≡ k → IsOrderlyRun limits grace restarted (turns ++ x ∷ []) l
book_still limits grace restarted turns k b x l made same = record {
  events = b.events;
  told = b.told;
  history = b.history;
  run = (run_as restarted limits grace b.events b.told b.history k l same b.run b.rightful).0;
  made = subst (AreMadeBy (turns ++ x ∷ [])) (append-nil b.events) (made_then turns x b.events [] b.made made);
  orderly = b.orderly;
  there = b.there;
  rightful = (run_as restarted limits grace b.events b.told b.history k l same b.run b.rightful).1;
}

-- ---- Who is in the hall.

-- an event by which it does not go
seat_on : (es : List HallEvent) (here : List (ℕ × List ℕ)) (i : ℕ) (who : Owner) (e : HallEvent) → IsSeated es here i who → goes_now i e ≡ false → IsSeated (es ++ e ∷ []) here i who
seat_on es here i who e z goes = record { numbered = z.numbered; alive = not_gone_then i es e z.alive goes; listed = z.listed }

-- others are here
seat_among : (es : List HallEvent) (here now : List (ℕ × List ℕ)) (i : ℕ) (who : Owner) → IsSeated es here i who → lookup (nat_eq i) now ≡ lookup (nat_eq i) here → IsSeated es now i who
seat_among es here now i who z same = record { numbered = z.numbered; alive = z.alive; listed = λ key at. same ∙ z.listed key at }

not_both : (a b : Bool) → b ≡ false → (a && b) ≡ false
not_both true b is = is
not_both false b is = refl

-- whoever has another number is not left by this one
not_left : (w : ℕ) (o : Owner) (number : ℕ) → o.opener ≡ number → nat_eq number w ≡ false → is_left_by w o ≡ false
not_left w o number mine other = not_both (is_none o.key) (nat_eq o.opener w) (ap (λ (n : ℕ). nat_eq n w) mine ∙ other)

-- ---- At first.

pub ordered_at_first : (limits : LimitNumbers) (grace : ℕ) (takes_keys : Bool) → IsOrdered (begun limits grace takes_keys)
ordered_at_first limits grace takes_keys = record {
  book = record { events = []; told = []; history = []; run = (refl, refl); made = refl; orderly = tt; there = tt; rightful = tt };
  fresh = λ i more. refl;
  here = [];
  counted = λ q. refl;
  seated = λ i who at. absurd (none-some who at);
  coming = λ i c at. absurd (none-some c at);
  opened = λ i c at. absurd (none-some c at);
}

-- ---- Which connections there are.

pub ordered_by_newcomer : (s : ServiceRecord) (connections : List (ℕ × Connection)) → IsOrdered s → Replaces s.next (Some (opened s.next s.takes_keys)) s.connections connections
    → IsOrdered (record s { connections = connections; next = s.next + 1 })
ordered_by_newcomer s connections o new = record {
  book = o.book;
  fresh = λ i more. o.fresh i (later i more);
  here = o.here;
  counted = o.counted;
  seated = each_owner (IsSeated o.book.events o.here) s.next (Some (opened s.next s.takes_keys)) s.connections connections new
      (λ who is. subst (IsSeated o.book.events o.here s.next) (same_Some _ _ is)
      (record { numbered = refl; alive = o.fresh s.next (omega arith); listed = λ key at. absurd (none-some key at) }))
      (λ i who other at. o.seated i who at);
  coming = each_after (λ i c. NamesNoneYet c) s.next (Some (opened s.next s.takes_keys)) s.connections connections new
      (λ c is. subst NamesNoneYet (same_Some _ _ is) (λ comes. (refl, refl))) (λ i c other at. o.coming i c at);
  opened = each_after (λ i c. OwnsOpened s.hall.floor c) s.next (Some (opened s.next s.takes_keys)) s.connections connections new
      (λ c is. subst (OwnsOpened s.hall.floor) (same_Some _ _ is) (λ name among. absurd (true≢false (sym among)))) (λ i c other at. o.opened i c at);
}
  where
    later : (i : ℕ) → s.next + 1 ≤ i → s.next ≤ i
    later i more = omega (arith, more)

-- another connection has a number, which nobody has in the hall who did not before; or none has it
abbrev pub ordered_with : (s : ServiceRecord) (number : ℕ) (c : Option Connection) (connections : List (ℕ × Connection)) → IsOrdered s → Replaces number c s.connections connections
    → ((who : Owner) → owner_in c ≡ Some who → owner_at s number ≡ Some who) → ((d : Connection) → c ≡ Some d → NamesNoneYet d)
    → ((d : Connection) → c ≡ Some d → OwnsOpened s.hall.floor d) → IsOrdered (record s { connections = connections })
ordered_with s number c connections o replaced known names owns = record {
  book = o.book;
  fresh = o.fresh;
  here = o.here;
  counted = o.counted;
  seated = each_owner (IsSeated o.book.events o.here) number c s.connections connections replaced (λ who is. o.seated number who (known who is)) (λ i who other at. o.seated i who at);
  coming = each_after (λ i d. NamesNoneYet d) number c s.connections connections replaced names (λ i d other at. o.coming i d at);
  opened = each_after (λ i d. OwnsOpened s.hall.floor d) number c s.connections connections replaced owns (λ i d other at. o.opened i d at);
}

abbrev pub ordered_without : (s : ServiceRecord) (number : ℕ) (connections : List (ℕ × Connection)) → IsOrdered s → Replaces number None s.connections connections
    → IsOrdered (record s { connections = connections })
ordered_without s number connections o gone = ordered_with s number None connections o gone (λ who is. absurd (none-some who is)) (λ d is. absurd (none-some d is)) (λ d is. absurd (none-some d is))

-- ---- What is done to a connection.

-- who it is in the hall, if it is present there
pub owner_before : (s : ServiceRecord) (number : ℕ) (x : Deed) (t : ServiceRecord) (d : Does s number x t) → d.does.is_present ≡ true → owner_at s number ≡ Some d.does.connection.who
owner_before s number x t d present =
    ap owner_in d.there ∙ (ap (λ (c : Connection). owner_in (Some c)) d.does.was ∙ ap (λ (b : Bool). cond b (Some d.does.connection.who) None) present)

-- it names a key by its request alone
pub names_before : (s : ServiceRecord) (number : ℕ) (x : Deed) (t : ServiceRecord) → IsOrdered s → (d : Does s number x t) → NamesNone d.does.connection
names_before s number x t o d = subst NamesNoneYet d.does.was (o.coming number d.before d.there)

names_after : (s : ServiceRecord) (number : ℕ) (x : Deed) (t : ServiceRecord) → IsOrdered s → (d : Does s number x t)
    → (i : ℕ) (c : Connection) → connection_at t i ≡ Some c → NamesNoneYet c
names_after s number x t o d =
    each_after (λ i c. NamesNoneYet c) number (Some d.after) s.connections t.connections d.connections
    (λ c is. subst NamesNoneYet (sym d.does.is ∙ same_Some _ _ is)
    (names_becomes x d.does.then d.does.is_present (still_none d.does.connection x d.does.then (names_before s number x t o d) d.does.done)))
    (λ i c other at. o.coming i c at)

-- who is in the hall then, if no connection comes to it
owners_after : (s : ServiceRecord) (number : ℕ) (x : Deed) (t : ServiceRecord) → IsOrdered s → (d : Does s number x t) → arrival d.does.connection d.does.then ≡ None
    → (i : ℕ) → owner_at t i ≡ owner_at s i
owners_after s number x t o d none =
    owners_stay number (Some d.after) s.connections t.connections d.connections
    (ap (λ (c : Connection). owner_in (Some c)) d.does.is
    ∙ owner_becomes x d.does.then d.does.is_present
    ∙ (ap (λ (w : Owner). cond d.does.is_present (Some w) None) (same_owner d.does.connection x d.does.then (names_before s number x t o d) d.does.done none)
    ∙ (sym (ap (λ (c : Connection). owner_in (Some c)) d.does.was) ∙ sym (ap owner_in d.there))))

-- a hall in which each board keeps its owner
grown_opened : (f g : FloorRecord) (c : Connection) → BoardsStay f g → OwnsOpened f c → OwnsOpened g c
grown_opened f g (Operator c true) stay are = opened_still f g c.who c.boards stay are
grown_opened f g (Operator c false) stay are = tt
grown_opened f g (Follower h who here) stay are = tt

one_opened : (f g : FloorRecord) (before : Connection) (c d : OperatorRecord) (here : Bool) → before ≡ Operator c here → (AreOpened f c.who c.boards → AreOpened g d.who d.boards) → OwnsOpened f before
    → OwnsOpened g (Operator d here)
one_opened f g before c d true was own are = own (subst (OwnsOpened f) was are)
one_opened f g before c d false was own are = tt

-- what connections have opened then is their own, if that is true of the one to which something was done
opened_after : (s : ServiceRecord) (number : ℕ) (x : Deed) (t : ServiceRecord) → IsOrdered s → (d : Does s number x t) → BoardsStay s.hall.floor t.hall.floor
    → (AreOpened s.hall.floor d.does.connection.who d.does.connection.boards → AreOpened t.hall.floor d.does.then.who d.does.then.boards)
    → (i : ℕ) (c : Connection) → connection_at t i ≡ Some c → OwnsOpened t.hall.floor c
opened_after s number x t o d stay own =
    each_after (λ i c. OwnsOpened t.hall.floor c) number (Some d.after) s.connections t.connections d.connections
    (λ c is. subst (OwnsOpened t.hall.floor) (sym d.does.is ∙ same_Some _ _ is) (opened_becomes t.hall.floor x d.does.then d.does.is_present
    (one_opened s.hall.floor t.hall.floor d.before d.does.connection d.does.then d.does.is_present d.does.was own (o.opened number d.before d.there))))
    (λ i c other at. grown_opened s.hall.floor t.hall.floor c stay (o.opened i c at))

floor_same : (k l : HallRecord) → l ≡ k → BoardsStay k.floor l.floor
floor_same k l same = same_stay k.floor l.floor (ap (λ (h : HallRecord). h.floor) same)

pub ordered_still : (s : ServiceRecord) (number : ℕ) (x : Deed) (t : ServiceRecord) → IsOrdered s → (d : Does s number x t) → arrival d.does.connection d.does.then ≡ None
    → MadeBy (happens number x) [] [] → t.hall ≡ s.hall → (AreOpened s.hall.floor d.does.connection.who d.does.connection.boards → AreOpened s.hall.floor d.does.then.who d.does.then.boards) → IsOrdered t
ordered_still s number x t o d none made same own =
    let u : ServiceRecord = record s { hall = t.hall; connections = t.connections; turns = s.turns ++ happens number x ∷ [] } in
    let is : IsOrdered u = record {
      book = book_still s.limits s.grace s.restarted s.turns s.hall o.book (happens number x) t.hall made same;
      fresh = o.fresh;
      here = o.here;
      counted = o.counted;
      seated = λ i who at. o.seated i who (sym (owners_after s number x t o d none i) ∙ at);
      coming = names_after s number x t o d;
      opened = opened_after s number x t o d (floor_same s.hall t.hall same)
          (λ are. subst (λ (h : HallRecord). AreOpened h.floor d.does.then.who d.does.then.boards) (sym same) (own are));
    } in
    subst IsOrdered (sym d.rest) is

present_opened : (s : ServiceRecord) (number : ℕ) (x : Deed) (t : ServiceRecord) → IsOrdered s → (d : Does s number x t) → d.does.is_present ≡ true
    → AreOpened s.hall.floor d.does.connection.who d.does.connection.boards
present_opened s number x t o d present =
    subst (OwnsOpened s.hall.floor) (d.does.was ∙ ap (λ (b : Bool). Operator d.does.connection b) present) (o.opened number d.before d.there)

pub ordered_says : (s : ServiceRecord) (number : ℕ) (x : Deed) (t : ServiceRecord) → IsOrdered s → (d : Does s number x t) → d.does.is_present ≡ true
    → arrival d.does.connection d.does.then ≡ None
    → (step : Step) (reply : Reply) (handed : Option Handed) → HallStep s.hall (Says d.does.connection.who step) (Replied reply handed) t.hall
    → MadeBy (happens number x) (Says d.does.connection.who step ∷ []) [] → may_make s.hall.floor d.does.connection.who d.does.connection.boards step ≡ true
    → d.does.then.boards ≡ pushing.opened_after d.does.connection.boards step reply → IsOrdered t
ordered_says s number x t o d present none step reply handed makes made may now-is =
    let u : ServiceRecord = record s { hall = t.hall; connections = t.connections; turns = s.turns ++ happens number x ∷ [] } in
    let e : HallEvent = Says d.does.connection.who step in
    let z : IsSeated o.book.events o.here number d.does.connection.who =
    o.seated number d.does.connection.who (owner_before s number x t d present) in
    let own : AreOpened s.hall.floor d.does.connection.who d.does.connection.boards = present_opened s number x t o d present in
    let who-is : d.does.then.who ≡ d.does.connection.who = same_owner d.does.connection x d.does.then (names_before s number x t o d) d.does.done none in
    let says : SaysWhileThere (counts_after (λ key. 0) o.book.events) e =
    λ key at. subst (λ (n : ℕ). 0 < n) (sym (o.counted key)) (is_here o.here number key (z.listed key at)) in
    let is : IsOrdered u = record {
      book = book_then s.limits s.grace s.restarted s.turns s.hall o.book (happens number x) e (Replied reply handed) t.hall made makes
          (λ w gone. quiet w (nat_eq number w) refl gone z) says (may_rightly s.hall.floor d.does.connection.who d.does.connection.boards step own may);
      fresh = λ i more. not_gone_then i o.book.events e (o.fresh i more) refl;
      here = o.here;
      counted = λ q. counts_then (λ key. 0) o.book.events e q ∙ o.counted q;
      seated = λ i who at. seat_on o.book.events o.here i who e (o.seated i who (sym (owners_after s number x t o d none i) ∙ at)) refl;
      coming = names_after s number x t o d;
      opened = opened_after s number x t o d (step_stays s.hall e (Replied reply handed) t.hall makes)
          (λ are. same_opened t.hall.floor d.does.connection.who d.does.then.who (pushing.opened_after d.does.connection.boards step reply) d.does.then.boards who-is now-is
          (made_own s.hall.floor t.hall.floor d.does.connection.who step reply handed d.does.connection.boards makes.0 are));
    } in
    subst IsOrdered (sym d.rest) is
  where
    quiet : (w : ℕ) (b : Bool) → nat_eq number w ≡ b → has_gone w o.book.events ≡ true → IsSeated o.book.events o.here number d.does.connection.who
        → is_left_by w d.does.connection.who ≡ false
    quiet w true is gone z = absurd (true≢false (sym gone ∙ subst (λ (n : ℕ). has_gone n o.book.events ≡ false) (eqb-true number w is) z.alive))
    quiet w false is gone z = not_left w d.does.connection.who number z.numbered is

-- ---- Coming to the hall.

pub ordered_by_arrival : (s : ServiceRecord) (number : ℕ) (bytes : List ℕ) (mid : ServiceRecord) (key : List ℕ) (t : ServiceRecord) → IsOrdered s → (d : Does s number (came bytes) mid)
    → d.does.is_present ≡ true → arrival d.does.connection d.does.then ≡ Some key → Passes mid (Comes key) t → IsOrdered t
ordered_by_arrival s number bytes mid key t o d present arrives p =
    let turns : List Turn = s.turns ++ happens number (came bytes) ∷ [] in
    let m : ServiceRecord = record s { hall = mid.hall; connections = mid.connections; turns = turns } in
    let u : ServiceRecord = record m { hall = t.hall; turns = turns ++ passes (Comes key) Silent ∷ [] } in
    let e : HallEvent = Comes key in
    let z : IsSeated o.book.events o.here number d.does.connection.who =
    o.seated number d.does.connection.who (owner_before s number (came bytes) mid d present) in
    let now : List (ℕ × List ℕ) = (number, key) ∷ o.here in
    let is : IsOrdered u = record {
      book = book_then s.limits s.grace s.restarted turns mid.hall (book_still s.limits s.grace s.restarted s.turns s.hall o.book (happens number (came bytes)) mid.hall refl d.hall)
          (passes (Comes key) Silent) e Silent t.hall refl p.step (λ w gone. refl) tt tt;
      fresh = λ i more. not_gone_then i o.book.events e (o.fresh i more) refl;
      here = now;
      counted = λ q. counts_then (λ key. 0) o.book.events e q ∙ ap (λ (n : ℕ). cond (same_key q key) (n + 1) n) (o.counted q);
      seated = each_owner (IsSeated (o.book.events ++ e ∷ []) now) number (Some d.after) s.connections mid.connections d.connections
          (λ who is. subst (IsSeated (o.book.events ++ e ∷ []) now number) (mine who is) (record {
            numbered = opener_stays d.does.connection (came bytes) d.does.then d.does.done ∙ z.numbered;
            alive = not_gone_then number o.book.events e z.alive refl;
            listed = λ other at. ap (λ (b : Bool). cond b (Some key) (lookup (nat_eq number) o.here)) (same_number number) ∙ (sym (arrives_with d.does.connection d.does.then key arrives) ∙ at);
          }))
          (λ i who other at. seat_on o.book.events now i who e
          (seat_among o.book.events o.here now i who (o.seated i who at) (ap (λ (b : Bool). cond b (Some key) (lookup (nat_eq i) o.here)) (other_way number i other))) refl);
      coming = names_after s number (came bytes) mid o d;
      opened = λ i c at. grown_opened mid.hall.floor t.hall.floor c (step_stays mid.hall e Silent t.hall p.step)
          (opened_after s number (came bytes) mid o d (floor_same s.hall mid.hall d.hall)
          (λ are. subst (λ (h : HallRecord). AreOpened h.floor d.does.then.who d.does.then.boards) (sym d.hall)
          (unanswered_opened s.hall.floor d.does.connection (came bytes) d.does.then (names_before s number (came bytes) mid o d) tt d.does.done are)) i c at);
    } in
    subst IsOrdered (sym (p.rest ∙ ap (λ (r : ServiceRecord). record r { hall = t.hall; turns = r.turns ++ passes (Comes key) Silent ∷ [] }) d.rest)) is
  where
    mine : (who : Owner) → owner_in (Some d.after) ≡ Some who → d.does.then.who ≡ who
    mine who is =
        same_Some _ _
        (sym (ap (λ (c : Connection). owner_in (Some c)) d.does.is ∙ owner_becomes (came bytes) d.does.then d.does.is_present
        ∙ ap (λ (b : Bool). cond b (Some d.does.then.who) None) present) ∙ is)

-- ---- Going from it.

absent_opened : (f : FloorRecord) (c : Connection) → owner_in (Some c) ≡ None → OwnsOpened f c
absent_opened f (Operator c true) nobody = absurd (none-some c.who (sym nobody))
absent_opened f (Operator c false) nobody = tt
absent_opened f (Follower h who here) nobody = tt

departing_with : (s : ServiceRecord) (number : ℕ) (who : Owner) (c : Option Connection) (t : ServiceRecord) (o : IsOrdered s) → number < s.next → Departs s number who c t
    → owner_in c ≡ None → ((d : Connection) → c ≡ Some d → NamesNoneYet d) → (now : List (ℕ × List ℕ))
    → ((q : List ℕ) → count_after (counts_after (λ key. 0) o.book.events) (Goes who) q ≡ count_of q now)
    → ((i : ℕ) → nat_eq number i ≡ false → lookup (nat_eq i) now ≡ lookup (nat_eq i) o.here) → IsOrdered t
departing_with s number who c t o below l nobody names now counted among =
    let u : ServiceRecord = record s { hall = t.hall; connections = t.connections; turns = s.turns ++ passes (Goes who) Silent ∷ [] } in
    let e : HallEvent = Goes who in
    let z : IsSeated o.book.events o.here number who = o.seated number who l.there in
    let is : IsOrdered u = record {
      book = book_then s.limits s.grace s.restarted s.turns s.hall o.book (passes e Silent) e Silent t.hall refl l.step (λ w gone. refl) tt tt;
      fresh = λ i more. not_gone_then i o.book.events e (o.fresh i more) (not_left i who number z.numbered (unlike number i (less i more)));
      here = now;
      counted = λ q. counts_then (λ key. 0) o.book.events e q ∙ counted q;
      seated = each_owner (IsSeated (o.book.events ++ e ∷ []) now) number c s.connections t.connections l.connections
          (λ w is. absurd (none-some w (sym nobody ∙ is)))
          (λ i w other at. seat_on o.book.events now i w e (seat_among o.book.events o.here now i w (o.seated i w at) (among i other)) (not_left i who number z.numbered other));
      coming = each_after (λ i d. NamesNoneYet d) number c s.connections t.connections l.connections names (λ i d other at. o.coming i d at);
      opened = each_after (λ i d. OwnsOpened t.hall.floor d) number c s.connections t.connections l.connections (λ d is. absent_opened t.hall.floor d (sym (ap owner_in is) ∙ nobody))
          (λ i d other at. grown_opened s.hall.floor t.hall.floor d (step_stays s.hall e Silent t.hall l.step) (o.opened i d at));
    } in
    subst IsOrdered (sym l.rest) is
  where
    less : (i : ℕ) → s.next ≤ i → number < i
    less i more = omega (arith, more, below)

pub ordered_by_departing : (s : ServiceRecord) (number : ℕ) (who : Owner) (c : Option Connection) (t : ServiceRecord) → IsOrdered s → number < s.next → Departs s number who c t
    → owner_in c ≡ None → ((d : Connection) → c ≡ Some d → NamesNoneYet d) → IsOrdered t
ordered_by_departing s number who c t o below l nobody names = by who.key refl
  where
    count : List ℕ → ℕ
    count q = counts_after (λ key. 0) o.book.events q

    by : (k : Option (List ℕ)) → who.key ≡ k → IsOrdered t
    by None is =
        departing_with s number who c t o below l nobody names o.here
        (λ q. ap (λ (k : Option (List ℕ)). cond (is_owner (Some q) k) (counts_after (λ key. 0) o.book.events q - 1) (counts_after (λ key. 0) o.book.events q)) is ∙ o.counted q) (λ i other. refl)
    by (Some key) is =
        departing_with s number who c t o below l nobody names (remove_entry (nat_eq number) o.here)
        (λ q. ap (λ (k : Option (List ℕ)). cond (is_owner (Some q) k) (counts_after (λ key. 0) o.book.events q - 1) (counts_after (λ key. 0) o.book.events q)) is
        ∙ (ap (λ (n : ℕ). cond (same_key q key) (n - 1) n) (o.counted q) ∙ one_less o.here number key q ((o.seated number who l.there).listed key is)))
        (λ i other. others_here o.here number i other)

-- ---- What passes in it.

pub ordered_by_pass : (s : ServiceRecord) (e : HallEvent) (t : ServiceRecord) → IsOrdered s → Passes s e t → ((w : ℕ) → says_now w e ≡ false) → ((w : ℕ) → goes_now w e ≡ false)
    → ((count : List ℕ → ℕ) (q : List ℕ) → count_after count e q ≡ count q) → ((count : List ℕ → ℕ) → SaysWhileThere count e) → IsRightful s.hall e → IsOrdered t
ordered_by_pass s e t o p says goes counts there right =
    let u : ServiceRecord = record s { hall = t.hall; turns = s.turns ++ passes e Silent ∷ [] } in
    let is : IsOrdered u = record {
      book = book_then s.limits s.grace s.restarted s.turns s.hall o.book (passes e Silent) e Silent t.hall refl p.step (λ w gone. says w) (there (counts_after (λ key. 0) o.book.events)) right;
      fresh = λ i more. not_gone_then i o.book.events e (o.fresh i more) (goes i);
      here = o.here;
      counted = λ q. counts_then (λ key. 0) o.book.events e q ∙ (counts (counts_after (λ key. 0) o.book.events) q ∙ o.counted q);
      seated = λ i who at. seat_on o.book.events o.here i who e (o.seated i who at) (goes i);
      coming = o.coming;
      opened = λ i c at. grown_opened s.hall.floor t.hall.floor c (step_stays s.hall e Silent t.hall p.step) (o.opened i c at);
    } in
    subst IsOrdered (sym p.rest) is

-- ---- A connection that is lost.

-- bytes came from one that is not there any more
pub ordered_lost : (s : ServiceRecord) (number : ℕ) (bytes : List ℕ) (c : Connection) (mid connections : List (ℕ × Connection)) → IsOrdered s
    → Replaces number (Some c) s.connections mid → Replaces number None mid connections
    → IsOrdered (record s { connections = connections; turns = s.turns ++ happens number (came bytes) ∷ [] })
ordered_lost s number bytes c mid connections o replaced gone =
    let left : IsOrdered (record s { connections = connections }) =
    ordered_without s number connections o (λ q. gone q ∙ once (nat_eq number q) (connection_in s.connections q) (connection_in mid q) (replaced q)) in
    record {
      book = book_still s.limits s.grace s.restarted s.turns s.hall o.book (happens number (came bytes)) s.hall refl refl;
      fresh = left.fresh;
      here = left.here;
      counted = left.counted;
      seated = left.seated;
      coming = left.coming;
      opened = left.opened;
    }
  where
    once : (b : Bool) (before mid : Option Connection) → mid ≡ cond b (Some c) before → cond b None mid ≡ cond b None before
    once true before mid is = refl
    once false before mid is = is
