-- What is kept true of a service by each call.
use Rattle.std.proofs.Common.{◌≡◌, ◌+◌, ◌<◌, ℕ, List, [], ◌∷◌, ◌++◌, Bool, true, false, true≢false, is_some, take, Option, Some, None, Result, Ok, Err, IfOk, OnErr, inl, inr, refl, sym, ap, ◌∙◌, subst, append-nil, arith}
use Rattle.std.proofs.lemmas.Option.{none-some, same_Some}
use Rattle.std.specs.declared.alloc.AllocError.{AllocError}
use Rattle.c960_game.specs.Limits.{LimitNumbers}
use Rattle.relay_hall.specs.declared.handed.Handed.{Handed}
use Rattle.relay_hall.specs.declared.owner.Owner.{Owner}
use Rattle.relay_hall.specs.Record.{FloorRecord, HallRecord}
use Rattle.relay_hall.specs.Runs.{Comes, Goes, HallEvent, HallStep, IsOneStep, SaysWhileThere, Silent, count_after, goes_now, says_now}
use Rattle.relay_service.specs.Calling.Answering.{OperatorRecord, after_write, asks}
use Rattle.relay_service.specs.Calling.Connections.{LeadsHall, Turn, happens, passes}
use Rattle.relay_service.specs.Calling.Running.{Deed, IsDone, Moment, came, failed, was_answered, was_pinged, was_sent_away, wrote}
use Rattle.relay_hall.specs.Meeting.{BoardsStay}
use Rattle.relay_hall.proofs.lemmas.Staying.{once_stays, same_stay, step_stays}
use Rattle.relay_service.specs.Following.Record.{ConnectionRecord}
use Rattle.relay_service.proofs.FollowingFacts.Boards.{newcomer_in}
use Rattle.relay_service.proofs.FollowingFacts.Handing.{handed_in}
use Rattle.relay_service.specs.declared.connection.Connection.{Connection}
use Rattle.relay_service.specs.declared.connection.Connection.TheVariants.{Operator, Follower}
use Rattle.relay_service.specs.declared.service.Service.TheInside.{Inside}
use Rattle.relay_service.specs.declared.turn.Moments.{Moments}
use Rattle.relay_service.specs.declared.turn.NewDeed.{NewDeed}
use Rattle.relay_service.specs.declared.turn.NewDeed.TheVariants.{Answered, Failed}
use Rattle.relay_service.specs.Calls.{AnswersAt, AnswersTo, Arrives, Departs, Does, DoesTo, Enters, FailsAt, FailsTo, FeedsTo, ForEach, IfOperator, IfPresent, LeavesAs, LeavesAt, LeftAs, Loses, Passes, PutsAt, ReceivesAt, Replaces, SendsIn, Serves, arrival, arrivals, moment}
use Rattle.relay_service.specs.Inner.{AreJoined, AreOpened, IsJoined, IsLedTo, IsOperatorOf, IsOrdered, IsService, NamesNoneYet, service_of}
use Rattle.relay_service.specs.Noting.{deed_of, moment_of}
use Rattle.relay_service.specs.Record.{ServiceRecord, begun, connection_at, opened, operator_at, operator_in, owner_at, owner_in, present_at}
use Rattle.relay_service.specs.Rights.{IsRightful}
use Rattle.relay_service.specs.Runs.{MadeBy, OneOrNoneOf}
use Rattle.relay_service.proofs.Becoming.{IsHandedOut, becomes_same, handed_of, nothing_out}
use Rattle.relay_service.proofs.Followers.{gone_keeps}
use Rattle.relay_service.proofs.Joining.{joined_after, joined_by_deed, joined_by_departing, joined_on}
use Rattle.relay_service.proofs.Doing.{IsFed, IsNoted, answering_does, at_present, fed_by, for_operator, match_at, present_there}
use Rattle.relay_service.proofs.Led.{led_at_first, led_by_pass, led_on, led_passed, led_to_next, led_with, led_without}
use Rattle.relay_service.proofs.Ordering.{ordered_at_first, ordered_by_arrival, ordered_by_departing, ordered_by_newcomer, ordered_by_pass, ordered_lost, ordered_says, ordered_still, ordered_without, names_before, owner_before}
use Rattle.relay_service.proofs.Owners.{IsNoIntake, IsUnanswered, no_arrival, same_opened, same_owner, unanswered_opened}
use Rattle.relay_service.proofs.Rights.{IsOneRightStep, one_step}

-- all of it, of what is shown
pub record IsKept (s : ServiceRecord) : Type 0 where
  pub led : IsLedTo s
  pub ordered : IsOrdered s
  pub joined : AreJoined s

pub kept : (a : Inside) → IsService a → IsKept (service_of a)
kept a k = record { led = k.led; ordered = k.ordered; joined = k.joined }

pub keeps : (a : Inside) → IsKept (service_of a) → IsService a
keeps a k = record { led = k.led; ordered = k.ordered; joined = k.joined }

-- what shows the same is kept
pub keeps_as : (a : Inside) (s : ServiceRecord) → IsKept s → service_of a ≡ s → IsService a
keeps_as a s k is = keeps a (subst IsKept (sym is) k)

-- ---- Which connections there are.

pub kept_at_first : (limits : LimitNumbers) (grace : ℕ) (takes_keys : Bool) → IsKept (begun limits grace takes_keys)
kept_at_first limits grace takes_keys = record {
  led = led_at_first limits grace takes_keys;
  ordered = ordered_at_first limits grace takes_keys;
  joined = λ i c at. absurd (none-some c at);
}

pub kept_by_newcomer : (s : ServiceRecord) (connections : List (ℕ × Connection)) → IsKept s → Replaces s.next (Some (opened s.next s.takes_keys)) s.connections connections
    → IsKept (record s { connections = connections; next = s.next + 1 })
kept_by_newcomer s connections k new = record {
  led = led_with (record s { next = s.next + 1 }) s.next (Some (opened s.next s.takes_keys)) connections (led_to_next s k.led) new
      (λ d is. (omega arith, subst (IsOperatorOf (k.led.peers s.next)) (same_Some _ _ is) (k.led.yet s.next (omega arith))));
  ordered = ordered_by_newcomer s connections k.ordered new;
  joined = joined_after s.hall.floor s.hall.floor s.next (Some (opened s.next s.takes_keys)) s.connections connections (same_stay s.hall.floor s.hall.floor refl) k.joined new
      (λ d is. subst (IsJoined s.hall.floor) (same_Some _ _ is) tt);
}

pub kept_without : (s : ServiceRecord) (number : ℕ) (connections : List (ℕ × Connection)) → IsKept s → Replaces number None s.connections connections → IsKept (record s { connections = connections })
kept_without s number connections k gone = record {
  led = led_without s number connections k.led gone;
  ordered = ordered_without s number connections k.ordered gone;
  joined = joined_after s.hall.floor s.hall.floor number None s.connections connections (same_stay s.hall.floor s.hall.floor refl) k.joined gone (λ d is. absurd (none-some d is));
}

-- the end of all was called
pub kept_ending : (s : ServiceRecord) → IsKept s → IsKept (record s { is_ending = true })
kept_ending s k = record {
  led = record { peers = k.led.peers; run = k.led.run; there = k.led.there; known = k.led.known; yet = k.led.yet; unused = k.led.unused };
  ordered = record {
    book = k.ordered.book;
    fresh = k.ordered.fresh;
    here = k.ordered.here;
    counted = k.ordered.counted;
    seated = k.ordered.seated;
    coming = k.ordered.coming;
    opened = k.ordered.opened;
  };
  joined = k.joined;
}

-- ---- Who goes, and what passes.

departs_led : (s : ServiceRecord) (number : ℕ) (who : Owner) (c : Option Connection) (t : ServiceRecord) (l : IsLedTo s) → Departs s number who c t
    → ((d : Connection) → c ≡ Some d → (number < s.next) × IsOperatorOf (l.peers number) d) → IsLedTo t
departs_led s number who c t l d new =
    let m : ServiceRecord = record s { hall = t.hall; turns = s.turns ++ passes (Goes who) Silent ∷ [] } in
    subst IsLedTo (sym d.rest) (led_with m number c t.connections (led_passed s (Goes who) t.hall l d.step) d.connections new)

kept_by_disconnecting : (s : ServiceRecord) (number : ℕ) (who : Owner) (c : Connection) (t : ServiceRecord) → IsKept s → connection_at s number ≡ Some c → Departs s number who None t → IsKept t
kept_by_disconnecting s number who c t k there d = record {
  led = departs_led s number who None t k.led d (λ e is. absurd (none-some e is));
  ordered = ordered_by_departing s number who None t k.ordered (k.led.known number c there) d refl (λ e is. absurd (none-some e is));
  joined = joined_by_departing s number who None t k.joined d (λ e is. absurd (none-some e is));
}

-- what is true of a connection that is not present in the hall any more, if it was true of the one before
left_operator : (e : OperatorRecord) (before after : Connection) → LeftAs before after → IsOperatorOf e before → IsOperatorOf e after
left_operator e (Operator c here) after left is = subst (IsOperatorOf e) (sym left) is
left_operator e (Follower f who here) after left is = subst (IsOperatorOf e) (sym left) (is.0, is.1, is.2 ∙ sym (gone_keeps f).1)

left_names : (before after : Connection) → LeftAs before after → NamesNoneYet before → NamesNoneYet after
left_names (Operator c here) after left is = subst NamesNoneYet (sym left) is
left_names (Follower f who here) after left is = subst NamesNoneYet (sym left) tt

left_joined : (f : FloorRecord) (before after : Connection) → LeftAs before after → IsJoined f before → IsJoined f after
left_joined f (Operator c here) after left is = subst (IsJoined f) (sym left) tt
left_joined f (Follower g who here) after left is = subst (IsJoined f) (sym left) ((gone_keeps g).0 f is)

left_nobody : (before after : Connection) → LeftAs before after → owner_in (Some after) ≡ None
left_nobody (Operator c here) after left = ap (λ (d : Connection). owner_in (Some d)) left
left_nobody (Follower f who here) after left = ap (λ (d : Connection). owner_in (Some d)) left

-- it is still sent what is due
pub left_at : (s : ServiceRecord) (number : ℕ) (before after : Connection) (who : Owner) (t : ServiceRecord) → IsKept s → connection_at s number ≡ Some before → owner_at s number ≡ Some who
    → LeftAs before after → HallStep s.hall (Goes who) Silent t.hall → Replaces number (Some after) s.connections t.connections
    → t ≡ record s { hall = t.hall; connections = t.connections; turns = s.turns ++ passes (Goes who) Silent ∷ [] } → IsKept t × LeavesAt s number t
left_at s number before after who t k there is left step replaced rest =
    let departs : Departs s number who (Some after) t = record { there = is; step = step; connections = replaced; rest = rest } in
    let stay : BoardsStay s.hall.floor t.hall.floor = step_stays s.hall (Goes who) Silent t.hall step in (
      record {
        led = departs_led s number who (Some after) t k.led departs
            (λ e now. (k.led.known number before there, subst (IsOperatorOf (k.led.peers number)) (same_Some _ _ now) (left_operator (k.led.peers number) before after left (k.led.there number before there))));
        ordered = ordered_by_departing s number who (Some after) t k.ordered (k.led.known number before there) departs (left_nobody before after left)
            (λ e now. subst NamesNoneYet (same_Some _ _ now) (left_names before after left (k.ordered.coming number before there)));
        joined = joined_by_departing s number who (Some after) t k.joined departs
            (λ e now. subst (IsJoined t.hall.floor) (same_Some _ _ now)
            (left_joined t.hall.floor before after left (joined_on s.hall.floor t.hall.floor before stay (k.joined number before there))));
      },
      match_at (owner_at s number) who _ (λ w. LeavesAs s number w t) is (before, after, there, left, departs),
    )

owner_there : (o : Option Connection) (who : Owner) → owner_in o ≡ Some who → (c : Connection) × (o ≡ Some c)
owner_there None who is = absurd (none-some who is)
owner_there (Some c) who is = (c, refl)

pub disconnected_at : (s : ServiceRecord) (number : ℕ) (who : Owner) (t : ServiceRecord) → IsKept s → Departs s number who None t → IsKept t
disconnected_at s number who t k d =
    let c = owner_there (connection_at s number) who d.there in
    kept_by_disconnecting s number who c.0 t k c.1 d

passed_joined : (s : ServiceRecord) (e : HallEvent) (t : ServiceRecord) → AreJoined s → Passes s e t → AreJoined t
passed_joined s e t joined p =
    let all : AreJoined (record s { hall = t.hall; turns = s.turns ++ passes e Silent ∷ [] }) =
    λ i c at. joined_on s.hall.floor t.hall.floor c (step_stays s.hall e Silent t.hall p.step) (joined i c at) in
    subst AreJoined (sym p.rest) all

pub kept_by_pass : (s : ServiceRecord) (e : HallEvent) (t : ServiceRecord) → IsKept s → Passes s e t → ((w : ℕ) → says_now w e ≡ false) → ((w : ℕ) → goes_now w e ≡ false)
    → ((count : List ℕ → ℕ) (q : List ℕ) → count_after count e q ≡ count q) → ((count : List ℕ → ℕ) → SaysWhileThere count e) → IsRightful s.hall e → IsKept t
kept_by_pass s e t k p says goes counts there right = record {
  led = led_by_pass s e t k.led p;
  ordered = ordered_by_pass s e t k.ordered p says goes counts there right;
  joined = passed_joined s e t k.joined p;
}

-- ---- What is done to a connection.

-- nobody comes to the hall by it, and nothing is said there
kept_still : (s : ServiceRecord) (number : ℕ) (x : Deed) (t : ServiceRecord) → IsKept s → (d : Does s number x t) → arrival d.does.connection d.does.then ≡ None
    → MadeBy (happens number x) [] [] → t.hall ≡ s.hall → (AreOpened s.hall.floor d.does.connection.who d.does.connection.boards → AreOpened s.hall.floor d.does.then.who d.does.then.boards)
    → IsHandedOut t.hall.floor x d.does.then → IsKept t
kept_still s number x t k d none made same own out = record {
  led = led_on s number x t k.led d;
  ordered = ordered_still s number x t k.ordered d none made same own;
  joined = joined_by_deed s number x t k.joined d (same_stay s.hall.floor t.hall.floor (ap (λ (h : HallRecord). h.floor) same)) out;
}

unanswered_out : (f : FloorRecord) (x : Deed) (d : OperatorRecord) → IsUnanswered x → IsHandedOut f x d
unanswered_out f x d un = nothing_out f x d (by x un)
  where
    by : (y : Deed) → IsUnanswered y → handed_of y ≡ None
    by (came bytes) un = refl
    by (was_answered some m) un = absurd un
    by (failed m) un = absurd un
    by (wrote bytes) un = refl
    by (was_pinged some) un = refl
    by (was_sent_away some code) un = refl

unanswered_own : (s : ServiceRecord) (number : ℕ) (x : Deed) (t : ServiceRecord) → IsKept s → (d : Does s number x t) → IsUnanswered x
    → AreOpened s.hall.floor d.does.connection.who d.does.connection.boards → AreOpened s.hall.floor d.does.then.who d.does.then.boards
unanswered_own s number x t k d un are = unanswered_opened s.hall.floor d.does.connection x d.does.then (names_before s number x t k.ordered d) un d.does.done are

pub kept_quietly : (s : ServiceRecord) (number : ℕ) (x : Deed) (t : ServiceRecord) → IsKept s → Does s number x t → IsNoIntake x → IsUnanswered x → MadeBy (happens number x) [] [] → t.hall ≡ s.hall → IsKept t
kept_quietly s number x t k d quiet un made same =
    kept_still s number x t k d (no_arrival d.does.connection x d.does.then quiet d.does.done) made same (unanswered_own s number x t k d un) (unanswered_out t.hall.floor x d.does.then un)

-- what is answered is one step or none
kept_answering : (s : ServiceRecord) (number : ℕ) (x : Deed) (t : ServiceRecord) (handed : Option Handed) → IsKept s → (d : Does s number x t) → d.does.is_present ≡ true → IsNoIntake x
    → IsOneRightStep s.hall d.does.connection.who d.does.connection.boards handed t.hall d.does.then.boards → ((h : Handed) → handed_of x ≡ Some h → handed ≡ Some h)
    → ((events rest : List HallEvent) → OneOrNoneOf number events rest → MadeBy (happens number x) events rest) → IsKept t
kept_answering s number x t handed k d present quiet right hands makes = by right
  where
    none : arrival d.does.connection d.does.then ≡ None
    none = no_arrival d.does.connection x d.does.then quiet d.does.done

    numbered : d.does.connection.who.opener ≡ number
    numbered = (k.ordered.seated number d.does.connection.who (owner_before s number x t d present)).numbered

    once : IsOneStep s.hall d.does.connection.who handed t.hall
    once = one_step s.hall d.does.connection.who d.does.connection.boards handed t.hall d.does.then.boards right

    out : IsHandedOut t.hall.floor x d.does.then
    out h is =
        newcomer_in t.hall.floor h d.does.then.reading d.does.then.due
        (handed_in s.hall t.hall d.does.connection.who h (subst (λ (o : Option Handed). IsOneStep s.hall d.does.connection.who o t.hall) (hands h is) once))

    by : IsOneRightStep s.hall d.does.connection.who d.does.connection.boards handed t.hall d.does.then.boards → IsKept t
    by (inl (step, reply, made, may, now-is)) = record {
      led = led_on s number x t k.led d;
      ordered = ordered_says s number x t k.ordered d present none step reply handed made (makes _ _ (inl (d.does.connection.who, step, numbered, refl))) may now-is;
      joined = joined_by_deed s number x t k.joined d (once_stays s.hall t.hall d.does.connection.who handed once) out;
    }
    by (inr (same, nothing, now-is)) =
        kept_still s number x t k d none (makes _ _ (inr refl)) same
        (λ are. same_opened s.hall.floor d.does.connection.who d.does.then.who d.does.connection.boards d.does.then.boards
        (same_owner d.does.connection x d.does.then (names_before s number x t k.ordered d) d.does.done none) now-is are) out

answered_at : (s : ServiceRecord) (number : ℕ) (before after : Connection) (n : Moment) (x : Deed) (t : ServiceRecord) → IsKept s → connection_at s number ≡ Some before
    → IsNoted number before n after x → n.before ≡ s.hall → n.after ≡ t.hall → Replaces number (Some after) s.connections t.connections
    → t ≡ record s { hall = t.hall; connections = t.connections; turns = s.turns ++ happens number x ∷ [] } → IsKept t × Does s number x t
answered_at s number before after n x t k there m first last replaced rest =
    let does : Does s number x t =
    record {
      before = before;
      after = after;
      there = there;
      does = m.does;
      hall = subst (λ (h : HallRecord). LeadsHall h x t.hall) first (subst (LeadsHall n.before x) last m.hall);
      connections = replaced;
      rest = rest;
    } in
    let right : IsOneRightStep s.hall m.does.connection.who m.does.connection.boards n.handed t.hall m.does.then.boards =
    subst (λ (h : HallRecord). IsOneRightStep h m.does.connection.who m.does.connection.boards n.handed t.hall m.does.then.boards) first
    (subst (λ (h : HallRecord). IsOneRightStep n.before m.does.connection.who m.does.connection.boards n.handed h m.does.then.boards) last m.right) in
    (kept_answering s number x t n.handed k does m.present m.quiet right m.hands m.makes, does)

answers_ok : (answered : Result Bool AllocError) (r : NewDeed) (m : Moments) (s : ServiceRecord) (number : ℕ) (handed : Option Handed) (t : ServiceRecord) → moment_of m ≡ moment s handed t
    → IfOk answered (λ some. r ≡ Answered some m) → is_some (present_at s number) ≡ true → Does s number (deed_of r) t → IfOk answered (λ some. AnswersAt s number some t)
answers_ok (Ok some) r m s number handed t is noted present does =
    for_operator (connection_at s number) _ _ _ present (handed, subst (λ (x : Deed). Does s number x t) (ap deed_of noted ∙ ap (was_answered some) is) does)
answers_ok (Err e) r m s number handed t is noted present does = tt

fails_err : (answered : Result Bool AllocError) (r : NewDeed) (m : Moments) (s : ServiceRecord) (number : ℕ) (handed : Option Handed) (t : ServiceRecord) → moment_of m ≡ moment s handed t
    → OnErr answered (r ≡ Failed m) → is_some (present_at s number) ≡ true → Does s number (deed_of r) t → OnErr answered (FailsAt s number t)
fails_err (Ok some) r m s number handed t is noted present does = tt
fails_err (Err e) r m s number handed t is noted present does =
    for_operator (connection_at s number) _ _ _ present (handed, subst (λ (x : Deed). Does s number x t) (ap deed_of noted ∙ ap failed is) does)

pub answered_by : (s : ServiceRecord) (number : ℕ) (before after : Connection) (answered : Result Bool AllocError) (r : NewDeed) (m : Moments) (handed : Option Handed) (t : ServiceRecord) → IsKept s
    → connection_at s number ≡ Some before → is_some (present_at s number) ≡ true → moment_of m ≡ moment s handed t
    → IfOk answered (λ some. IfPresent before (λ c. AnswersTo c some s.hall handed t.hall after)) → OnErr answered (IfPresent before (λ c. FailsTo c s.hall handed t.hall after))
    → IfOk answered (λ some. r ≡ Answered some m) → OnErr answered (r ≡ Failed m) → Replaces number (Some after) s.connections t.connections
    → t ≡ record s { hall = t.hall; connections = t.connections; turns = s.turns ++ happens number (deed_of r) ∷ [] }
    → IsKept t × IfOk answered (λ some. AnswersAt s number some t) × OnErr answered (FailsAt s number t)
answered_by s number before after answered r m handed t k there present is ok err noted not replaced rest =
    let n : Moment = moment s handed t in
    let v : IsNoted number before n after (deed_of r) = answering_does number answered r m before after n is (present_there s number before there present) ok err noted not in
    let a = answered_at s number before after n (deed_of r) t k there v refl refl replaced rest in
    (a.0, answers_ok answered r m s number handed t is noted present a.1, fails_err answered r m s number handed t is not present a.1)

-- ---- What is received.

-- bytes came, and it comes to the hall if they end its request
kept_receiving : (s : ServiceRecord) (number : ℕ) (bytes : List ℕ) (mid t : ServiceRecord) → IsKept s → (d : Does s number (came bytes) mid) → d.does.is_present ≡ true
    → Arrives (arrival d.does.connection d.does.then) mid t → IsKept t
kept_receiving s number bytes mid t k d present arrives = by (arrival d.does.connection d.does.then) refl arrives
  where
    by : (key : Option (List ℕ)) → arrival d.does.connection d.does.then ≡ key → Arrives key mid t → IsKept t
    by None is same = subst IsKept (sym same) (kept_still s number (came bytes) mid k d is refl d.hall (unanswered_own s number (came bytes) mid k d tt) (nothing_out mid.hall.floor (came bytes) d.does.then refl))
    by (Some key) is p = record {
      led = led_by_pass mid (Comes key) t (led_on s number (came bytes) mid k.led d) p;
      ordered = ordered_by_arrival s number bytes mid key t k.ordered d present is p;
      joined = passed_joined mid (Comes key) t
          (joined_by_deed s number (came bytes) mid k.joined d (same_stay s.hall.floor mid.hall.floor (ap (λ (h : HallRecord). h.floor) d.hall)) (nothing_out mid.hall.floor (came bytes) d.does.then refl)) p;
    }

enters_arrives : (key : Option (List ℕ)) (mid t : ServiceRecord) → Enters mid.hall key t.hall → t ≡ record mid { hall = t.hall; turns = mid.turns ++ arrivals key } → Arrives key mid t
enters_arrives None mid t same is =
    is ∙ (ap (λ (k : HallRecord). record mid { hall = k; turns = mid.turns ++ [] }) same ∙ ap (λ (xs : List Turn). record mid { turns = xs }) (append-nil mid.turns))
enters_arrives (Some key) mid t step is = record { step = step; rest = is }

abbrev received_as : (s : ServiceRecord) → HallRecord → List (ℕ × Connection) → List Turn → ServiceRecord
received_as s hall connections turns = record s { hall = hall; connections = connections; turns = turns }

abbrev noted : ServiceRecord → ℕ → List ℕ → List Turn
noted s number bytes = s.turns ++ happens number (came bytes) ∷ []

-- what came was fed, and this is noted
abbrev fed_to : (s : ServiceRecord) (number : ℕ) (bytes : List ℕ) (before after : Connection) (connections : List (ℕ × Connection)) → connection_at s number ≡ Some before
    → DoesTo before (came bytes) after → Replaces number (Some after) s.connections connections → Does s number (came bytes) (record s { connections = connections; turns = noted s number bytes })
fed_to s number bytes before after connections there does replaced = record { before = before; after = after; there = there; does = does; hall = refl; connections = replaced; rest = refl }

pub received : (s : ServiceRecord) (number : ℕ) (bytes : List ℕ) (before after : Connection) (key : Option (List ℕ)) (connections : List (ℕ × Connection)) (hall : HallRecord) (first turns : List Turn) → IsKept s
    → connection_at s number ≡ Some before → is_some (present_at s number) ≡ true → IfPresent before (λ c. FeedsTo c bytes key after) → Replaces number (Some after) s.connections connections
    → Enters s.hall key hall → first ≡ noted s number bytes → turns ≡ first ++ arrivals key
    → IsKept (received_as s hall connections turns) × ReceivesAt s number bytes (received_as s hall connections turns)
received s number bytes before after key connections hall first turns k there present feeds replaced enters begun ends =
    let f : IsFed before bytes key after = fed_by before after bytes key (present_there s number before there present) feeds in
    let mid : ServiceRecord = record s { connections = connections; turns = noted s number bytes } in
    let t : ServiceRecord = received_as s hall connections turns in
    let does : Does s number (came bytes) mid = fed_to s number bytes before after connections there f.does replaced in
    let all : turns ≡ noted s number bytes ++ arrivals key = ends ∙ ap (λ (xs : List Turn). xs ++ arrivals key) begun in
    let arrives : Arrives (arrival f.does.connection f.does.then) mid t =
    subst (λ (a : Option (List ℕ)). Arrives a mid t) f.names (enters_arrives key mid t enters (ap (λ (xs : List Turn). received_as s hall connections xs) all)) in
    (kept_receiving s number bytes mid t k does f.present arrives, for_operator (connection_at s number) _ _ _ present (record { mid = mid; fed = does; arrives = arrives }))

pub lost : (s : ServiceRecord) (number : ℕ) (bytes : List ℕ) (before after : Connection) (key : Option (List ℕ)) (connections left : List (ℕ × Connection)) (turns : List Turn) → IsKept s
    → connection_at s number ≡ Some before → is_some (present_at s number) ≡ true → IfPresent before (λ c. FeedsTo c bytes key after) → Replaces number (Some after) s.connections connections
    → Replaces number None connections left → turns ≡ noted s number bytes → is_some key ≡ true
    → IsKept (record s { connections = left; turns = turns }) × Loses s number bytes (record s { connections = left; turns = turns })
lost s number bytes before after key connections left turns k there present feeds replaced gone is keyed =
    let f : IsFed before bytes key after = fed_by before after bytes key (present_there s number before there present) feeds in
    let mid : ServiceRecord = record s { connections = connections; turns = noted s number bytes } in
    let does : Does s number (came bytes) mid = fed_to s number bytes before after connections there f.does replaced in
    subst (λ (xs : List Turn). IsKept (record s { connections = left; turns = xs }) × Loses s number bytes (record s { connections = left; turns = xs })) (sym is) (
      record {
        led = led_without mid number left (led_on s number (came bytes) mid k.led does) gone;
        ordered = ordered_lost s number bytes after connections left k.ordered replaced gone;
        joined = joined_after s.hall.floor s.hall.floor number None connections left (same_stay s.hall.floor s.hall.floor refl)
            (joined_by_deed s number (came bytes) mid k.joined does (same_stay s.hall.floor s.hall.floor refl) (nothing_out s.hall.floor (came bytes) f.does.then refl)) gone
            (λ d none. absurd (none-some d none));
      },
      record { mid = mid; fed = does; keyed = sym (ap is_some f.names) ∙ keyed; gone = (gone, refl) },
    )

-- ---- What is put unasked, and sent.

-- a frame is put if it asks
pub put_at : (x : Bool → Deed) (f : OperatorRecord → OperatorRecord) → ((c : OperatorRecord) (some : Bool) → asks c.stage ≡ some → IsDone c (x some) (f c)) → ((some : Bool) → IsNoIntake (x some)) → ((some : Bool) → IsUnanswered (x some)) → ((some : Bool) → handed_of (x some) ≡ None)
    → ((k : HallRecord) (some : Bool) → LeadsHall k (x some) k) → ((number : ℕ) (some : Bool) → MadeBy (happens number (x some)) [] [])
    → (s : ServiceRecord) (number : ℕ) (before after : Connection) (some : Bool) (t : ServiceRecord) → IsKept s → connection_at s number ≡ Some before → is_some (present_at s number) ≡ true
    → IfPresent before (λ c. (asks c.stage ≡ some) × (after ≡ Operator (f c) true)) → Replaces number (Some after) s.connections t.connections
    → t ≡ record s { connections = t.connections; turns = s.turns ++ happens number (x some) ∷ [] }
    → IsKept t × ((put : ConnectionRecord → ConnectionRecord) → PutsAt s number x put t)
put_at x f done quiet un nothing leads made s number before after some t k there present puts replaced rest =
    let p = at_present before (λ c. (asks c.stage ≡ some) × (after ≡ Operator (f c) true)) (present_there s number before there present) puts in
    let same : t.hall ≡ s.hall = ap (λ (r : ServiceRecord). r.hall) rest in
    let does : Does s number (x some) t =
    record {
      before = before;
      after = after;
      there = there;
      does = record { connection = p.0; then = f p.0; is_present = true; was = p.1; done = done p.0 some p.2.0; is = p.2.1 ∙ sym (becomes_same (x some) (f p.0) true (nothing some)) };
      hall = subst (LeadsHall s.hall (x some)) (sym same) (leads s.hall some);
      connections = replaced;
      rest = rest ∙ ap (λ (h : HallRecord). record s { hall = h; connections = t.connections; turns = s.turns ++ happens number (x some) ∷ [] }) (sym same);
    } in (
      kept_quietly s number (x some) t k does (quiet some) (un some) (made number some) same,
      λ put. subst (λ (o : Option Connection). ForEach o (t ≡ s) (λ c. Does s number (x (asks c.stage)) t) (λ g. Serves s number (λ g h. h ≡ put g) t))
          (sym (there ∙ ap Some p.1)) (subst (λ (b : Bool). Does s number (x b) t) (sym p.2.0) does),
    )

pub sent_at : (s : ServiceRecord) (number n : ℕ) (before after : Connection) (bytes : List ℕ) (t : ServiceRecord) → IsKept s → connection_at s number ≡ Some before → is_some (operator_at s number) ≡ true
    → IfOperator before (λ c here. (bytes ≡ take n c.due) × (after ≡ Operator (after_write c n) here)) → Replaces number (Some after) s.connections t.connections
    → t ≡ record s { connections = t.connections; turns = s.turns ++ happens number (wrote bytes) ∷ [] }
    → IsKept t × SendsIn (connection_at s number) s number n t
sent_at s number n before after bytes t k there some sends replaced rest = by before there (sym (ap (λ (o : Option Connection). is_some (operator_in o)) there) ∙ some) sends
  where
    same : t.hall ≡ s.hall
    same = ap (λ (r : ServiceRecord). r.hall) rest

    by : (b : Connection) → connection_at s number ≡ Some b → is_some (operator_in (Some b)) ≡ true → IfOperator b (λ c here. (bytes ≡ take n c.due) × (after ≡ Operator (after_write c n) here))
        → IsKept t × SendsIn (connection_at s number) s number n t
    by (Follower f who here) at is sends = absurd (true≢false (sym is))
    by (Operator c here) at is (first, then_is) =
        let does : Does s number (wrote bytes) t =
        record {
          before = Operator c here;
          after = after;
          there = at;
          does = record { connection = c; then = after_write c n; is_present = here; was = refl; done = (n, first, refl); is = then_is };
          hall = same;
          connections = replaced;
          rest = rest ∙ ap (λ (h : HallRecord). record s { hall = h; connections = t.connections; turns = s.turns ++ happens number (wrote bytes) ∷ [] }) (sym same);
        } in (
          kept_quietly s number (wrote bytes) t k does tt tt refl same,
          subst (λ (o : Option Connection). SendsIn o s number n t) (sym at) (subst (λ (bs : List ℕ). Does s number (wrote bs) t) first does),
        )
