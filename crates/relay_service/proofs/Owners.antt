-- Who a connection is, whatever is done to it.
use Rattle.std.proofs.Common.{◌≡◌, ◌⊎◌, ℕ, List, [], ◌++◌, length, Bool, true, false, true≢false, ◌&&◌, cond, Option, Some, None, inl, inr, refl, sym, ap, ◌∙◌, subst}
use Rattle.std.proofs.lemmas.Option.{none-some}
use Rattle.relay_frames.specs.declared.head.HeadSoFar.{HeadSoFar}
use Rattle.relay_frames.specs.declared.head.HeadSoFar.TheVariants.{Part, Whole, Refused}
use Rattle.relay_frames.specs.Heads.{head_so_far_behind}
use Rattle.relay_hall.specs.declared.owner.Owner.{Owner}
use Rattle.relay_hall.specs.Record.{FloorRecord}
use Rattle.relay_service.specs.Calling.Answering.{OperatorRecord, asks}
use Rattle.relay_service.specs.Calling.Coming.{FedWhile, Settled, comes, grown}
use Rattle.relay_service.specs.declared.calling.stage.Stage.{Stage}
use Rattle.relay_service.specs.declared.calling.stage.Stage.TheVariants.{Comes, Asks, HandsOver, Leaves}
use Rattle.relay_service.specs.Calling.Running.{Deed, IsDone, came, failed, was_answered, was_pinged, was_sent_away, wrote}
use Rattle.relay_service.proofs.CallingFacts.Deeds.{asking_has_come, close_put, fed_behind, has_come_still, ping_put, who_stays}
use Rattle.relay_service.specs.Calls.{arrival}
use Rattle.relay_service.specs.Inner.{AreOpened, NamesNone}

abbrev who : OperatorRecord → Owner
who c = c.who

abbrev boards : OperatorRecord → List (List ℕ)
boards c = c.boards

-- ---- While it comes it is who it was, or its request is accepted now.

abbrev Begins : OperatorRecord → OperatorRecord → Type 0
Begins c d = (d.who ≡ c.who) ⊎ ((asks d.stage ≡ true) × (d.who.opener ≡ c.who.opener))

settles : (c : OperatorRecord) (bytes : List ℕ) (d : OperatorRecord) (h : HeadSoFar) → Settled (grown c bytes) h d → Begins c d
settles c bytes d Part is = inl (ap who is)
settles c bytes d (Whole end) (inl (answered, (value, accepts, is))) = inr (ap (λ (e : OperatorRecord). asks e.stage) is, ap (λ (e : OperatorRecord). e.who.opener) is)
settles c bytes d (Whole end) (inr (refusal, answered, is)) = inl (ap who is)
settles c bytes d (Refused refusal) is = inl (ap who is)

begins : (c : OperatorRecord) (x : Deed) (d : OperatorRecord) → comes c.stage ≡ true → IsDone c x d → Begins c d
begins c (came bytes) d new feeds =
    settles c bytes d (head_so_far_behind (length c.head) (c.head ++ bytes)) (subst (λ (b : Bool). FedWhile b c bytes d) new feeds)
begins c (wrote bytes) d new (n, first, is) = inl (ap who is)
begins c (was_answered true m) d new (t, asking, says, more) = absurd (true≢false (sym new ∙ asking_has_come c.stage asking))
begins c (was_answered false m) d new (none, same, is, more) = inl (ap who is)
begins c (failed m) d new (inl (none, same, is)) = inl (ap who is)
begins c (failed m) d new (inr (t, asking, says, more)) = absurd (true≢false (sym new ∙ asking_has_come c.stage asking))
begins c (was_pinged true) d new (asked, pings) = inl (ap who (ping_put c d true asked pings))
begins c (was_pinged false) d new (asked, pings) = inl (ap who (ping_put c d false asked pings))
begins c (was_sent_away true code) d new (asked, closes) = inl (ap who (close_put c d true code asked closes))
begins c (was_sent_away false code) d new (asked, closes) = inl (ap who (close_put c d false code asked closes))

pub opener_stays : (c : OperatorRecord) (x : Deed) (d : OperatorRecord) → IsDone c x d → d.who.opener ≡ c.who.opener
opener_stays c x d done = by (comes c.stage) refl
  where
    of : Begins c d → d.who.opener ≡ c.who.opener
    of (inl is) = ap (λ (o : Owner). o.opener) is
    of (inr (asking, is)) = is

    by : (b : Bool) → comes c.stage ≡ b → d.who.opener ≡ c.who.opener
    by true new = of (begins c x d new done)
    by false old = ap (λ (o : Owner). o.opener) (who_stays c x d old done)

settled_boards : (c : OperatorRecord) (bytes : List ℕ) (d : OperatorRecord) (h : HeadSoFar) → Settled (grown c bytes) h d → d.boards ≡ c.boards
settled_boards c bytes d Part is = ap boards is
settled_boards c bytes d (Whole end) (inl (answered, (value, accepts, is))) = ap boards is
settled_boards c bytes d (Whole end) (inr (refusal, answered, is)) = ap boards is
settled_boards c bytes d (Refused refusal) is = ap boards is

-- while it comes it opens no board
coming_boards : (c : OperatorRecord) (x : Deed) (d : OperatorRecord) → comes c.stage ≡ true → IsDone c x d → d.boards ≡ c.boards
coming_boards c (came bytes) d new feeds =
    settled_boards c bytes d (head_so_far_behind (length c.head) (c.head ++ bytes)) (subst (λ (b : Bool). FedWhile b c bytes d) new feeds)
coming_boards c (wrote bytes) d new (n, first, is) = ap boards is
coming_boards c (was_answered true m) d new (t, asking, says, more) = absurd (true≢false (sym new ∙ asking_has_come c.stage asking))
coming_boards c (was_answered false m) d new (none, same, is, more) = ap boards is
coming_boards c (failed m) d new (inl (none, same, is)) = ap boards is
coming_boards c (failed m) d new (inr (t, asking, says, more)) = absurd (true≢false (sym new ∙ asking_has_come c.stage asking))
coming_boards c (was_pinged true) d new (asked, pings) = ap boards (ping_put c d true asked pings)
coming_boards c (was_pinged false) d new (asked, pings) = ap boards (ping_put c d false asked pings)
coming_boards c (was_sent_away true code) d new (asked, closes) = ap boards (close_put c d true code asked closes)
coming_boards c (was_sent_away false code) d new (asked, closes) = ap boards (close_put c d false code asked closes)

pub still_none : (c : OperatorRecord) (x : Deed) (d : OperatorRecord) → NamesNone c → IsDone c x d → NamesNone d
still_none c x d none done comes_on = by (comes c.stage) refl
  where
    key : comes c.stage ≡ true → Begins c d → d.who.key ≡ None
    key new (inl is) = ap (λ (o : Owner). o.key) is ∙ (none new).0
    key new (inr (asking, is)) = absurd (true≢false (sym comes_on ∙ asking_has_come d.stage asking))

    by : (b : Bool) → comes c.stage ≡ b → (d.who.key ≡ None) × (d.boards ≡ [])
    by true new = (key new (begins c x d new done), coming_boards c x d new done ∙ (none new).1)
    by false old = absurd (true≢false (sym comes_on ∙ has_come_still c x d old done))

same_fields : (a b : Owner) → a.key ≡ b.key → a.opener ≡ b.opener → a ≡ b
same_fields a b k o = ap (λ (x : Option (List ℕ)). record { key = x; opener = a.opener }) k ∙ ap (λ (n : ℕ). record { key = b.key; opener = n }) o

-- if it does not come to the hall with a key now, it is who it was
pub same_owner : (c : OperatorRecord) (x : Deed) (d : OperatorRecord) → NamesNone c → IsDone c x d → arrival c d ≡ None → d.who ≡ c.who
same_owner c x d names done none = by (comes c.stage) refl
  where
    no_key : comes c.stage ≡ true → asks d.stage ≡ true → d.who.key ≡ None
    no_key new asking = sym (ap (λ (b : Bool). cond (b && asks d.stage) d.who.key None) new ∙ ap (λ (b : Bool). cond b d.who.key None) asking) ∙ none

    of : comes c.stage ≡ true → Begins c d → d.who ≡ c.who
    of new (inl is) = is
    of new (inr (asking, is)) = same_fields d.who c.who (no_key new asking ∙ sym (names new).0) is

    by : (b : Bool) → comes c.stage ≡ b → d.who ≡ c.who
    by true new = of new (begins c x d new done)
    by false old = who_stays c x d old done

-- ---- Whether it comes to the hall.

-- whoever does has that key
pub arrives_with : (c d : OperatorRecord) (key : List ℕ) → arrival c d ≡ Some key → d.who.key ≡ Some key
arrives_with c d key is = by (comes c.stage && asks d.stage) is
  where
    by : (b : Bool) → cond b d.who.key None ≡ Some key → d.who.key ≡ Some key
    by true at = at
    by false at = absurd (none-some key at)

-- nothing but bytes that came
abbrev pub IsNoIntake : Deed → Type 0
IsNoIntake (came bytes) = ⊥
IsNoIntake (was_answered some m) = Unit {0}
IsNoIntake (failed m) = Unit {0}
IsNoIntake (wrote bytes) = Unit {0}
IsNoIntake (was_pinged some) = Unit {0}
IsNoIntake (was_sent_away some code) = Unit {0}

no_arrival_at : (c d : OperatorRecord) → d.stage ≡ c.stage → arrival c d ≡ None
no_arrival_at c d is = ap (λ (s : Stage). cond (comes c.stage && asks s) d.who.key None) is ∙ by c.stage
  where
    by : (s : Stage) → cond (comes s && asks s) d.who.key None ≡ None
    by Comes = refl
    by Asks = refl
    by HandsOver = refl
    by Leaves = refl

no_arrival_of : (c d : OperatorRecord) → asks c.stage ≡ true → arrival c d ≡ None
no_arrival_of c d asking = ap (λ (b : Bool). cond (b && asks d.stage) d.who.key None) (asking_has_come c.stage asking)

pub no_arrival : (c : OperatorRecord) (x : Deed) (d : OperatorRecord) → IsNoIntake x → IsDone c x d → arrival c d ≡ None
no_arrival c (came bytes) d quiet done = absurd quiet
no_arrival c (wrote bytes) d quiet (n, first, is) = no_arrival_at c d (ap (λ (e : OperatorRecord). e.stage) is)
no_arrival c (was_answered true m) d quiet (t, asking, says, more) = no_arrival_of c d asking
no_arrival c (was_answered false m) d quiet (none, same, is, more) = no_arrival_at c d (ap (λ (e : OperatorRecord). e.stage) is)
no_arrival c (failed m) d quiet (inl (none, same, is)) = no_arrival_at c d (ap (λ (e : OperatorRecord). e.stage) is)
no_arrival c (failed m) d quiet (inr (t, asking, says, more)) = no_arrival_of c d asking
no_arrival c (was_pinged true) d quiet (asked, pings) = no_arrival_of c d asked
no_arrival c (was_pinged false) d quiet (asked, pings) = no_arrival_at c d (ap (λ (e : OperatorRecord). e.stage) (ping_put c d false asked pings))
no_arrival c (was_sent_away true code) d quiet (asked, closes) = no_arrival_of c d asked
no_arrival c (was_sent_away false code) d quiet (asked, closes) = no_arrival_at c d (ap (λ (e : OperatorRecord). e.stage) (close_put c d false code asked closes))

-- ---- What it has opened.

-- nothing was answered
abbrev pub IsUnanswered : Deed → Type 0
IsUnanswered (came bytes) = Unit {0}
IsUnanswered (was_answered some m) = ⊥
IsUnanswered (failed m) = ⊥
IsUnanswered (wrote bytes) = Unit {0}
IsUnanswered (was_pinged some) = Unit {0}
IsUnanswered (was_sent_away some code) = Unit {0}

boards_behind : (c : OperatorRecord) (x : Deed) (d : OperatorRecord) → IsUnanswered x → comes c.stage ≡ false → IsDone c x d → d.boards ≡ c.boards
boards_behind c (came bytes) d un behind_it feeds = ap boards (fed_behind c bytes d behind_it feeds)
boards_behind c (was_answered some m) d un behind_it done = absurd un
boards_behind c (failed m) d un behind_it done = absurd un
boards_behind c (wrote bytes) d un behind_it (n, first, is) = ap boards is
boards_behind c (was_pinged true) d un behind_it (asked, pings) = ap boards (ping_put c d true asked pings)
boards_behind c (was_pinged false) d un behind_it (asked, pings) = ap boards (ping_put c d false asked pings)
boards_behind c (was_sent_away true code) d un behind_it (asked, closes) = ap boards (close_put c d true code asked closes)
boards_behind c (was_sent_away false code) d un behind_it (asked, closes) = ap boards (close_put c d false code asked closes)

none_opened : (f : FloorRecord) (who : Owner) (opened : List (List ℕ)) → opened ≡ [] → AreOpened f who opened
none_opened f who opened is = subst (AreOpened f who) (sym is) (λ name among. absurd (true≢false (sym among)))

pub same_opened : (f : FloorRecord) (who one : Owner) (opened now : List (List ℕ)) → one ≡ who → now ≡ opened → AreOpened f who opened → AreOpened f one now
same_opened f who one opened now who-is now-is are = subst (λ (o : Owner). AreOpened f o now) (sym who-is) (subst (AreOpened f who) (sym now-is) are)

-- it owns what it has opened, unless something was answered
pub unanswered_opened : (f : FloorRecord) (c : OperatorRecord) (x : Deed) (d : OperatorRecord) → NamesNone c → IsUnanswered x → IsDone c x d → AreOpened f c.who c.boards → AreOpened f d.who d.boards
unanswered_opened f c x d none un done are = by (comes c.stage) refl
  where
    by : (b : Bool) → comes c.stage ≡ b → AreOpened f d.who d.boards
    by true new = none_opened f d.who d.boards (coming_boards c x d new done ∙ (none new).1)
    by false old = same_opened f c.who d.who c.boards d.boards (who_stays c x d old done) (boards_behind c x d un old done) are
