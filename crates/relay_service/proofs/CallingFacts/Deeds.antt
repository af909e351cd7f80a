-- What a deed makes of a connection.
use Rattle.std.proofs.Common.{◌≡◌, inl, inr, Bool, true, false, true≢false, cond, ℕ, List, [], ◌++◌, is_some, Some, refl, sym, ◌∙◌, ap, subst}
use Rattle.relay_frames.specs.Frames.{close_frame, ping_frame}
use Rattle.relay_service.specs.Calling.Answering.{OperatorRecord, after_feed, asks, is_the_last, left_after, pinged, sent_away, stage_after, with_due}
use Rattle.relay_service.specs.Calling.Coming.{FedWhile, Feeds, comes}
use Rattle.relay_service.specs.declared.calling.stage.Stage.{Stage}
use Rattle.relay_service.specs.declared.calling.stage.Stage.TheVariants.{Comes, Asks, HandsOver, Leaves}
use Rattle.relay_service.specs.Calling.Running.{Deed, IsDone, came, failed, was_answered, was_pinged, was_sent_away, wrote}

-- ---- What is put unasked.

pub ping_put : (c d : OperatorRecord) (some : Bool) → asks c.stage ≡ some → d ≡ pinged c → d ≡ cond some (with_due c (ping_frame [])) c
ping_put c d some asked is = is ∙ ap (λ (b : Bool). cond b (with_due c (ping_frame [])) c) asked

-- behind a close
abbrev pub gone : OperatorRecord → ℕ → OperatorRecord
gone c code = record c { due = c.due ++ close_frame (Some code); stage = Leaves }

pub close_put : (c d : OperatorRecord) (some : Bool) (code : ℕ) → asks c.stage ≡ some → d ≡ sent_away c code → d ≡ cond some (gone c code) c
close_put c d some code asked is = is ∙ ap (λ (b : Bool). cond b (gone c code) c) asked

-- ---- Once its request is answered.

pub asking_has_come : (s : Stage) → asks s ≡ true → comes s ≡ false
asking_has_come Comes asking = absurd (true≢false (sym asking))
asking_has_come Asks asking = refl
asking_has_come HandsOver asking = refl
asking_has_come Leaves asking = refl

-- bytes that come to one whose request is answered come behind it
pub fed_behind : (c : OperatorRecord) (bytes : List ℕ) (d : OperatorRecord) → comes c.stage ≡ false → Feeds c bytes d → d ≡ after_feed c bytes
fed_behind c bytes d behind_it feeds = subst (λ (b : Bool). FedWhile b c bytes d) behind_it feeds

after_has_come : (has last : Bool) → comes (stage_after has last) ≡ false
after_has_come true last = refl
after_has_come false true = refl
after_has_come false false = refl

-- whatever happens to a connection whose request is answered, it is answered
pub has_come_still : (c : OperatorRecord) (x : Deed) (d : OperatorRecord) → comes c.stage ≡ false → IsDone c x d → comes d.stage ≡ false
has_come_still c (came bytes) d behind_it feeds = ap (λ (e : OperatorRecord). comes e.stage) (fed_behind c bytes d behind_it feeds) ∙ behind_it
has_come_still c (wrote bytes) d behind_it (n, first, is) = ap (λ (e : OperatorRecord). comes e.stage) is ∙ behind_it
has_come_still c (was_answered true m) d behind_it (t, asking, says, (frames, met, is)) =
    ap (λ (e : OperatorRecord). comes e.stage) is ∙ after_has_come (is_some m.handed) (is_the_last (left_after c.left t) t)
has_come_still c (was_answered false m) d behind_it (none, same, is, more) = ap (λ (e : OperatorRecord). comes e.stage) is ∙ behind_it
has_come_still c (failed m) d behind_it (inl (none, same, is)) = ap (λ (e : OperatorRecord). comes e.stage) is ∙ behind_it
has_come_still c (failed m) d behind_it (inr (t, asking, says, (un, is))) = ap (λ (e : OperatorRecord). comes e.stage) is
has_come_still c (was_pinged true) d behind_it (asked, pings) = ap (λ (e : OperatorRecord). comes e.stage) (ping_put c d true asked pings) ∙ behind_it
has_come_still c (was_pinged false) d behind_it (asked, pings) = ap (λ (e : OperatorRecord). comes e.stage) (ping_put c d false asked pings) ∙ behind_it
has_come_still c (was_sent_away true code) d behind_it (asked, closes) = ap (λ (e : OperatorRecord). comes e.stage) (close_put c d true code asked closes)
has_come_still c (was_sent_away false code) d behind_it (asked, closes) = ap (λ (e : OperatorRecord). comes e.stage) (close_put c d false code asked closes) ∙ behind_it

-- it stays who it is
pub who_stays : (c : OperatorRecord) (x : Deed) (d : OperatorRecord) → comes c.stage ≡ false → IsDone c x d → d.who ≡ c.who
who_stays c (came bytes) d behind_it feeds = ap (λ (e : OperatorRecord). e.who) (fed_behind c bytes d behind_it feeds)
who_stays c (wrote bytes) d behind_it (n, first, is) = ap (λ (e : OperatorRecord). e.who) is
who_stays c (was_answered true m) d behind_it (t, asking, says, (frames, met, is)) = ap (λ (e : OperatorRecord). e.who) is
who_stays c (was_answered false m) d behind_it (none, same, is, more) = ap (λ (e : OperatorRecord). e.who) is
who_stays c (failed m) d behind_it (inl (none, same, is)) = ap (λ (e : OperatorRecord). e.who) is
who_stays c (failed m) d behind_it (inr (t, asking, says, (un, is))) = ap (λ (e : OperatorRecord). e.who) is
who_stays c (was_pinged true) d behind_it (asked, pings) = ap (λ (e : OperatorRecord). e.who) (ping_put c d true asked pings)
who_stays c (was_pinged false) d behind_it (asked, pings) = ap (λ (e : OperatorRecord). e.who) (ping_put c d false asked pings)
who_stays c (was_sent_away true code) d behind_it (asked, closes) = ap (λ (e : OperatorRecord). e.who) (close_put c d true code asked closes)
who_stays c (was_sent_away false code) d behind_it (asked, closes) = ap (λ (e : OperatorRecord). e.who) (close_put c d false code asked closes)
