-- What a connection is sent whose request is answered, by induction over all that happens.
use Rattle.std.proofs.Common.{◌≡◌, ◌≤◌, ◌<◌, ◌||◌, ◌==◌, inl, inr, Bool, true, false, true≢false, cond, ℕ, zero, suc, List, [], ◌∷◌, ◌++◌, take, drop, fold, is_some, Some, refl, sym, ◌∙◌, ap, subst, append_assoc, append-nil, arith}
use Rattle.std.proofs.lemmas.List.{take-append-drop}
use Rattle.relay_frames.specs.Events.{Told, fragment, text, binary, ping, pong, closed, broken, is_last}
use Rattle.relay_frames.specs.Frames.{close_frame, ping_frame}
use Rattle.relay_frames.specs.Hearing.{Heard, behind, hear_all, hear_piece}
use Rattle.relay_frames.specs.Reading.{fed, next_step}
use Rattle.relay_frames.proofs.lemmas.Hearings.{piece_after}
use Rattle.relay_service.specs.Calling.Answering.{EventMet, OperatorRecord, after_feed, after_write, asks, is_draining, is_the_last, is_through, left_after, moved_on, stage_after, with_due}
use Rattle.relay_service.specs.Calling.Coming.{comes}
use Rattle.relay_service.specs.declared.calling.stage.Stage.{Stage}
use Rattle.relay_service.specs.declared.calling.stage.Stage.TheVariants.{Comes, Asks, HandsOver, Leaves}
use Rattle.relay_service.specs.Calling.Running.{AreSent, Cause, Deed, Moment, Runs, came, causes_of, failed, messages_in, pieces_of, was_answered, was_pinged, was_sent_away, written_of, wrote}
use Rattle.relay_service.proofs.CallingFacts.Deeds.{close_put, fed_behind, gone, has_come_still, ping_put}
use Rattle.relay_service.proofs.CallingFacts.Hearing.{hear_next, pieces_behind}

-- ---- How many messages it may still send.

abbrev may_send : OperatorRecord → ℕ
may_send c = cond (asks c.stage) c.left 0

-- while it asks it may send one
abbrev MaySend : OperatorRecord → Type 0
MaySend c = asks c.stage ≡ true → 0 < c.left

-- after an event it asks only if it may send one more
asks_on : (left : ℕ) (t : Told) (has : Bool) → asks (stage_after has (is_the_last left t)) ≡ true → 0 < left
asks_on left t true is = absurd (true≢false (sym is))
asks_on left t false is = by (is_last t) left is
  where
    by : (last : Bool) (n : ℕ) → asks (stage_after false (last || (n == 0))) ≡ true → 0 < n
    by true n e = absurd (true≢false (sym e))
    by false zero e = absurd (true≢false (sym e))
    by false (suc n) e = omega arith

-- an event is one of those that it may send
one_more : (t : Told) (ts : List Told) (left : ℕ) → 0 < left → messages_in ts ≤ left_after left t → messages_in (t ∷ ts) ≤ left
one_more fragment ts left some few = few
one_more (text s) ts left some few = omega (arith, some, few)
one_more (binary s) ts left some few = omega (arith, some, few)
one_more (ping s) ts left some few = omega (arith, some, few)
one_more (pong s) ts left some few = omega (arith, some, few)
one_more (closed number) ts left some few = omega (arith, some, few)
one_more (broken breach) ts left some few = omega (arith, some, few)

no_more_than : (b : Bool) (n left : ℕ) → n ≤ cond b left 0 → n ≤ left
no_more_than true n left few = few
no_more_than false n left few = omega (arith, few)

-- ---- One that follows or leaves.

leaves : {A : Type 0} (s : Stage) → is_through s ≡ true → asks s ≡ true → A
leaves Comes through asking = absurd (true≢false (sym through))
leaves Asks through asking = absurd (true≢false (sym through))
leaves HandsOver through asking = absurd (true≢false (sym asking))
leaves Leaves through asking = absurd (true≢false (sym asking))

pub through_has_come : (s : Stage) → is_through s ≡ true → comes s ≡ false
through_has_come Comes through = absurd (true≢false (sym through))
through_has_come Asks through = refl
through_has_come HandsOver through = refl
through_has_come Leaves through = refl

-- whatever happens nothing more is due to it, it stays as far as it has come, and it is sent what was due
pub record IsSilent (c : OperatorRecord) (deeds : List Deed) (d : OperatorRecord) : Type 0 where
  pub none : causes_of deeds ≡ []
  pub there : d.stage ≡ c.stage
  pub sent : written_of deeds ++ d.due ≡ c.due

module _ (c : OperatorRecord) (mid : OperatorRecord) (xs : List Deed) (d : OperatorRecord) where
  silent_on : (x : Deed) → causes_of (x ∷ xs) ≡ causes_of xs → written_of (x ∷ xs) ≡ written_of xs → mid.stage ≡ c.stage → mid.due ≡ c.due
      → IsSilent mid xs d → IsSilent c (x ∷ xs) d
  silent_on x causes writes stage due s = record {
    none = causes ∙ s.none;
    there = s.there ∙ stage;
    sent = ap (λ (ys : List ℕ). ys ++ d.due) writes ∙ s.sent ∙ due;
  }

  -- it is as it was
  silent_still : (x : Deed) → causes_of (x ∷ xs) ≡ causes_of xs → written_of (x ∷ xs) ≡ written_of xs → mid ≡ c → IsSilent mid xs d → IsSilent c (x ∷ xs) d
  silent_still x causes writes is s = silent_on x causes writes (ap (λ (e : OperatorRecord). e.stage) is) (ap (λ (e : OperatorRecord). e.due) is) s

pub silent : (c : OperatorRecord) (deeds : List Deed) (d : OperatorRecord) → is_through c.stage ≡ true → Runs c deeds d → IsSilent c deeds d
silent c [] d through is = record { none = refl; there = ap (λ (e : OperatorRecord). e.stage) is; sent = ap (λ (e : OperatorRecord). e.due) is }
silent c (came piece ∷ xs) d through (mid, feeds, runs) =
    let is = fed_behind c piece mid (through_has_come c.stage through) feeds in
    silent_on c mid xs d (came piece) refl refl (ap (λ (e : OperatorRecord). e.stage) is) (ap (λ (e : OperatorRecord). e.due) is)
    (silent mid xs d (ap (λ (e : OperatorRecord). is_through e.stage) is ∙ through) runs)
silent c (was_answered false m ∷ xs) d through (mid, (none, same, is, more), runs) =
    silent_still c mid xs d (was_answered false m) refl refl is (silent mid xs d (ap (λ (e : OperatorRecord). is_through e.stage) is ∙ through) runs)
silent c (failed m ∷ xs) d through (mid, inl (none, same, is), runs) =
    silent_still c mid xs d (failed m) refl refl is (silent mid xs d (ap (λ (e : OperatorRecord). is_through e.stage) is ∙ through) runs)
silent c (was_pinged false ∷ xs) d through (mid, (asked, pings), runs) =
    let is = ping_put c mid false asked pings in
    silent_still c mid xs d (was_pinged false) refl refl is (silent mid xs d (ap (λ (e : OperatorRecord). is_through e.stage) is ∙ through) runs)
silent c (was_sent_away false code ∷ xs) d through (mid, (asked, closes), runs) =
    let is = close_put c mid false code asked closes in
    silent_still c mid xs d (was_sent_away false code) refl refl is (silent mid xs d (ap (λ (e : OperatorRecord). is_through e.stage) is ∙ through) runs)
silent c (wrote bytes ∷ xs) d through (mid, (n, first, is), runs) =
    let s = silent mid xs d (ap (λ (e : OperatorRecord). is_through e.stage) is ∙ through) runs in
    record {
      none = s.none;
      there = s.there ∙ ap (λ (e : OperatorRecord). e.stage) is;
      sent =
          append_assoc bytes (written_of xs) d.due
          ∙ ap (λ (ys : List ℕ). bytes ++ ys) (s.sent ∙ ap (λ (e : OperatorRecord). e.due) is)
          ∙ ap (λ (ys : List ℕ). ys ++ drop n c.due) first ∙ take-append-drop n c.due;
    }
silent c (was_answered true m ∷ xs) d through (mid, (t, asking, says, met), runs) = leaves c.stage through asking
silent c (failed m ∷ xs) d through (mid, inr (t, asking, says, lost), runs) = leaves c.stage through asking
silent c (was_pinged true ∷ xs) d through (mid, (asking, pings), runs) = leaves c.stage through asking
silent c (was_sent_away true code ∷ xs) d through (mid, (asking, closes), runs) = leaves c.stage through asking

pub never_answered : (c : OperatorRecord) (deeds : List Deed) (d : OperatorRecord) → is_through c.stage ≡ true → Runs c deeds d → (causes_of deeds ≡ []) × (d.stage ≡ c.stage)
never_answered c deeds d through runs = let s = silent c deeds d through runs in (s.none, s.there)

-- ---- From any connection on.

-- what is written and then due is what was due, and then the frames of the answers and what is put unasked
pub record GoesOn (c : OperatorRecord) (deeds : List Deed) (d : OperatorRecord) : Type 0 where
  pub events : List Told
  pub bytes : List ℕ
  pub rest : Heard
  pub heard : behind events rest ≡ fold hear_piece (hear_all c.reading) (pieces_of deeds)
  pub few : MaySend c → messages_in events ≤ may_send c
  pub answered : AreSent c.who c.boards c.left (causes_of deeds) events bytes
  pub sent : written_of deeds ++ d.due ≡ c.due ++ bytes
  pub still : asks d.stage ≡ true → rest ≡ hear_all d.reading

nothing_done : (c : OperatorRecord) → GoesOn c [] c
nothing_done c = record {
  events = [];
  bytes = [];
  rest = hear_all c.reading;
  heard = refl;
  few = λ may. omega arith;
  answered = (refl, refl);
  sent = sym (append-nil c.due);
  still = λ asking. refl;
}

when_came : (c : OperatorRecord) (piece : List ℕ) (xs : List Deed) (d : OperatorRecord) → GoesOn (record c { reading = fed c.reading piece }) xs d → GoesOn c (came piece ∷ xs) d
when_came c piece xs d g = record {
  events = g.events;
  bytes = g.bytes;
  rest = g.rest;
  heard = g.heard ∙ ap (λ h. fold hear_piece h (pieces_of xs)) (sym (piece_after _ c.reading piece (omega arith)));
  few = g.few;
  answered = g.answered;
  sent = g.sent;
  still = g.still;
}

when_wrote : (c : OperatorRecord) (bytes : List ℕ) (n : ℕ) (xs : List Deed) (d : OperatorRecord) → bytes ≡ take n c.due
    → GoesOn (after_write c n) xs d → GoesOn c (wrote bytes ∷ xs) d
when_wrote c bytes n xs d is g = record {
  events = g.events;
  bytes = g.bytes;
  rest = g.rest;
  heard = g.heard;
  few = g.few;
  answered = g.answered;
  sent =
      append_assoc bytes (written_of xs) d.due ∙ ap (λ ys. bytes ++ ys) g.sent ∙ sym (append_assoc bytes (drop n c.due) g.bytes)
      ∙ ap (λ ys. ys ++ g.bytes) (ap (λ ys. ys ++ drop n c.due) is ∙ take-append-drop n c.due);
  still = g.still;
}

-- nothing has changed
when_still : (c : OperatorRecord) (x : Deed) (xs : List Deed) (d : OperatorRecord) → pieces_of (x ∷ xs) ≡ pieces_of xs → causes_of (x ∷ xs) ≡ causes_of xs
    → written_of (x ∷ xs) ≡ written_of xs → GoesOn c xs d → GoesOn c (x ∷ xs) d
when_still c x xs d pieces causes writes g = record {
  events = g.events;
  bytes = g.bytes;
  rest = g.rest;
  heard = g.heard ∙ ap (λ (ps : List (List ℕ)). fold hear_piece (hear_all c.reading) ps) (sym pieces);
  few = g.few;
  answered = subst (λ (cs : List Cause). AreSent c.who c.boards c.left cs g.events g.bytes) (sym causes) g.answered;
  sent = ap (λ (ys : List ℕ). ys ++ d.due) writes ∙ g.sent;
  still = g.still;
}

when_pinged : (c : OperatorRecord) (xs : List Deed) (d : OperatorRecord) → GoesOn (with_due c (ping_frame [])) xs d → GoesOn c (was_pinged true ∷ xs) d
when_pinged c xs d g = record {
  events = g.events;
  bytes = ping_frame [] ++ g.bytes;
  rest = g.rest;
  heard = g.heard;
  few = g.few;
  answered = (g.bytes, g.answered, refl);
  sent = g.sent ∙ append_assoc c.due (ping_frame []) g.bytes;
  still = g.still;
}

-- behind an event that was answered by these frames
abbrev answered_by : OperatorRecord → Told → List (List ℕ) → List ℕ → Stage → OperatorRecord
answered_by c t boards frames stage = record (moved_on c) { boards = boards; due = c.due ++ frames; left = left_after c.left t; stage = stage }

when_answered : (c : OperatorRecord) (m : Moment) (t : Told) (frames : List ℕ) (boards : List (List ℕ)) (xs : List Deed) (d : OperatorRecord)
    → asks c.stage ≡ true → (next_step c.reading).told ≡ Some t → EventMet m.before c.who c.boards (left_after c.left t) t frames m.handed m.after boards
    → GoesOn (answered_by c t boards frames (stage_after (is_some m.handed) (is_the_last (left_after c.left t) t))) xs d → GoesOn c (was_answered true m ∷ xs) d
when_answered c m t frames boards xs d asking says answer g =
    let left = left_after c.left t in
    let after : Stage = stage_after (is_some m.handed) (is_the_last left t) in
    record {
      events = t ∷ g.events;
      bytes = frames ++ g.bytes;
      rest = g.rest;
      heard =
          ap (behind (t ∷ [])) g.heard ∙ sym (pieces_behind (t ∷ []) (hear_all (next_step c.reading).then) (pieces_of xs))
          ∙ ap (λ h. fold hear_piece h (pieces_of xs)) (sym (hear_next c.reading t says));
      few = λ may.
          let those : messages_in g.events ≤ left = no_more_than (asks after) (messages_in g.events) left (g.few (λ on. asks_on left t (is_some m.handed) on)) in
          subst (λ (b : Bool). messages_in (t ∷ g.events) ≤ cond b c.left 0) (sym asking) (one_more t g.events c.left (may asking) those);
      answered = (frames, g.bytes, boards, answer, g.answered, refl);
      sent = g.sent ∙ append_assoc c.due frames g.bytes;
      still = g.still;
    }

when_sent_away : (c : OperatorRecord) (code : ℕ) (xs : List Deed) (mid d : OperatorRecord) → mid ≡ gone c code → IsSilent mid xs d → GoesOn c (was_sent_away true code ∷ xs) d
when_sent_away c code xs mid d is s = record {
  events = [];
  bytes = close_frame (Some code);
  rest = fold hear_piece (hear_all c.reading) (pieces_of xs);
  heard = refl;
  few = λ may. omega arith;
  answered = (s.none, refl, refl);
  sent = s.sent ∙ ap (λ (e : OperatorRecord). e.due) is;
  still = λ asking. leaves d.stage (ap is_through (s.there ∙ ap (λ (e : OperatorRecord). e.stage) is)) asking;
}

-- it asks no more
when_silent : (c : OperatorRecord) (deeds : List Deed) (d : OperatorRecord) → is_through d.stage ≡ true → causes_of deeds ≡ [] → written_of deeds ++ d.due ≡ c.due → GoesOn c deeds d
when_silent c deeds d through none sent = record {
  events = [];
  bytes = [];
  rest = fold hear_piece (hear_all c.reading) (pieces_of deeds);
  heard = refl;
  few = λ may. omega arith;
  answered = subst (λ (cs : List Cause). AreSent c.who c.boards c.left cs [] []) (sym none) (refl, refl);
  sent = sent ∙ sym (append-nil c.due);
  still = λ asking. leaves d.stage through asking;
}

-- the next event was lost, and it left
when_lost : (c : OperatorRecord) (m : Moment) (xs : List Deed) (mid d : OperatorRecord) → mid.stage ≡ Leaves → mid.due ≡ c.due → IsSilent mid xs d → GoesOn c (failed m ∷ xs) d
when_lost c m xs mid d left kept s = when_silent c (failed m ∷ xs) d (ap is_through (s.there ∙ left)) s.none (s.sent ∙ kept)

left_is_through : (s : Stage) → is_draining s ≡ true → is_through s ≡ true
left_is_through Comes is = absurd (true≢false (sym is))
left_is_through Asks is = absurd (true≢false (sym is))
left_is_through HandsOver is = absurd (true≢false (sym is))
left_is_through Leaves is = refl

-- bytes came, and were dropped or not
when_fed : (c : OperatorRecord) (piece : List ℕ) (xs : List Deed) (mid d : OperatorRecord) → mid ≡ after_feed c piece → Runs mid xs d → GoesOn mid xs d
    → (b : Bool) → is_draining c.stage ≡ b → GoesOn c (came piece ∷ xs) d
when_fed c piece xs mid d is runs g true left =
    let there : mid.stage ≡ c.stage = ap (λ (e : OperatorRecord). e.stage) is in
    let through : is_through mid.stage ≡ true = ap is_through there ∙ left_is_through c.stage left in
    let s = silent mid xs d through runs in
    when_silent c (came piece ∷ xs) d (ap is_through s.there ∙ through) s.none (s.sent ∙ ap (λ (e : OperatorRecord). e.due) is)
when_fed c piece xs mid d is runs g false on =
    when_came c piece xs d
    (subst (λ (m : OperatorRecord). GoesOn m xs d) (is ∙ ap (λ (b : Bool). record c { reading = cond b c.reading (fed c.reading piece) }) on) g)

pub goes_on : (c : OperatorRecord) (deeds : List Deed) (d : OperatorRecord) → comes c.stage ≡ false → Runs c deeds d → GoesOn c deeds d
goes_on c [] d behind_it is = subst (λ (e : OperatorRecord). GoesOn c [] e) (sym is) (nothing_done c)
goes_on c (came piece ∷ xs) d behind_it (mid, feeds, runs) =
    when_fed c piece xs mid d (fed_behind c piece mid behind_it feeds) runs (goes_on mid xs d (has_come_still c (came piece) mid behind_it feeds) runs) (is_draining c.stage) refl
goes_on c (wrote bytes ∷ xs) d behind_it (mid, (n, first, is), runs) =
    when_wrote c bytes n xs d first (subst (λ (m : OperatorRecord). GoesOn m xs d) is (goes_on mid xs d (has_come_still c (wrote bytes) mid behind_it (n, first, is)) runs))
goes_on c (was_answered false m ∷ xs) d behind_it (mid, (none, same, is, more), runs) =
    when_still c (was_answered false m) xs d refl refl refl (subst (λ (m : OperatorRecord). GoesOn m xs d) is (goes_on mid xs d (has_come_still c (was_answered false m) mid behind_it (none, same, is, more)) runs))
goes_on c (failed m ∷ xs) d behind_it (mid, inl (none, same, is), runs) =
    when_still c (failed m) xs d refl refl refl (subst (λ (m : OperatorRecord). GoesOn m xs d) is (goes_on mid xs d (has_come_still c (failed m) mid behind_it (inl (none, same, is))) runs))
goes_on c (failed m ∷ xs) d behind_it (mid, inr (t, asking, says, (un, is)), runs) =
    when_lost c m xs mid d (ap (λ (e : OperatorRecord). e.stage) is) (ap (λ (e : OperatorRecord). e.due) is) (silent mid xs d (ap (λ (e : OperatorRecord). is_through e.stage) is) runs)
goes_on c (was_answered true m ∷ xs) d behind_it (mid, (t, asking, says, (frames, answer, is)), runs) =
    when_answered c m t frames mid.boards xs d asking says answer
    (subst (λ (m : OperatorRecord). GoesOn m xs d) is (goes_on mid xs d (has_come_still c (was_answered true m) mid behind_it (t, asking, says, (frames, answer, is))) runs))
goes_on c (was_pinged true ∷ xs) d behind_it (mid, (asked, pings), runs) =
    let on : GoesOn mid xs d = goes_on mid xs d (has_come_still c (was_pinged true) mid behind_it (asked, pings)) runs in
    when_pinged c xs d (subst (λ (m : OperatorRecord). GoesOn m xs d) (ping_put c mid true asked pings) on)
goes_on c (was_pinged false ∷ xs) d behind_it (mid, (asked, pings), runs) =
    let on : GoesOn mid xs d = goes_on mid xs d (has_come_still c (was_pinged false) mid behind_it (asked, pings)) runs in
    when_still c (was_pinged false) xs d refl refl refl (subst (λ (m : OperatorRecord). GoesOn m xs d) (ping_put c mid false asked pings) on)
goes_on c (was_sent_away true code ∷ xs) d behind_it (mid, (asked, closes), runs) =
    let is = close_put c mid true code asked closes in
    when_sent_away c code xs mid d is (silent mid xs d (ap (λ (e : OperatorRecord). is_through e.stage) is) runs)
goes_on c (was_sent_away false code ∷ xs) d behind_it (mid, (asked, closes), runs) =
    let on : GoesOn mid xs d = goes_on mid xs d (has_come_still c (was_sent_away false code) mid behind_it (asked, closes)) runs in
    when_still c (was_sent_away false code) xs d refl refl refl (subst (λ (m : OperatorRecord). GoesOn m xs d) (close_put c mid false code asked closes) on)
