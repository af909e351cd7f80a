-- What a connection is sent from its first byte on, by induction over all that happens.
use Rattle.std.proofs.Common.{◌≡◌, inl, inr, Bool, true, false, true≢false, ℕ, List, [], ◌∷◌, ◌++◌, take, drop, refl, sym, ◌∙◌, ap, subst, append_assoc, append-nil, arith}
use Rattle.std.specs.Prelude.{◌⊎◌, None, Some}
use Rattle.std.proofs.Math.Seq.{drop-nil, take-nil}
use Rattle.relay_frames.specs.declared.head.HeadSoFar.{HeadSoFar}
use Rattle.relay_frames.specs.declared.head.HeadSoFar.TheVariants.{Part, Whole, Refused}
use Rattle.relay_frames.specs.declared.request_refusal.RequestRefusal.{RequestRefusal}
use Rattle.relay_frames.specs.Heads.{head_so_far}
use Rattle.relay_frames.specs.Hearing.{Heard, behind, hear_all}
use Rattle.relay_frames.specs.Reading.{fed, opened}
use Rattle.relay_frames.specs.Requests.{Accepts, IsAnswered, acceptance_text, answer_text}
use Rattle.relay_frames.proofs.lemmas.Coming.{nothing_is_part, part_later, refused_still, same_head, same_rest, whole_still, whole_within}
use Rattle.relay_frames.proofs.lemmas.Hearings.{pieces_are_one}
use Rattle.relay_hall.specs.declared.owner.Owner.{Owner}
use Rattle.relay_service.specs.Calling.Answering.{OperatorRecord, asks, is_through, newcomer, nobody}
use Rattle.relay_service.specs.Calling.Coming.{Judged, Settled, owner_by, turned_away, welcomed}
use Rattle.relay_service.specs.declared.calling.operator_connection.TheConstants.{MOST_MESSAGES}
use Rattle.relay_service.specs.declared.calling.stage.Stage.{Stage}
use Rattle.relay_service.specs.declared.calling.stage.Stage.TheVariants.{Comes, Leaves}
use Rattle.relay_service.specs.Calling.Running.{AreSent, Cause, Deed, IsSent, IsSentOnly, IsServed, IsServedAt, Runs, bytes_of, came, causes_of, failed, pieces_of, was_answered, was_pinged, was_sent_away, written_of, wrote}
use Rattle.relay_service.proofs.CallingFacts.Hearing.{hear_no_more}
use Rattle.relay_service.proofs.CallingFacts.Sending.{GoesOn, goes_on, silent}

-- ---- Nothing more was due for what came before.

module _ (x : Deed) (xs : List Deed) (d : OperatorRecord) (causes : causes_of (x ∷ xs) ≡ causes_of xs) (writes : written_of (x ∷ xs) ≡ written_of xs) where
  only_on : (answer : List ℕ) (stage : Stage) → IsSentOnly answer stage xs d → IsSentOnly answer stage (x ∷ xs) d
  only_on answer stage s = record { none = causes ∙ s.none; sent = ap (λ (ys : List ℕ). ys ++ d.due) writes ∙ s.sent; there = s.there }

  sent_on : (who : Owner) (first bytes : List ℕ) → IsSent who first bytes xs d → IsSent who first bytes (x ∷ xs) d
  sent_on who first bytes s = record {
    events = s.events;
    frames = s.frames;
    rest = s.rest;
    heard = s.heard;
    few = s.few;
    answered = subst (λ (cs : List Cause). AreSent who [] MOST_MESSAGES cs s.events s.frames) (sym causes) s.answered;
    sent = ap (λ (ys : List ℕ). ys ++ d.due) writes ∙ s.sent;
    all = s.all;
  }

module _ (opener : ℕ) (takes_keys : Bool) where
  -- a connection of whose request this has come
  abbrev arriving : List ℕ → OperatorRecord
  arriving head = record (newcomer opener takes_keys) { head = head }

  abbrev IsServedBy : List ℕ → List Deed → OperatorRecord → Type 0
  IsServedBy bytes deeds d = IsServedAt (head_so_far bytes) opener takes_keys bytes deeds d

  served_on : (x : Deed) (xs : List Deed) (d : OperatorRecord) → causes_of (x ∷ xs) ≡ causes_of xs → written_of (x ∷ xs) ≡ written_of xs
      → (s : HeadSoFar) (bytes : List ℕ) → IsServedAt s opener takes_keys bytes xs d → IsServedAt s opener takes_keys bytes (x ∷ xs) d
  served_on x xs d causes writes Part bytes only = only_on x xs d causes writes [] Comes only
  served_on x xs d causes writes (Refused refusal) bytes only = only_on x xs d causes writes (answer_text refusal) Leaves only
  served_on x xs d causes writes (Whole end) bytes (inl (let_in, (value, accepts, sent))) =
      inl (let_in, (value, accepts, sent_on x xs d causes writes (owner_by takes_keys (take end bytes) (nobody opener)) (acceptance_text value) (drop end bytes) sent))
  served_on x xs d causes writes (Whole end) bytes (inr (refusal, refused, only)) = inr (refusal, refused, only_on x xs d causes writes (answer_text refusal) Leaves only)

  -- ---- Its head.

  -- more of it has to come
  waits : (head : List ℕ) (d : OperatorRecord) → head_so_far head ≡ Part → d ≡ arriving head → IsServedBy (head ++ []) [] d
  waits head d part is =
      subst (λ (bytes : List ℕ). IsServedBy bytes [] d) (sym (append-nil head))
      (subst (λ (s : HeadSoFar). IsServedAt s opener takes_keys head [] d) (sym part)
      (record { none = refl; sent = ap (λ (e : OperatorRecord). e.due) is; there = ap (λ (e : OperatorRecord). e.stage) is }))

  module _ (head : List ℕ) (mid : OperatorRecord) (xs : List Deed) (d : OperatorRecord) (runs : Runs mid xs d) where
    -- it is refused
    refused_then : (refusal : RequestRefusal) → mid ≡ turned_away (arriving head) refusal → IsSentOnly (answer_text refusal) Leaves xs d
    refused_then refusal is =
        let s = silent mid xs d (ap (λ (e : OperatorRecord). is_through e.stage) is) runs in
        record { none = s.none; sent = s.sent ∙ ap (λ (e : OperatorRecord). e.due) is; there = s.there ∙ ap (λ (e : OperatorRecord). e.stage) is }

    -- it is accepted
    accepted_then : (end : ℕ) (value : List ℕ) → mid ≡ welcomed (arriving head) end value
        → IsSent (owner_by takes_keys (take end head) (nobody opener)) (acceptance_text value) (drop end head ++ bytes_of xs) xs d
    accepted_then end value is =
        let g : GoesOn (welcomed (arriving head) end value) xs d = goes_on (welcomed (arriving head) end value) xs d refl (subst (λ (m : OperatorRecord). Runs m xs d) is runs) in
        let heard : behind g.events g.rest ≡ hear_all (fed opened (drop end head ++ bytes_of xs)) = g.heard ∙ pieces_are_one (drop end head ∷ pieces_of xs) in
        record {
          events = g.events;
          frames = g.bytes;
          rest = g.rest;
          heard = heard;
          few = g.few (λ asking. omega arith);
          answered = g.answered;
          sent = g.sent;
          all = λ asking none.
              sym (append-nil g.events)
              ∙ ap (λ ts. g.events ++ ts) (sym (ap (λ (h : Heard). h.told) (g.still asking) ∙ hear_no_more d.reading none))
              ∙ ap (λ (h : Heard). h.told) heard;
        }

    -- it is whole, and is judged
    abbrev IsServedWith : List ℕ → List ℕ → Type 0
    IsServedWith request rest =
        (IsAnswered request None × ((value : List ℕ) × Accepts request value × IsSent (owner_by takes_keys request (nobody opener)) (acceptance_text value) rest xs d))
        ⊎ ((refusal : RequestRefusal) × IsAnswered request (Some refusal) × IsSentOnly (answer_text refusal) Leaves xs d)

    judged_then : (end : ℕ) → Judged (arriving head) end mid → IsServedWith (take end head) (drop end head ++ bytes_of xs)
    judged_then end (inl (let_in, (value, accepts, is))) = inl (let_in, (value, accepts, accepted_then end value is))
    judged_then end (inr (refusal, refused, is)) = inr (refusal, refused, refused_then refusal is)

    whole_then : (end : ℕ) → head_so_far head ≡ Whole end → Judged (arriving head) end mid → IsServedBy (head ++ bytes_of xs) xs d
    whole_then end is judged =
        let within = whole_within head end is in
        subst (λ (s : HeadSoFar). IsServedAt s opener takes_keys (head ++ bytes_of xs) xs d) (sym (whole_still head (bytes_of xs) end is))
        (subst (λ (request : List ℕ). IsServedWith request (drop end (head ++ bytes_of xs))) (sym (same_head head (bytes_of xs) end within))
        (subst (λ (rest : List ℕ). IsServedWith (take end head) rest) (sym (same_rest head (bytes_of xs) end within)) (judged_then end judged)))

    settled_then : (s : HeadSoFar) → head_so_far head ≡ s → Settled (arriving head) s mid → (head_so_far head ≡ Part → mid ≡ arriving head → IsServedBy (head ++ bytes_of xs) xs d)
        → IsServedBy (head ++ bytes_of xs) xs d
    settled_then Part is settled later = later is settled
    settled_then (Whole end) is settled later = whole_then end is settled
    settled_then (Refused refusal) is settled later =
        subst (λ (s : HeadSoFar). IsServedAt s opener takes_keys (head ++ bytes_of xs) xs d) (sym (refused_still head (bytes_of xs) refusal is)) (refused_then refusal settled)

  -- ---- All that happens.

  never_asks : {A : Type 0} → asks Comes ≡ true → A
  never_asks asking = absurd (true≢false (sym asking))

  serves : (head : List ℕ) → head_so_far head ≡ Part → (deeds : List Deed) (d : OperatorRecord) → Runs (arriving head) deeds d → IsServedBy (head ++ bytes_of deeds) deeds d
  serves head part [] d is = waits head d part is
  serves head part (came piece ∷ xs) d (mid, arrives, runs) =
      let all = head ++ piece in
      let settled : Settled (arriving all) (head_so_far all) mid = subst (λ (s : HeadSoFar). Settled (arriving all) s mid) (part_later head piece part) arrives in
      let served : IsServedBy (all ++ bytes_of xs) xs d =
      settled_then all mid xs d runs (head_so_far all) refl settled (λ p is. serves all p xs d (subst (λ (m : OperatorRecord). Runs m xs d) is runs)) in
      subst (λ (bytes : List ℕ). IsServedBy bytes (came piece ∷ xs) d) (append_assoc head piece (bytes_of xs))
      (served_on (came piece) xs d refl refl (head_so_far (all ++ bytes_of xs)) (all ++ bytes_of xs) served)
  serves head part (wrote bytes ∷ xs) d (mid, (n, first, is), runs) =
      let same : mid ≡ arriving head = is ∙ ap (λ (due : List ℕ). record (arriving head) { due = due }) (drop-nil n) in
      served_on (wrote bytes) xs d refl (ap (λ (ys : List ℕ). ys ++ written_of xs) (first ∙ take-nil n)) (head_so_far (head ++ bytes_of xs)) (head ++ bytes_of xs)
      (serves head part xs d (subst (λ (m : OperatorRecord). Runs m xs d) same runs))
  serves head part (was_answered false m ∷ xs) d (mid, (none, same, is, more), runs) =
      served_on (was_answered false m) xs d refl refl (head_so_far (head ++ bytes_of xs)) (head ++ bytes_of xs) (serves head part xs d (subst (λ (m : OperatorRecord). Runs m xs d) is runs))
  serves head part (failed m ∷ xs) d (mid, inl (none, same, is), runs) =
      served_on (failed m) xs d refl refl (head_so_far (head ++ bytes_of xs)) (head ++ bytes_of xs) (serves head part xs d (subst (λ (m : OperatorRecord). Runs m xs d) is runs))
  serves head part (was_pinged false ∷ xs) d (mid, (asked, is), runs) =
      served_on (was_pinged false) xs d refl refl (head_so_far (head ++ bytes_of xs)) (head ++ bytes_of xs) (serves head part xs d (subst (λ (m : OperatorRecord). Runs m xs d) is runs))
  serves head part (was_sent_away false code ∷ xs) d (mid, (asked, is), runs) =
      served_on (was_sent_away false code) xs d refl refl (head_so_far (head ++ bytes_of xs)) (head ++ bytes_of xs) (serves head part xs d (subst (λ (m : OperatorRecord). Runs m xs d) is runs))
  serves head part (was_pinged true ∷ xs) d (mid, (asking, is), runs) = never_asks asking
  serves head part (was_sent_away true code ∷ xs) d (mid, (asking, is), runs) = never_asks asking
  serves head part (was_answered true m ∷ xs) d (mid, (t, asking, says, met), runs) = never_asks asking
  serves head part (failed m ∷ xs) d (mid, inr (t, asking, says, lost), runs) = never_asks asking

pub is_served : (opener : ℕ) (takes_keys : Bool) (deeds : List Deed) (d : OperatorRecord) → Runs (newcomer opener takes_keys) deeds d → IsServed opener takes_keys deeds d
is_served opener takes_keys deeds d runs = serves opener takes_keys [] nothing_is_part deeds d runs
