-- The events of a peer do not depend on how its bytes are cut into pieces, and end with the last event.
use Rattle.std.proofs.Common.{◌≡◌, ℕ, zero, suc, ◌<◌, Bool, true, false, List, [], ◌∷◌, ◌++◌, length, fold, Option, None, refl, sym, ◌∙◌, ap, arith, append-nil, append_assoc}
use Rattle.std.proofs.lemmas.Option.{none-some}
use Rattle.std.specs.List.{concat}
use Rattle.websocket.specs.FrameHeader.{decode_header}
use Rattle.relay_frames.specs.Events.{Told}
use Rattle.relay_frames.specs.Reading.{Message, Reading, opened, over, fed, waits, next_step}
use Rattle.relay_frames.specs.Hearing.{silence, behind, hear_times, hear_all, hear_piece, hear_pieces, EndsWithTheLast, IsSmall}
use Rattle.relay_frames.proofs.lemmas.Steps.{Fits, Follows, waited, told, tells, steps}

-- one more time: the first step, and what comes from there on
pub hear_told : (n : ℕ) (r : Reading) (t : Told) (next : Reading) → next_step r ≡ tells t next → hear_times (suc n) r ≡ behind (t ∷ []) (hear_times n next)
unfolding hear_times
hear_told n r t next is = rw is refl

pub hear_waited : (n : ℕ) (r : Reading) → next_step r ≡ waits r → hear_times (suc n) r ≡ silence r
unfolding hear_times
hear_waited n r is = rw is refl

-- there is no event, and nothing is different
pub hear_none : (r : Reading) → (next_step r).told ≡ None → (next_step r).then ≡ r
hear_none r says =
    elim (steps r) [
      | waited is small ↦ ap (λ s. s.then) is
      | told u next is f ↦ absurd (none-some u (sym says ∙ ap (λ s. s.told) is))
    ]

-- more times than there are bytes are enough
pub hear_enough : (n m : ℕ) (r : Reading) → length r.unread < n → length r.unread < m → hear_times n r ≡ hear_times m r
hear_enough zero m r hn hm = absurd (omega (arith, hn))
hear_enough (suc n) zero r hn hm = absurd (omega (arith, hm))
hear_enough (suc n) (suc m) r hn hm =
    elim (steps r) [
      | waited is small ↦ hear_waited n r is ∙ sym (hear_waited m r is)
      | told t next is f ↦
          hear_told n r t next is
          ∙ ap (behind (t ∷ [])) (hear_enough n m next (omega (arith, f.shorter, hn)) (omega (arith, f.shorter, hm)))
          ∙ sym (hear_told m r t next is)
    ]

fed_shorter : (r : Reading) (t : Told) (next : Reading) → Follows r t next → (more : List ℕ) → length (fed next more).unread < length (fed r more).unread
fed_shorter r t next f more =
    elim (steps (fed r more)) [
      | waited is small ↦ absurd (cc (ap (λ s. s.told) (sym is ∙ f.same more)))
      | told u after is g ↦
          let same : after ≡ fed next more = ap (λ s. s.then) (sym is ∙ f.same more) in
          rw (← same) g.shorter
    ]

-- the events before a piece and after it are those when the piece has come at once
pub piece_after : (n : ℕ) (r : Reading) (more : List ℕ) → length r.unread < n → hear_piece (hear_times n r) more ≡ hear_all (fed r more)
piece_after zero r more h = absurd (omega (arith, h))
piece_after (suc n) r more h =
    elim (steps r) [
      | waited is small ↦ ap (λ x. hear_piece x more) (hear_waited n r is)
      | told t next is f ↦
          let shorter : length (fed next more).unread < length (fed r more).unread = fed_shorter r t next f more in
          ap (λ x. hear_piece x more) (hear_told n r t next is)
          ∙ ap (behind (t ∷ [])) (piece_after n next more (omega (arith, f.shorter, h))
          ∙ hear_enough _ _ (fed next more) (omega arith) shorter)
          ∙ sym (hear_told (length (fed r more).unread) (fed r more) t (fed next more) (f.same more))
    ]

fed_nothing : (bs : List ℕ) (begun : Option Message) (o : Bool) → fed (record { unread = bs; begun = begun; is_over = o }) [] ≡ record { unread = bs; begun = begun; is_over = o }
fed_nothing bs begun true = refl
fed_nothing bs begun false = rw append-nil refl

fed_twice : (bs : List ℕ) (begun : Option Message) (o : Bool) (xs ys : List ℕ)
    → fed (fed (record { unread = bs; begun = begun; is_over = o }) xs) ys ≡ fed (record { unread = bs; begun = begun; is_over = o }) (xs ++ ys)
fed_twice bs begun true xs ys = refl
fed_twice bs begun false xs ys = rw (append_assoc bs xs ys) refl

pieces_after : (r : Reading) (pieces : List (List ℕ)) → fold hear_piece (hear_all r) pieces ≡ hear_all (fed r (concat pieces))
pieces_after r [] = ap hear_all (sym (fed_nothing r.unread r.begun r.is_over))
pieces_after r (piece ∷ pieces) =
    ap (λ h. fold hear_piece h pieces) (piece_after (suc (length r.unread)) r piece (omega arith))
    ∙ pieces_after (fed r piece) pieces
    ∙ ap hear_all (fed_twice r.unread r.begun r.is_over piece (concat pieces))

pub opened_waits : next_step opened ≡ waits opened
unfolding next_step decode_header
opened_waits = refl

-- the events depend only on the bytes
pub pieces_are_one : (pieces : List (List ℕ)) → hear_pieces pieces ≡ hear_all (fed opened (concat pieces))
pieces_are_one pieces =
    ap (λ h. fold hear_piece h pieces) (sym (hear_waited 0 opened opened_waits)) ∙ pieces_after opened pieces

-- there are no events of a connection that has ended
over_is_silent : (n : ℕ) → (hear_times n over).told ≡ []
unfolding hear_times next_step
over_is_silent zero = refl
over_is_silent (suc n) = refl

ends_with_the_last : (n : ℕ) (r : Reading) → EndsWithTheLast (hear_times n r).told
unfolding hear_times
ends_with_the_last zero r = tt
ends_with_the_last (suc n) r =
    elim (steps r) [
      | waited is small ↦ rw is tt
      | told t next is f ↦
          rw is ((λ last. rw (f.last last) (over_is_silent n)), ends_with_the_last n next)
    ]

-- for any bytes in any pieces the last event is the last in the list
pub heard_ends_with_the_last : (pieces : List (List ℕ)) → EndsWithTheLast (hear_pieces pieces).told
heard_ends_with_the_last pieces = rw (pieces_are_one pieces) (ends_with_the_last _ (fed opened (concat pieces)))

-- what is kept while more bytes are waited for is small
times_small : (n : ℕ) (r : Reading) → length r.unread < n → Fits r → IsSmall (hear_times n r).then
times_small zero r enough f = absurd (omega (arith, enough))
times_small (suc n) r enough f =
    elim (steps r) [
      | waited is small ↦ rw (hear_waited n r is) (small f)
      | told t next is g ↦ rw (hear_told n r t next is) (times_small n next (omega (arith, enough, g.shorter)) (g.fits f))
    ]

fed_fits : (bytes : List ℕ) → Fits (fed opened bytes)
fed_fits bytes = record { message = omega arith; fragments = omega arith; ended = λ k. absurd (cc k) }

pub little_kept : (pieces : List (List ℕ)) → IsSmall (hear_pieces pieces).then
little_kept pieces =
    let bytes = fed opened (concat pieces) in
    rw (pieces_are_one pieces) (times_small (suc (length bytes.unread)) bytes (omega arith) (fed_fits (concat pieces)))
