-- Events, one by one and all.
use Rattle.std.proofs.Common.{◌≡◌, ℕ, suc, List, [], ◌∷◌, length, fold, None, Some, refl, sym, ◌∙◌, ap, arith, append_assoc}
use Rattle.std.proofs.lemmas.Option.{none-some}
use Rattle.relay_frames.specs.Events.{Told}
use Rattle.relay_frames.specs.Hearing.{Heard, behind, hear_all, hear_piece}
use Rattle.relay_frames.specs.Reading.{Reading, fed, next_step}
use Rattle.relay_frames.proofs.lemmas.Hearings.{hear_told, hear_waited, hear_enough}
use Rattle.relay_frames.proofs.lemmas.Steps.{waited, told, steps}

abbrev mk_heard : List Told → Reading → Heard
mk_heard ts r = record { told = ts; then = r }

-- the next event, and then those that come from there on
pub hear_next : (r : Reading) (t : Told) → (next_step r).told ≡ Some t → hear_all r ≡ behind (t ∷ []) (hear_all (next_step r).then)
hear_next r t says =
    elim (steps r) [
      | waited is small ↦ absurd (none-some t (sym (ap (λ s. s.told) is) ∙ says))
      | told u next is f ↦
          let same : Some u ≡ Some t = sym (ap (λ s. s.told) is) ∙ says in
          let there : next ≡ (next_step r).then = sym (ap (λ s. s.then) is) in
          hear_told (length r.unread) r u next is
          ∙ ap (behind (u ∷ [])) (hear_enough (length r.unread) (suc (length next.unread)) next f.shorter (omega arith))
          ∙ cc (same, there)
    ]

-- there is none, and nothing is different
pub hear_none : (r : Reading) → (next_step r).told ≡ None → (next_step r).then ≡ r
hear_none r says =
    elim (steps r) [
      | waited is small ↦ ap (λ s. s.then) is
      | told u next is f ↦ absurd (none-some u (sym says ∙ ap (λ s. s.told) is))
    ]

pub hear_no_more : (r : Reading) → (next_step r).told ≡ None → (hear_all r).told ≡ []
hear_no_more r says =
    elim (steps r) [
      | waited is small ↦ ap (λ h. h.told) (hear_waited (length r.unread) r is)
      | told u next is f ↦ absurd (none-some u (sym says ∙ ap (λ s. s.told) is))
    ]

piece_behind : (before : List Told) (h : Heard) (piece : List ℕ) → hear_piece (behind before h) piece ≡ behind before (hear_piece h piece)
piece_behind before h piece =
    ap (λ (ts : List Told). mk_heard ts (hear_all (fed h.then piece)).then) (append_assoc before h.told (hear_all (fed h.then piece)).told)

-- what was heard before stays before
pub pieces_behind : (before : List Told) (h : Heard) (pieces : List (List ℕ)) → fold hear_piece (behind before h) pieces ≡ behind before (fold hear_piece h pieces)
pieces_behind before h [] = refl
pieces_behind before h (piece ∷ pieces) =
    ap (λ x. fold hear_piece x pieces) (piece_behind before h piece) ∙ pieces_behind before (hear_piece h piece) pieces
