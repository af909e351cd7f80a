-- When a seat is a follower's.
use Rattle.std.proofs.Common.{◌≡◌, ℕ, ◌+◌, ◌<◌, ◌≤◌, [], ◌∷◌, length, unwrap_or, Option, Some, None, refl, sym, ap, ◌∙◌, cond, eq-eqb, lt-ltb, arith}
use Rattle.atomic_table.specs.Seated.{TableId}
use Rattle.atomic_table.specs.declared.shared.Seat.{Seat}
use mathlib.Core.Option.{none, some}
use lib.ListN.{get_elem?}
use Rattle.atomic_table.specs.Table.{step}
use Rattle.c960_board.specs.Moves.{Triple, IsMove}
use Rattle.c960_board.specs.MoveTexts.{move_code}
use Rattle.c960_game.specs.declared.outcome.Outcome.{Outcome}
use Rattle.live_board.specs.declared.setup.BoardSetup.{BoardSetup}
use Rattle.live_board.specs.declared.view.Part.{Part}
use Rattle.live_board.specs.declared.view.View.{View}
use Rattle.live_board.specs.Words.{word_count}
use Rattle.live_board.specs.Views.{next_of, next_word, carrying, each_part, finds, gains, holding, only_at}
use Rattle.live_board.specs.Sound.{IsSoundPart, IsSound}
use Rattle.live_board.specs.KindViews.{Sitting, reads}
use Rattle.live_board.specs.Accounts.{account_of}
use Rattle.live_board.specs.Seats.{part_of, IsFollower}

-- the part of a follower's view is sound
pub part_sound : (v : View) (z : BoardSetup) (p : Part) → v ≡ carrying z (p ∷ []) → IsSound v → IsSoundPart (part_of v)
part_sound v z p is sound = sound.parts 0 (part_of v) (ap (λ (u : View). get_elem? u.parts 0) is ∙ ap some (sym (ap part_of is)))

pub follower_of : {id : TableId} {key : BoardSetup} {seat : Seat (Unit {0}) View} {setup : BoardSetup} {slot joined taken seen : ℕ} {outcome : Option Outcome} {closing : Option ℕ} (p : Part) → seat.me.0 ≡ carrying setup (p ∷ []) → IsSound seat.me.0 → seat.me.1 ≡ []
    → seat.table_id ≡ id → id.words ≡ word_count setup.limits → key ≡ setup → p.setup ≡ setup → slot ≡ p.slot → joined ≡ p.joined → taken ≡ length p.taken → seen ≡ p.seen → outcome ≡ p.outcome → closing ≡ p.closing
    → IsFollower id key seat setup slot joined taken seen outcome closing
follower_of {seat = seat} {setup = setup} p one sound none-held table words key setup-is slot joined taken seen outcome closing =
    let is = ap part_of one in
    record {
      table = table;
      words = words;
      key_is = key;
      one = one ∙ ap (λ (q : Part). carrying setup (q ∷ [])) (sym is);
      none_held = none-held;
      setup_is = ap (λ (q : Part). q.setup) is ∙ setup-is;
      slot_is = slot ∙ ap (λ (q : Part). q.slot) (sym is);
      joined_is = joined ∙ ap (λ (q : Part). q.joined) (sym is);
      taken_is = taken ∙ ap (λ (q : Part). length q.taken) (sym is);
      seen_is = seen ∙ ap (λ (q : Part). q.seen) (sym is);
      outcome_is = outcome ∙ ap (λ (q : Part). q.outcome) (sym is);
      closing_is = closing ∙ ap (λ (q : Part). q.closing) (sym is);
      sound = part_sound seat.me.0 setup p one sound;
    }

-- the account of a part: the next place is not beyond the limit
pub account_within : (p : Part) → IsSoundPart p → (account_of p).joined + (account_of p).taken ≤ (account_of p).limit
account_within p sound = by p.closing refl
  where
    by : (o : Option ℕ) → p.closing ≡ o → p.joined + length p.taken ≤ unwrap_or o p.seen
    by None e = sound.within
    by (Some c) e = (sound.closing c e).0

-- the move that was looked for is held
pub found_is : (word : ℕ) (m : Triple) (p : Part) → next_of p < p.seen → next_word p ≡ word → finds word m p ≡ holding (Some m) p
found_is word m p near is = λ i. holding (cond (eq-eqb (next_word p) word is i) (cond (lt-ltb (next_of p) p.seen near i) (Some m) p.loaded) p.loaded) p

-- the part at its own cursor
pub only_is : (word : ℕ) (f : Part → Part) (p : Part) → p.slot + 2 ≡ word → only_at word f p ≡ f p
only_is word f p is = λ i. cond (eq-eqb (p.slot + 2) word is i) (f p) p

-- the move that a follower's seat has loaded
pub read_part : {id : TableId} {key : BoardSetup} {seat : Seat (Unit {0}) View} {setup : BoardSetup} {slot joined taken seen : ℕ} {outcome : Option Outcome} {closing : Option ℕ} → IsFollower id key seat setup slot joined taken seen outcome closing
    → (slots word r : ℕ) (after : Sitting) → reads (step slots word 0 0 none) seat.me r after → word ≡ setup.limits.followers + 2 + (joined + taken) → next_of (part_of seat.me.0) < (part_of seat.me.0).seen
    → (x : Triple) × IsMove x × (r ≡ move_code x) × (after.0 ≡ carrying setup (holding (Some x) (part_of seat.me.0) ∷ []))
read_part {seat = seat} {setup = setup} i slots word r after h at near =
    let p = part_of seat.me.0 in
    let same : next_word p ≡ word = omega (arith, at, i.joined_is, i.taken_is, ap (λ (z : BoardSetup). z.limits.followers) i.setup_is) in
    let t = h.1 0 p (ap (λ (u : View). get_elem? u.parts 0) i.one) same near in
    (t.0, t.1, t.2, t.3 ∙ ap (each_part (finds word t.0)) i.one ∙ ap (λ (q : Part). carrying setup (q ∷ [])) (found_is word t.0 p near same))

-- and its view after it has taken the move
pub taken_part : (w : View) (z : BoardSetup) (word r : ℕ) (q : Part) (v : View) → w ≡ each_part (only_at word (gains r)) v → v ≡ carrying z (q ∷ []) → q.slot + 2 ≡ word → w ≡ carrying z (gains r q ∷ [])
taken_part w z word r q v is one here = is ∙ ap (each_part (only_at word (gains r))) one ∙ ap (λ (x : Part). carrying z (x ∷ [])) (only_is word (gains r) q here)
