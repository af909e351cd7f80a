-- A submit to a live board offers the move to its followers, as a queue would.
use Rattle.std.proofs.Common.{◌≡◌, ℕ, suc, ◌+◌, ◌-◌, ◌<◌, ◌≤◌, ◌≢◌, ◌&&◌, true, false, List, [], ◌∷◌, ◌++◌, map, length, drop, take, unwrap_or, Option, Some, None, sym, refl, ap, ◌∙◌, subst, ⊎_elim, arith, cond, eqb, eq-eqb, ne_eqb, length-append, length-drop}
use Rattle.std.proofs.Math.Seq.{take-length}
use Rattle.std.proofs.lemmas.List.{take-append-le, drop-append-le}
use mathlib.Core.Option.{some}
use lib.ListN.{get_elem?}
use Rattle.atomic_table.proofs.Lists.{at_map}
use Rattle.c960_board.specs.Moves.{Triple}
use Rattle.relay_core.specs.Held.Followers.{offered, closed_at, queued}
use Rattle.relay_core.specs.Held.{HeldFollower}
use Rattle.relay_core.specs.Name.{same_name}
use Rattle.relay_live.specs.declared.seated.Seated.{Seated}
use Rattle.live_board.specs.declared.setup.BoardSetup.{BoardSetup}
use Rattle.live_board.specs.declared.note.Note.{Note}
use Rattle.live_board.specs.declared.note.Note.TheVariants.{Vacant, Open, Closed}
use Rattle.live_board.specs.declared.view.Part.{Part}
use Rattle.live_board.specs.declared.view.View.{View}
use Rattle.live_board.specs.TableWriter.{Submitted}
use Rattle.live_board.specs.Carried.{Carries, Holding, closing_found, holding_of}
use Rattle.live_board.specs.Meeting.{closing_noted}
use Rattle.relay_live.specs.Live.{held_in, vacancy}
use Rattle.live_board.specs.Shows.{total}
use Rattle.live_board.specs.Sound.{IsSoundBoard, Agrees}
use Rattle.live_board.specs.Views.{next_of}
use Rattle.live_board.proofs.lemmas.Totals.{at_map_back}
use Rattle.live_board.proofs.lemmas.Notes.{note_there, at_within}
use Rattle.relay_live.proofs.Closings.{Closes, NoneNoticed, Turns, closes}

-- ---- One follower.

-- a follower by its closing and the log
abbrev pub shown : ℕ → Seated → List Triple → Option ℕ → HeldFollower
shown k f l o = record { board = f.board; joined = f.joined; taken = f.taken; cut = o; queue = drop (f.joined + f.taken) (take (unwrap_or o (length l)) l); capacity = k }

module _ (k : ℕ) (f : Seated) (name : List ℕ) (m : Triple) (l : List Triple) (mine : same_name name f.board ≡ true) (reached : f.joined + f.taken ≤ length l) where
  still_open : length l < f.joined + f.taken + k → shown k f (l ++ m ∷ []) None ≡ offered name (length l) m (shown k f l None)
  still_open room =
      let j : ℕ = f.joined + f.taken in
      let h = shown k f l None in
      let whole : take (length l) l ≡ l = take-length l in
      let count : length h.queue ≡ length l - j = length-drop j (take (length l) l) ∙ ap (λ (x : List Triple). length x - j) whole in
      let free : eqb (length h.queue) k ≡ false = ne_eqb (length h.queue) k (λ e. omega (arith, count, e)) in
      let queue : drop j (take (length (l ++ m ∷ [])) (l ++ m ∷ [])) ≡ h.queue ++ m ∷ [] =
      ap (drop j) (take-length (l ++ m ∷ [])) ∙ drop-append-le j l (m ∷ []) reached ∙ ap (λ (x : List Triple). drop j x ++ m ∷ []) (sym whole) in
      ap (λ (q : List Triple). record { board = f.board; joined = f.joined; taken = f.taken; cut = None; queue = q; capacity = k }) queue
      ∙ sym (λ i. cond (mine i && true) (cond (free i) (closed_at (length l) h) (queued m h)) h)

  now_closed : length l ≡ f.joined + f.taken + k → shown k f (l ++ m ∷ []) (Some (length l)) ≡ offered name (length l) m (shown k f l None)
  now_closed full =
      let j : ℕ = f.joined + f.taken in
      let h = shown k f l None in
      let whole : take (length l) l ≡ l = take-length l in
      let count : length h.queue ≡ length l - j = length-drop j (take (length l) l) ∙ ap (λ (x : List Triple). length x - j) whole in
      let none-free : eqb (length h.queue) k ≡ true = eq-eqb (length h.queue) k (omega (arith, count, full)) in
      let queue : drop j (take (length l) (l ++ m ∷ [])) ≡ h.queue = ap (drop j) (take-append-le (length l) l (m ∷ []) (omega arith)) in
      ap (λ (q : List Triple). record { board = f.board; joined = f.joined; taken = f.taken; cut = Some (length l); queue = q; capacity = k }) queue
      ∙ sym (λ i. cond (mine i && true) (cond (none-free i) (closed_at (length l) h) (queued m h)) h)

  stays_closed : (c : ℕ) → c ≤ length l → shown k f (l ++ m ∷ []) (Some c) ≡ offered name (length l) m (shown k f l (Some c))
  stays_closed c low =
      let h = shown k f l (Some c) in
      ap (λ (q : List Triple). record { board = f.board; joined = f.joined; taken = f.taken; cut = Some c; queue = drop (f.joined + f.taken) q; capacity = k }) (take-append-le c l (m ∷ []) low)
      ∙ sym (λ i. cond (mine i && false) (cond (eqb (length h.queue) k) (closed_at (length l) h) (queued m h)) h)

-- ---- What a note becomes.

gets_closed : (len : ℕ) (ps : List Part) (k j b c : ℕ) → Turns len ps k (Open j b) (Closed c) → (c ≡ len) × NoneNoticed ps k
gets_closed len ps k j b c g = ⊎_elim
    (λ (t : Closed c ≡ Vacant). absurd (vacant t))
    (λ t. ⊎_elim (λ (t : (d : ℕ) × (Closed c ≡ Open j d)). absurd (open_end t.0 t.1))
    (λ (t : (Closed c ≡ Closed len) × NoneNoticed ps k). (closed len t.0, t.1)) t) g
  where
    vacant : Closed c ≡ Vacant → ⊥
    vacant e = cc

    open_end : (d : ℕ) → Closed c ≡ Open j d → ⊥
    open_end d e = cc

    closed : (d : ℕ) → Closed c ≡ Closed d → c ≡ d
    closed d e = cc

was_closed : (len : ℕ) (ps : List Part) (k c : ℕ) (n : Note) (w : View) (q : Part) → Agrees w n q → Turns len ps k (Closed c) n → n ≡ Closed c
was_closed len ps k c n w q y g = ⊎_elim (λ (t : n ≡ Vacant). absurd (subst (λ (x : Note). Agrees w x q) t y)) (λ t. t) g

-- the follower's part in the new view
pub same_part : (v w : View) (i : ℕ) (p : Part) → map holding_of w.parts ≡ map holding_of v.parts → get_elem? v.parts i ≡ some p → (q : Part) × (get_elem? w.parts i ≡ some q) × (holding_of q ≡ holding_of p)
same_part v w i p same e = at_map_back holding_of w.parts i (holding_of p) (ap (λ (l : List (Holding)). get_elem? l i) same ∙ at_map holding_of v.parts i p e)

pub offered_here : (k : ℕ) (f : Seated) (name : List ℕ) (m : Triple) (v w : View) (i : ℕ) (p : Part) → IsSoundBoard v → IsSoundBoard w → v.setup.limits.capacity ≡ k → Submitted m v w → get_elem? v.parts i ≡ some p → p.slot ≡ f.slot → p.joined ≡ f.joined → length p.taken ≡ f.taken
    → same_name name f.board ≡ true → held_in k w f ≡ offered name (length v.log) m (held_in k v f)
offered_here k f name m v w i p ok ok' cap (u, tried, w-is) e at-slot joined taken mine =
    let inside : f.slot < v.setup.limits.followers = let x = (ok.inside i p e).0 in omega arith in
    let old = note_there v.notes f.slot (omega (arith, ok.noted, inside)) in
    let closes = closes v.setup.limits.followers v u tried in
    let u-is = closes.tidied.same in
    let notes : w.notes ≡ u.notes = ap (λ (x : View). x.notes) w-is in
    let log : w.log ≡ v.log ++ m ∷ [] = ap (λ (x : View). x.log) w-is ∙ ap (λ (x : View). x.log ++ m ∷ []) u-is in
    let setup : w.setup ≡ v.setup = ap (λ (x : View). x.setup) w-is ∙ ap (λ (x : View). x.setup) u-is in
    let parts-are : w.parts ≡ u.parts = ap (λ (x : View). x.parts) w-is in
    let new = note_there w.notes f.slot (omega (arith, ok'.noted, inside, ap (λ (z : BoardSetup). z.limits.followers) setup)) in
    let parts : map holding_of w.parts ≡ map holding_of v.parts = ap (map holding_of) parts-are ∙ closes.held in
    let q = same_part v w i p parts e in
    let here : q.0.slot ≡ f.slot = ap (λ (x : Holding). x.0) q.2 ∙ at-slot in
    let next : next_of q.0 ≡ next_of p = ap (λ (x : Holding). x.1 + length x.2) q.2 in
    let fits : Agrees v old.0 p = ok.agree i p e old.0 (ap (get_elem? v.notes) at-slot ∙ old.1) in
    let fits' : Agrees w new.0 q.0 = ok'.agree i q.0 q.1 new.0 (ap (get_elem? w.notes) here ∙ new.1) in
    let goes : Turns (length v.log) w.parts f.slot old.0 new.0 = subst (λ (l : List Part). Turns (length v.log) l f.slot old.0 new.0) (sym parts-are)
    (closes.turns f.slot old.0 new.0 inside old.1 (ap (λ (x : List Note). get_elem? x f.slot) (sym notes) ∙ new.1)) in
    let longer : length w.log ≡ length v.log + 1 = ap length log ∙ length-append v.log (m ∷ []) in
    let cap' : w.setup.limits.capacity ≡ k = ap (λ (z : BoardSetup). z.limits.capacity) setup ∙ cap in
    let sum : f.joined + f.taken ≡ next_of p = omega (arith, joined, taken) in
    let shown-new : held_in k w f ≡ shown k f (v.log ++ m ∷ []) (closing_noted new.0) = λ x. shown k f (log x) (closing_found (new.1 x)) in
    let shown-old : held_in k v f ≡ shown k f v.log (closing_noted old.0) = λ x. shown k f v.log (closing_found (old.1 x)) in
    shown-new ∙ by old.0 new.0 q.0 fits fits' goes q.1 here sum next longer cap' ∙ ap (offered name (length v.log) m) (sym shown-old)
  where
    by : (a b : Note) (q : Part) → Agrees v a p → Agrees w b q → Turns (length v.log) w.parts f.slot a b → get_elem? w.parts i ≡ some q → q.slot ≡ f.slot → f.joined + f.taken ≡ next_of p → next_of q ≡ next_of p → length w.log ≡ length v.log + 1
        → w.setup.limits.capacity ≡ k → shown k f (v.log ++ m ∷ []) (closing_noted b) ≡ offered name (length v.log) m (shown k f v.log (closing_noted a))
    by Vacant b q x y g there here sum next longer cap' = absurd x
    by (Open j b) Vacant q x y g there here sum next longer cap' = absurd y
    by (Open j b) (Open j' c) q x y g there here sum next longer cap' =
        let reached = x.3 in
        let near = y.4 in
        still_open k f name m v.log mine (omega arith) (omega arith)
    by (Open j b) (Closed c) q x y g there here sum next longer cap' =
        let t = gets_closed (length v.log) w.parts f.slot j b c g in
        let full = y.3 (t.1 i q there here) in
        let at = t.0 in
        let reached = x.3 in
        ap (λ (z : ℕ). shown k f (v.log ++ m ∷ []) (Some z)) t.0 ∙ now_closed k f name m v.log mine (omega arith) (omega arith)
    by (Closed c) b q x y g there here sum next longer cap' =
        let low = x.0 in
        let high = x.1 in
        let t : b ≡ Closed c = was_closed (length v.log) w.parts f.slot c b w q y g in
        ap (λ (n : Note). shown k f (v.log ++ m ∷ []) (closing_noted n)) t ∙ stays_closed k f name m v.log mine (omega arith) c high

-- ---- Vacant slots.

pub total_same : (g : Note → ℕ) (l l' : List Note) → length l' ≡ length l → ((k : ℕ) (a b : Note) → get_elem? l k ≡ some a → get_elem? l' k ≡ some b → g b ≡ g a) → total g l' ≡ total g l
total_same g [] [] e all = refl
total_same g [] (y ∷ ys) e all = absurd (omega arith)
total_same g (x ∷ xs) [] e all = absurd (omega arith)
total_same g (x ∷ xs) (y ∷ ys) e all = omega (arith, all 0 x y refl refl, total_same g xs ys (omega arith) (λ k a b d d'. all (suc k) a b d d'))

-- what a submit leaves as it was
module _ (m : Triple) (v w : View) (sub : Submitted m v w) where
  pub shut : Closes v.setup.limits.followers v sub.0
  shut = closes v.setup.limits.followers v sub.0 sub.1

  pub still_owns : w.owns ≡ v.owns
  still_owns = ap (λ (x : View). x.owns) sub.2 ∙ ap (λ (x : View). x.owns) shut.tidied.same

  pub setup-is : w.setup ≡ v.setup
  setup-is = ap (λ (x : View). x.setup) sub.2 ∙ ap (λ (x : View). x.setup) shut.tidied.same

  pub bares : map holding_of w.parts ≡ map holding_of v.parts
  bares = ap (λ (x : View). map holding_of x.parts) sub.2 ∙ shut.held

-- what it does to the notes, if each slot that is not vacant is carried
module _ (m : Triple) (v w : View) (ok' : IsSoundBoard w) (sub : Submitted m v w) (noted : length v.notes ≡ v.setup.limits.followers) (carried : (k : ℕ) (n : Note) → get_elem? v.notes k ≡ some n → n ≢ Vacant → Carries v k) where
  notes-are : w.notes ≡ sub.0.notes
  notes-are = ap (λ (x : View). x.notes) sub.2

  carried_on : (k : ℕ) → Carries v k → Carries w k
  carried_on k (i, p, e, here) = let q = same_part v w i p (bares m v w sub) e in (i, q.0, q.1, ap (λ (x : Holding). x.0) q.2 ∙ here)

  not_vacant : (k : ℕ) (n : Note) → get_elem? w.notes k ≡ some n → Carries v k → n ≢ Vacant
  not_vacant k n e c is =
      let d = carried_on k c in
      ok'.agree d.0 d.1 d.2 Vacant (ap (get_elem? w.notes) d.3 ∙ e ∙ ap some is)

  goes_at : (k : ℕ) (a n : Note) → get_elem? v.notes k ≡ some a → get_elem? w.notes k ≡ some n → Turns (length v.log) sub.0.parts k a n
  goes_at k a n e d = (shut m v w sub).turns k a n (let x = at_within v.notes k a e in omega arith) e (ap (λ (l : List Note). get_elem? l k) (sym notes-are) ∙ d)

  -- vacant before exactly if vacant after
  pub same_vacancy : (k : ℕ) (a n : Note) → get_elem? v.notes k ≡ some a → get_elem? w.notes k ≡ some n → vacancy n ≡ vacancy a
  same_vacancy k Vacant n e d = ap vacancy (goes_at k Vacant n e d)
  same_vacancy k (Open j b) n e d = none n (not_vacant k n d (carried k (Open j b) e (λ z. cc)))
    where
      none : (n : Note) → n ≢ Vacant → vacancy n ≡ 0
      none Vacant ne = absurd (ne refl)
      none (Open j' c) ne = refl
      none (Closed c) ne = refl
  same_vacancy k (Closed b) n e d = none n (not_vacant k n d (carried k (Closed b) e (λ z. cc)))
    where
      none : (n : Note) → n ≢ Vacant → vacancy n ≡ 0
      none Vacant ne = absurd (ne refl)
      none (Open j' c) ne = refl
      none (Closed c) ne = refl

  pub carried_after : (k : ℕ) (n : Note) → get_elem? w.notes k ≡ some n → n ≢ Vacant → Carries w k
  carried_after k n e ne =
      let a = note_there v.notes k (let x = at_within w.notes k n e in let f = ap (λ (z : BoardSetup). z.limits.followers) (setup-is m v w sub) in omega (arith, ok'.noted)) in
      by a.0 a.1
    where
      by : (a : Note) → get_elem? v.notes k ≡ some a → Carries w k
      by Vacant d = absurd (ne (goes_at k Vacant n d e))
      by (Open j b) d = carried_on k (carried k (Open j b) d (λ z. cc))
      by (Closed b) d = carried_on k (carried k (Closed b) d (λ z. cc))

  pub vacancies : total vacancy w.notes ≡ total vacancy v.notes
  vacancies = total_same vacancy v.notes w.notes (let f = ap (λ (z : BoardSetup). z.limits.followers) (setup-is m v w sub) in omega (arith, ok'.noted)) same_vacancy
