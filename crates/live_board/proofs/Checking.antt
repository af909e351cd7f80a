-- 9 and 10. The board loads a cursor, and closes a follower that is full.
use Rattle.std.proofs.Common.{inl, inr, ◌⊎◌, ◌≢◌, ◌≡◌, ℕ, ◌+◌, ◌-◌, ◌*◌, ◌<◌, ◌≤◌, true, length, get_or, set, Option, Some, None, sym, refl, ap, ◌∙◌, subst, ⊎_elim, arith, eqb, eqb-true, length-set}
use Rattle.std.specs.Prelude.{IfSome}
use Rattle.std.proofs.lemmas.Option.{same_Some, none-some}
use mathlib.Core.Logic.{dite}
use mathlib.Core.Option.{some}
use native.Mathlib.Decide.{ℕ_discrete}
use lib.ListN.{get_elem?}
use Rattle.live_board.specs.declared.words.TheConstants.{MARK}
use Rattle.live_board.specs.SharedBoard.{SharedFollower, SharedBoard, next, with_follower}
use Rattle.live_board.specs.Events.{Close, Goes, changed, closed_at}
use Rattle.live_board.proofs.SharedFollowers.{with_here}
use Rattle.live_board.proofs.EventFacts.{goes}
use Rattle.live_board.specs.declared.setup.BoardSetup.{BoardSetup}
use Rattle.live_board.specs.declared.note.Note.{Note}
use Rattle.live_board.specs.declared.note.Note.TheVariants.{Vacant, Open, Closed}
use Rattle.live_board.specs.declared.step.BoardStep.{BoardStep}
use Rattle.live_board.specs.declared.step.BoardStep.TheVariants.{CursorLoaded, CursorExchanged}
use Rattle.live_board.specs.declared.view.Part.{Part}
use Rattle.live_board.specs.declared.view.View.{View}
use Rattle.live_board.specs.Words.{mark, cursor_of, cursor_word, closing_in, note_after}
use Rattle.live_board.specs.Views.{next_of, learns, making, only_at, told_by_cursor, closed_off}
use Rattle.live_board.specs.Shows.{Table, total, is_at, one_if, IsTrueNote, ShowsPart, ShowsBoard, Shows}
use Rattle.live_board.specs.Sound.{Follows}
use Rattle.live_board.specs.KindViews.{Sitting}
use Rattle.live_board.specs.Rule.{IsEvent, IsSilent}
use Rattle.live_board.specs.Kinds.{Sits, after, LoadsACursor, ClosesACursor}
use Rattle.live_board.proofs.Notes.{follower, closing_is, note_loaded, place_noted, Notes, notes_set, notes_put}
use Rattle.live_board.proofs.Parts.{part_other}
use Rattle.live_board.proofs.lemmas.Cases.{pick}
use Rattle.live_board.proofs.EachStep.{Parts, near, turned, silent, each_ok, only_keep, follower_cases}
use Rattle.live_board.proofs.lemmas.Totals.{total-map}
use Rattle.live_board.proofs.lemmas.Notes.{note_there, note_read}

-- ---- 9.

-- the board's view with another note, at a word that stays
noted_ok : (step : BoardStep) (z : BoardSetup) (a : SharedBoard) (s : Table) (r : Shows z a s) (k : ℕ) (v : View) → k < z.limits.followers → ShowsBoard z a s.words v
    → ShowsBoard z a s.words (making step (told_by_cursor (k + 2) (get_or s.words (k + 2) 0) v))
noted_ok step z a s r k v inside b =
    let at-k : k + 2 - 2 ≡ k = omega arith in
    let n : ℕ = get_or s.words (k + 2) 0 in
    let old = note_there v.notes k (let l = b.noted in omega arith) in
    let was : get_or v.notes k Vacant ≡ old.0 = note_read v.notes k old.0 old.1 in
    let true-note : IsTrueNote (note_after (get_or v.notes k Vacant) n) (a.followers k) =
    subst (λ (x : ℕ). IsTrueNote (note_after (get_or v.notes k Vacant) x) (a.followers k)) (sym (r.cursors k inside))
    (subst (λ (x : Note). IsTrueNote (note_after x (cursor_word (a.followers k))) (a.followers k)) (sym was) (note_loaded (a.followers k) (near z a s r k) old.0 (b.notes k old.0 old.1)).0) in
    record {
      log_is = b.log_is;
      outcome_is = b.outcome_is;
      setup_is = b.setup_is;
      stored = b.stored;
      noted = length-set v.notes (k + 2 - 2) (note_after (get_or v.notes (k + 2 - 2) Vacant) n) ∙ b.noted;
      checked = length-set v.checks (k + 2 - 2) (get_or v.checks (k + 2 - 2) 0 + 1) ∙ b.checked;
      notes = subst (λ (x : ℕ). Notes a.followers (set v.notes x (note_after (get_or v.notes x Vacant) n))) (sym at-k)
          (notes_put a.followers k v.notes (note_after (get_or v.notes k Vacant) n) b.notes true-note);
    }

pub learned_ok : (z : BoardSetup) (a : SharedBoard) (s : Table) (r : Shows z a s) (word : ℕ) (p : Part) → ShowsPart z a p → ShowsPart z a (only_at word (learns (get_or s.words word 0)) p)
learned_ok z a s r word p h =
    let n : ℕ = get_or s.words word 0 in
    pick (ShowsPart z a) (eqb (p.slot + 2) word) (learns n p) p
    (λ e. let is = eqb-true (p.slot + 2) word e in
    let was : n ≡ next_of p + MARK * mark h.closing = ap (λ (x : ℕ). get_or s.words x 0) (sym is) ∙ r.cursors p.slot h.inside ∙ ap cursor_word h.has in
    let near-by = near z a s r p.slot _ h.has in
    let shows-closing : closing_in n ≡ h.closing = ap closing_in was ∙ closing_is (next_of p) h.closing near-by in
    record {
      inside = h.inside;
      setup_is = h.setup_is;
      closing = h.closing;
      has = h.has;
      before = h.before;
      seen = h.seen;
      over = h.over;
      loaded = h.loaded;
      noticed = λ c e'. sym shows-closing ∙ e';
      unnoticed = λ c e' e''. absurd (none-some c (sym e' ∙ shows-closing ∙ e''));
    })
    (λ _. h)

-- a step that shows the board what a cursor says, and changes no word
told_silent : (step : BoardStep) (z : BoardSetup) (a : SharedBoard) (s : Table) (id : ℕ) (m : Sitting) → Shows z a s → Sits s id m → (k : ℕ) → k < z.limits.followers
    → IsSilent z a (after s (k + 2) (get_or s.words (k + 2) 0) id m (making step (told_by_cursor (k + 2) (get_or s.words (k + 2) 0) m.0)))
told_silent step z a s id m r seat k inside =
    let word : ℕ = k + 2 in
    let n : ℕ = get_or s.words word 0 in
    silent z a s r word id m (making step (told_by_cursor word n m.0)) seat refl (λ _ b. noted_ok step z a s r k m.0 inside b)
    (each_ok z a m.0.parts (only_at word (learns n)) (λ i p e. learned_ok z a s r word p (r.parts id m.0 seat i p e)))
    (λ j. total-map (is_at j) (only_at word (learns n)) (only_keep word j (learns n) (λ x. refl)) m.0.parts)

pub loads_a_cursor : LoadsACursor
loads_a_cursor z a s id m r seat k inside = told_silent (CursorLoaded (k + 2 - 2)) z a s id m r seat k inside

-- what a note becomes when its cursor is loaded
pub note_follows : (z : BoardSetup) (a : SharedBoard) (s : Table) (r : Shows z a s) (k id : ℕ) (v : View) → k < z.limits.followers → get_elem? s.views id ≡ some v → v.owns ≡ true
    → (n : Note) → get_elem? v.notes k ≡ some n
    → Follows n (note_after n (get_or s.words (k + 2) 0)) × ((j b : ℕ) → note_after n (get_or s.words (k + 2) 0) ≡ Open j b → length v.log ≤ b + v.setup.limits.capacity)
note_follows z a s r k id v inside seat owns n e =
    let b = (r.board id v seat owns).1 in
    let shown = r.cursors k inside in
    let near-by = near z a s r k in
    let long = ap length b.log_is in
    let wide = ap (λ (t : BoardSetup). t.limits.capacity) b.setup_is in (
      subst (λ (x : ℕ). Follows n (note_after n x)) (sym shown) (note_loaded (a.followers k) near-by n (b.notes k n e)).1,
      λ j l is.
          let t = place_noted (a.followers k) near-by n (b.notes k n e) j l (ap (note_after n) (sym shown) ∙ is) in
          let f = t.0 in
          let here = (r.shared.slots k f t.1).1 in
          let close = here.near t.2 in
          let same = t.3 in omega arith,
    )

-- ---- 10.

-- what the note says of an open cursor: there is the follower, open, and the place is its next
hit : (z : BoardSetup) (a : SharedBoard) (s : Table) (id : ℕ) (m : Sitting) (r : Shows z a s) (seat : get_elem? s.views id ≡ some m.0) (owns : m.0.owns ≡ true) (k p : ℕ) → k < z.limits.followers
    → p + z.limits.capacity ≡ length m.0.log → (f : SharedFollower) → a.followers k ≡ Some f → f.closing ≡ None → next f ≡ p
    → IsEvent z a (Close k) (after s (k + 2) (cursor_of p (Some (length m.0.log))) id m (closed_off (k + 2) m.0))
hit z a s id m r seat owns k p inside full f has none-yet is-next =
    let v = m.0 in
    let word : ℕ = k + 2 in
    let at-k : word - 2 ≡ k = omega arith in
    let board = (r.board id v seat owns).1 in
    let known : length v.log ≡ length a.log = ap length board.log_is in
    let o : Option SharedFollower = Some (closed_at (length a.log) f) in
    let c = changed a k o in
    let w = closed_off word v in
    let event : Goes z.limits a (Close k) c = (f, has, (none-yet, omega arith), refl) in
    let closed : (p : Part) → ShowsPart z a p → p.slot ≡ k → ShowsPart z c p = λ p h e.
    let same : follower p.joined p.taken h.closing ≡ f = same_Some _ _ (sym h.has ∙ ap a.followers e ∙ has) in
    let none-here : h.closing ≡ None = ap (λ (g : SharedFollower). g.closing) same ∙ none-yet in
    record {
      inside = h.inside;
      setup_is = h.setup_is;
      closing = Some (length a.log);
      has = ap (with_follower a.followers k o) e ∙ with_here a.followers k o ∙ (λ i. Some (follower (sym (ap (λ (g : SharedFollower). g.joined) same) i) (sym (ap (λ (g : SharedFollower). g.taken) same) i) (Some (length a.log))));
      before = h.before;
      noticed = λ d e'. absurd (none-some d (sym none-here ∙ h.noticed d e'));
      unnoticed = λ d _ e'. let l = same_Some _ _ e' in let g = ap next same in omega arith;
      seen = h.seen;
      over = h.over;
      loaded = h.loaded;
    } in
    let every : (j : ℕ) (u : View) → get_elem? s.views j ≡ some u → Parts z c u = λ j u e i p d. dite (ℕ_discrete p.slot k) (λ here. closed p (r.parts j u e i p d) here) (λ apart. part_other z a k o p (r.parts j u e i p d) apart) in (
      c,
      event,
      turned z a s r k o (cursor_of p (Some (length v.log))) id v w (goes z.limits a c (Close k) r.shared event) seat inside (omega arith) (λ j u ne e i p d same. every j u e i p d)
          (λ j u ne e ow. absurd (ne ((r.board j u e ow).0 ∙ sym (r.board id v seat owns).0)))
          refl refl refl refl refl (length-set v.notes (word - 2) (Closed (length v.log))) refl
          (λ _. subst (λ (x : ℕ). Notes (with_follower a.followers k o) (set v.notes x (Closed (length v.log)))) (sym at-k) (notes_set a.followers k o v.notes (Closed (length v.log)) board.notes (ap Some (sym known))))
          (every id v seat) (ap (λ (x : ℕ). total (is_at k) v.parts + x) (ap one_if has)) (λ j ne. refl),
    )

pub closes_a_cursor : ClosesACursor
closes_a_cursor z a s id m r seat owns k joined p inside note full =
    let board = (r.board id m.0 seat owns).1 in
    let shown = r.cursors k inside in
    let says : IfSome (a.followers k) (λ f. (f.joined ≡ joined) × (f.closing ≡ None) × (p ≤ next f)) = board.notes k (Open joined p) note in (
      (λ is.
          ⊎_elim
          (λ (nobody : a.followers k ≡ None). let x = ap cursor_word nobody in absurd (omega arith))
          (λ (t : (f : SharedFollower) × (a.followers k ≡ Some f)).
          let f = t.0 in
          let has = t.1 in
          let here : (f.joined ≡ joined) × (f.closing ≡ None) × (p ≤ next f) = subst (λ o. IfSome o (λ g. (g.joined ≡ joined) × (g.closing ≡ None) × (p ≤ next g))) has says in
          let x = ap cursor_word has in
          let y = ap mark here.1 in
          hit z a s id m r seat owns k p inside full f has here.1 (omega arith))
          (follower_cases (a.followers k))),
      λ _. told_silent (CursorExchanged (k + 2 - 2)) z a s id m r seat k inside,
    )

-- if the exchange fails, the follower has left or taken a move
pub missed : (z : BoardSetup) (a : SharedBoard) (s : Table) (r : Shows z a s) (id k joined p : ℕ) (v : View) → k < z.limits.followers → get_elem? s.views id ≡ some v → v.owns ≡ true
    → get_elem? v.notes k ≡ some (Open joined p) → get_or s.words (k + 2) 0 ≢ cursor_of p None
    → (get_or s.words (k + 2) 0 ≡ 0) ⊎ (cursor_of p None < get_or s.words (k + 2) 0)
missed z a s r id k joined p v inside seat owns note miss =
    let board = (r.board id v seat owns).1 in
    let shown = r.cursors k inside in
    let says : IfSome (a.followers k) (λ f. (f.joined ≡ joined) × (f.closing ≡ None) × (p ≤ next f)) = board.notes k (Open joined p) note in
    ⊎_elim
    (λ (nobody : a.followers k ≡ None). inl (shown ∙ ap cursor_word nobody))
    (λ (t : (f : SharedFollower) × (a.followers k ≡ Some f)).
    let f = t.0 in
    let here : (f.joined ≡ joined) × (f.closing ≡ None) × (p ≤ next f) = subst (λ o. IfSome o (λ g. (g.joined ≡ joined) × (g.closing ≡ None) × (p ≤ next g))) t.1 says in
    let x = ap cursor_word t.1 in
    let y = ap mark here.1 in
    let later = here.2 in
    inr (omega arith))
    (follower_cases (a.followers k))
