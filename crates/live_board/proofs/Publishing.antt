-- 2, 4 and 5. The board stores a cursor, a move, and the status.
use Rattle.std.proofs.Common.{◌≡◌, ℕ, zero, suc, ◌+◌, ◌<◌, ◌≢◌, List, [], ◌∷◌, ◌++◌, length, take, get_or, set, Option, Some, None, sym, refl, ap, ◌∙◌, subst, arith, length-append, length-set, get_or-set_other, get_or-set_same}
use Rattle.std.specs.Prelude.{IfSome}
use Rattle.std.proofs.Math.ListN.{get_or-append}
use Rattle.std.proofs.Math.Seq.{get_or-append_seam}
use Rattle.std.proofs.lemmas.List.{take-append-le}
use Rattle.std.proofs.lemmas.Option.{none-some, IfSome_then}
use mathlib.Core.Logic.{dite}
use mathlib.Core.Option.{some, some-injective}
use native.Mathlib.Decide.{ℕ_discrete}
use lib.ListN.{get_elem?}
use Rattle.c960_board.specs.Moves.{Triple}
use Rattle.c960_board.specs.MoveTexts.{move_code}
use Rattle.c960_rules.specs.Legal.{Legal}
use Rattle.c960_game.specs.declared.outcome.Outcome.{Outcome}
use Rattle.c960_game.specs.Ending.{named_outcome}
use Rattle.c960_game.specs.Ends.{own_outcome}
use Rattle.c960_game.specs.Ground.{Ground}
use Rattle.c960_game.specs.Positions.{last_position}
use Rattle.live_board.specs.SharedBoard.{SharedFollower, SharedBoard, no_move, move_at}
use Rattle.live_board.specs.Events.{Follow, Submit, End, Goes, IsFull, NobodyFull, changed, joining, with_move, ended_by}
use Rattle.live_board.proofs.SharedFollowers.{with_here}
use Rattle.live_board.proofs.EventFacts.{goes}
use Rattle.live_board.specs.declared.setup.BoardSetup.{BoardSetup}
use Rattle.live_board.specs.declared.note.Note.{Note}
use Rattle.live_board.specs.declared.note.Note.TheVariants.{Vacant, Open, Closed}
use Rattle.live_board.specs.declared.view.Part.{Part}
use Rattle.live_board.specs.declared.view.View.{View}
use Rattle.live_board.specs.Words.{cursor_of, status_word}
use Rattle.live_board.specs.Views.{next_of, newcomer, followed, storing, published, finished}
use Rattle.live_board.specs.Shows.{one_if, IsTrueNote, ShowsPart}
use Rattle.live_board.specs.Kinds.{StoresAnOpenCursor, StoresAMove, StoresTheLength, StoresTheOutcome}
use Rattle.live_board.proofs.lemmas.Notes.{note_there}
use Rattle.live_board.proofs.Notes.{notes_set}
use Rattle.live_board.proofs.Parts.{part_other, at_yes, at_no}
use Rattle.live_board.proofs.EachStep.{Parts, placed, turned}

-- ---- 2.

pub stores_an_open_cursor : StoresAnOpenCursor
stores_an_open_cursor z a s id m r seat owns k p inside note low close =
    let v = m.0 in
    let board = (r.board id v seat owns).1 in
    let known : length v.log ≡ length a.log = ap length board.log_is in
    let free : a.followers k ≡ None = board.notes k Vacant note in
    let o : Option SharedFollower = Some (joining p) in
    let b = changed a k o in
    let event : Goes z.limits a (Follow k p) b = (inside, free, omega arith, omega arith, refl) in
    let w = followed k p v in
    let nobody : (y : ℕ) (u : View) → get_elem? s.views y ≡ some u → (i : ℕ) (x : Part) → get_elem? u.parts i ≡ some x → x.slot ≢ k =
    λ y u e i x d same. none-some _ (sym free ∙ ap a.followers (sym same) ∙ (r.parts y u e i x d).has) in
    let joins : ShowsPart z b (newcomer k p v) = record {
      inside = inside;
      setup_is = board.setup_is;
      closing = None;
      has = with_here a.followers k o;
      before = ap (take p) board.log_is;
      noticed = λ c e. e;
      unnoticed = λ c _ e. absurd (none-some c e);
      seen = (omega arith, omega arith);
      over = λ x e. (sym board.outcome_is ∙ e, known);
      loaded = tt;
    } in
    let grown : (i : ℕ) (x : Part) → get_elem? w.parts i ≡ some x → ShowsPart z b x = front (ShowsPart z b) (newcomer k p v) v.parts joins (λ i x d. part_other z a k o x (r.parts id v seat i x d) (nobody id v seat i x d)) in
    let yes = at_yes k (newcomer k p v) refl in (
      b,
      event,
      turned z a s r k o (cursor_of p None) id v w (goes z.limits a b (Follow k p) r.shared event) seat inside (omega arith) (λ y u ne e i x d same. absurd (nobody y u e i x d same))
          (λ y u ne e ow. absurd (ne ((r.board y u e ow).0 ∙ sym (r.board id v seat owns).0)))
          refl refl refl refl refl (length-set v.notes k (Open p p)) refl
          (λ _. notes_set a.followers k o v.notes (Open p p) board.notes (refl, refl, omega arith))
          grown
          (let x = ap one_if free in omega arith)
          (λ y ne. let x = at_no y (newcomer k p v) (λ e. ne (sym e)) in omega arith),
    )
  where
    front : (P : Part → Type 0) (p : Part) (ps : List Part) → P p → ((i : ℕ) (x : Part) → get_elem? ps i ≡ some x → P x) → (i : ℕ) (x : Part) → get_elem? (p ∷ ps) i ≡ some x → P x
    front P p ps h all zero x e = subst P (some-injective p x e) h
    front P p ps h all (suc i) x e = all i x e

-- ---- 4.

pub stores_a_move : StoresAMove
stores_a_move z a s id m r seat owns item free =
    let v = m.0 in
    let w = storing item v in
    let b = (r.board id v seat owns).1 in
    let known : length v.log ≡ length a.log = ap length b.log_is in
    let word : ℕ = z.limits.followers + 2 + length v.log in
    let code : ℕ = move_code item in
    let ws : List ℕ = set s.words word code in
    let wide = r.count in
    let other : (j : ℕ) → j ≢ word → get_or ws j 0 ≡ get_or s.words j 0 = λ j ne. get_or-set_other s.words word j code 0 ne in
    placed z a a s r ws id v w seat (λ o. o) r.shared refl (length-set s.words word code) (other 0 (λ e. omega arith)) (other 1 (λ e. omega arith) ∙ r.status)
    (λ k h. other (k + 2) (λ e. omega arith) ∙ r.cursors k h)
    (λ k h. other (z.limits.followers + 2 + k) (λ e. omega arith) ∙ r.moves k h)
    (λ j u apart e. ((λ o. absurd (apart ((r.board j u e o).0 ∙ sym (r.board id v seat owns).0))), r.parts j u e)) (
      (λ _. (
        (r.board id v seat owns).0,
        record {
          log_is = b.log_is;
          outcome_is = b.outcome_is;
          setup_is = b.setup_is;
          noted = b.noted;
          checked = b.checked;
          notes = b.notes;
          stored = (omega arith, ap (λ (n : ℕ). get_or ws n 0) (omega arith) ∙ get_or-set_same s.words word code 0 (omega arith));
        },
      )),
      r.parts id v seat,
    )
    (λ k h. refl)

-- ---- 5.

-- a note that leaves no room for a full follower
not_full : (z : BoardSetup) (a : SharedBoard) (n : Note) (f : SharedFollower) → IsTrueNote n (Some f) → ((j b : ℕ) → n ≡ Open j b → length a.log < b + z.limits.capacity) → ¬ (IsFull z.limits a f)
not_full z a Vacant f h free full = absurd (none-some f (sym h))
not_full z a (Open j b) f h free full = let less = free j b refl in let later = h.2 in let is = full.1 in omega arith
not_full z a (Closed c) f h free full = none-some c (sym full.0 ∙ h)

pub stores_the_length : StoresTheLength
stores_the_length z a s id m r seat owns item stored going legal free =
    let v = m.0 in
    let w = published item v in
    let b = (r.board id v seat owns).1 in
    let first = (r.board id v seat owns).0 in
    let now : SharedBoard = with_move item a in
    let over : Option Outcome = own_outcome a.start (a.log ++ item ∷ []) in
    let known : length v.log ≡ length a.log = ap length b.log_is in
    let same-outcome : own_outcome z.start (v.log ++ item ∷ []) ≡ over = λ i. own_outcome (sym r.start_is i) (b.log_is i ++ item ∷ []) in
    let longer : length (a.log ++ item ∷ []) ≡ length a.log + 1 = length-append a.log (item ∷ []) in
    let n : ℕ = status_word (length v.log + 1) (own_outcome z.start (v.log ++ item ∷ [])) in
    let says : n ≡ status_word (length (a.log ++ item ∷ [])) over = (λ i. status_word (known i + 1) (same-outcome i)) ∙ ap (λ (x : ℕ). status_word x over) (sym longer) in
    let ws : List ℕ = set s.words 1 n in
    let wide = r.count in
    let there : (length a.log < z.limits.plies) × (get_or s.words (z.limits.followers + 2 + length a.log) 0 ≡ move_code item) = subst (λ o. IfSome o (λ x. (length a.log < z.limits.plies) × (get_or s.words (z.limits.followers + 2 + length a.log) 0 ≡ move_code x))) stored b.stored in
    let other : (k : ℕ) → k ≢ 1 → get_or ws k 0 ≡ get_or s.words k 0 = λ k ne. get_or-set_other s.words 1 k n 0 ne in
    let none-yet : a.outcome ≡ None = sym b.outcome_is ∙ going in
    let nobody-full : NobodyFull z.limits a = λ k f e.
    let t = note_there v.notes k (let i = (r.shared.slots k f e).0 in let l = b.noted in omega arith) in
    not_full z a t.0 f (subst (IsTrueNote t.0) e (b.notes k t.0 t.1)) (λ j c same. let x = free k j c (t.1 ∙ ap some same) in omega arith) in
    let event : Goes z.limits a (Submit item) now = (none-yet, there.0, subst (λ (y : ℕ × List Triple). Legal (last_position y.0 y.1) item) (λ i. (sym r.start_is i, b.log_is i)) legal, nobody-full, refl) in
    let parts : (u : View) → Parts z a u → Parts z now u = λ u h i p e. let o = h i p e in let seen = o.seen in record {
      inside = o.inside;
      setup_is = o.setup_is;
      closing = o.closing;
      has = o.has;
      before = o.before ∙ sym (take-append-le p.joined a.log (item ∷ []) (omega arith));
      noticed = o.noticed;
      unnoticed = o.unnoticed;
      seen = (seen.0, omega arith);
      over = λ x e'. absurd (none-some x (sym none-yet ∙ (o.over x e').0));
      loaded = IfSome_then p.loaded o.loaded (λ x t. (t.0, t.1 ∙ sym (get_or-append a.log (item ∷ []) no_move (next_of p) (let l = t.0 in omega arith))));
    } in (
      now,
      event,
      placed z a now s r ws id v w seat (λ o. o) (goes z.limits a now (Submit item) r.shared event) refl (length-set s.words 1 n) (other 0 (λ e. omega arith)) (get_or-set_same s.words 1 n 0 (omega arith) ∙ says)
          (λ k h. other (k + 2) (λ e. omega arith) ∙ r.cursors k h)
          (λ k h. other (z.limits.followers + 2 + k) (λ e. omega arith) ∙ dite (ℕ_discrete k (length a.log))
          (λ (e : k ≡ length a.log). ap (λ (x : ℕ). get_or s.words (z.limits.followers + 2 + x) 0) e ∙ (there.1 ∙ sym (ap (λ (x : ℕ). move_code (move_at (a.log ++ item ∷ []) x)) e ∙ ap move_code (get_or-append_seam a.log item [] no_move))))
          (λ ne. r.moves k (omega arith) ∙ ap move_code (sym (get_or-append a.log (item ∷ []) no_move k (omega arith)))))
          (λ j u apart e. ((λ o. absurd (apart ((r.board j u e o).0 ∙ sym first))), parts u (r.parts j u e))) (
            (λ _. (first, record { log_is = ap (λ (l : List Triple). l ++ item ∷ []) b.log_is; outcome_is = (λ i. own_outcome ((ap (λ (t : BoardSetup). t.start) b.setup_is) i) (v.log ++ item ∷ [])) ∙ same-outcome; setup_is = b.setup_is; stored = tt; noted = b.noted; checked = b.checked; notes = b.notes })),
            parts v (r.parts id v seat),
          )
          (λ k h. refl),
    )

pub stores_the_outcome : StoresTheOutcome
stores_the_outcome z a s id m r seat owns ending going has_ground =
    let v = m.0 in
    let b = (r.board id v seat owns).1 in
    let first = (r.board id v seat owns).0 in
    let o : Option Outcome = Some (named_outcome ending) in
    let now : SharedBoard = ended_by ending a in
    let known : length v.log ≡ length a.log = ap length b.log_is in
    let w = finished o v in
    let n : ℕ = status_word (length v.log) o in
    let ws : List ℕ = set s.words 1 n in
    let wide = r.count in
    let other : (k : ℕ) → k ≢ 1 → get_or ws k 0 ≡ get_or s.words k 0 = λ k ne. get_or-set_other s.words 1 k n 0 ne in
    let none-yet : a.outcome ≡ None = sym b.outcome_is ∙ going in
    let event : Goes z.limits a (End ending) now = (none-yet, subst (λ (y : ℕ × List Triple). Ground y.0 y.1 ending) (λ i. (sym r.start_is i, b.log_is i)) has_ground, refl) in
    let parts : (u : View) → Parts z a u → Parts z now u = λ u h i p e. let x = h i p e in record {
      inside = x.inside;
      setup_is = x.setup_is;
      closing = x.closing;
      has = x.has;
      before = x.before;
      noticed = x.noticed;
      unnoticed = x.unnoticed;
      seen = x.seen;
      loaded = x.loaded;
      over = λ y e'. absurd (none-some y (sym none-yet ∙ (x.over y e').0));
    } in (
      now,
      event,
      placed z a now s r ws id v w seat (λ o. o) (goes z.limits a now (End ending) r.shared event) refl (length-set s.words 1 n) (other 0 (λ e. omega arith)) (get_or-set_same s.words 1 n 0 (omega arith) ∙ ap (λ (x : ℕ). status_word x o) known)
          (λ k h. other (k + 2) (λ e. omega arith) ∙ r.cursors k h)
          (λ k h. other (z.limits.followers + 2 + k) (λ e. omega arith) ∙ r.moves k h)
          (λ j u apart e. ((λ x. absurd (apart ((r.board j u e x).0 ∙ sym first))), parts u (r.parts j u e))) (
            (λ _. (
              first,
              record {
                log_is = b.log_is;
                outcome_is = refl;
                setup_is = b.setup_is;
                noted = b.noted;
                checked = b.checked;
                notes = b.notes;
                stored = IfSome_then v.stored b.stored (λ x t. (t.0, other (z.limits.followers + 2 + length a.log) (λ e. omega arith) ∙ t.1));
              },
            )),
            parts v (r.parts id v seat),
          )
          (λ k h. refl),
    )
