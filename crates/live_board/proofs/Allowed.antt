-- Each kind of step is allowed by the table's rule, and shows what its play says.
use Rattle.std.proofs.Common.{◌≡◌, ℕ, ◌+◌, ◌-◌, ◌*◌, ◌/◌, ◌%◌, ◌^◌, ◌<◌, ◌≤◌, true, List, [], ◌∷◌, ◌++◌, length, get_or, replicate, Some, None, sym, refl, ap, ◌∙◌, subst, arith, cond, eqb, eq-eqb}
use mathlib.Core.Option.{none, some}
use lib.ListN.{get_elem?}
use prog.Atomic.{either}
use Rattle.atomic_table.specs.Table.{step, Act, keeps, Valid, carried_after, stepped, opening, Allows, Splits, Joins}
use Rattle.atomic_table.proofs.Lists.{exchanged}
use Rattle.c960_board.specs.declared.numbering.TheConstants.{STARTS}
use Rattle.c960_board.specs.Moves.{Triple, IsMove}
use Rattle.c960_board.specs.MoveTexts.{move_code}
use Rattle.c960_rules.specs.Legal.{Legal}
use Rattle.c960_game.specs.declared.ending.Ending.{Ending}
use Rattle.c960_game.specs.Ending.{named_outcome}
use Rattle.c960_game.specs.Ends.{own_outcome}
use Rattle.c960_game.specs.Ground.{Ground}
use Rattle.c960_game.specs.Positions.{last_position}
use Rattle.live_board.specs.declared.words.TheConstants.{FIELD, MARK}
use Rattle.live_board.specs.Limits.{AreBoardLimits}
use Rattle.live_board.specs.SharedBoard.{move_at}
use Rattle.live_board.specs.Events.{Event, Open, Follow, Close, Submit, End, Take, Leave, opened}
use Rattle.live_board.proofs.EventFacts.{runs_more}
use Rattle.live_board.specs.declared.setup.BoardSetup.{BoardSetup}
use Rattle.live_board.specs.declared.note.Note.TheVariants.{Vacant, Open as OpenNote}
use Rattle.live_board.specs.declared.view.Part.{Part}
use Rattle.live_board.specs.declared.view.View.{View}
use Rattle.live_board.specs.Words.{closing_in, cursor_at, move_word_at, header_word, status_word, cursor_of, outcome_number, outcome_numbered}
use Rattle.live_board.specs.Views.{next_of, starting, followed, kept_part, given_part, storing, published, finished, each_part, sees, finds, gains, learns, only_at, carrying, noted, missing, closed_off, left_at, taking_in, spent}
use Rattle.live_board.specs.Shows.{Table, ShowsPart, Shows}
use Rattle.live_board.specs.Rule.{ShowsReached, IsEvent}
use Rattle.live_board.specs.KindViews.{Sitting, follows, stores, publishes, finishes, looks, reads, takes, checks, closes, leaves}
use Rattle.live_board.specs.Kinds.{after}
use Rattle.live_board.proofs.Checking.{loads_a_cursor, learned_ok, note_follows, closes_a_cursor, missed}
use Rattle.live_board.proofs.Codes.{code_same, logged_is_move, outcome_back}
use Rattle.live_board.proofs.Handing.{splits_off, splits_off_nothing, joins_parts}
use Rattle.live_board.proofs.Leaving.{swaps_out}
use Rattle.live_board.proofs.Looking.{status_says, loads_the_status, loads_a_move}
use Rattle.live_board.proofs.Opening.{makes_the_table}
use Rattle.live_board.proofs.Publishing.{stores_an_open_cursor, stores_a_move, stores_the_length, stores_the_outcome}
use Rattle.live_board.proofs.SoundViews.{sound_part, told}
use Rattle.live_board.proofs.Taking.{adds_one, closing_shown}
use Rattle.std.proofs.lemmas.Option.{same_Some}

-- the rule after an event, and after a silent step
kept_event : (z : BoardSetup) (s t : Table) (q : ShowsReached z s) (e : Event) → IsEvent z q.now e t → ShowsReached z t
kept_event z s t q e h = record { events = q.events ++ e ∷ []; now = h.0; runs = runs_more z.limits None q.events q.now e h.0 q.runs h.1; shows = h.2 }

kept_silent : (z : BoardSetup) (s t : Table) (q : ShowsReached z s) → Shows z q.now t → ShowsReached z t
kept_silent z s t q shows = record { events = q.events; now = q.now; runs = q.runs; shows = shows }

-- 1
pub table_made : (z : BoardSetup) → z.start < STARTS → AreBoardLimits z.limits → (ws : List ℕ)
    → ws ≡ header_word z.start z.limits.capacity ∷ replicate (z.limits.followers + z.limits.plies + 1) 0 → ShowsReached z (opening ws [] (starting z))
table_made z numbered limits ws is =
    let h = makes_the_table z numbered limits ws is in
    record { events = Open z.start ∷ []; now = opened z.start; runs = (opened z.start, h.0, refl); shows = h.1 }

-- 2
pub allows_following : (z : BoardSetup) (slots id : ℕ) (m : Sitting) (k p : ℕ) → k < z.limits.followers → m.0.owns ≡ true → get_elem? m.0.notes k ≡ some Vacant → p ≤ length m.0.log → length m.0.log ≤ p + z.limits.capacity
    → p < MARK
    → Allows (ShowsReached z) slots id m (cursor_at k) (λ _. cursor_of p None) (λ _. follows (step slots (cursor_at k) (cursor_of p None) 0 none) m (cursor_of p None))
allows_following z slots id m k p inside owns note low close small s q _ seat _ =
    let w = followed k p m.0 in
    let at-k : k + 2 - 2 ≡ k = omega arith in
    let place : (p + MARK * 1) % MARK ≡ p = omega arith in
    let kept = kept_event z s (after s (k + 2) (cursor_of p None) id m w) q (Follow k p) (stores_an_open_cursor z q.now s id m q.shows seat owns k p inside note low close) in
    (w, keeps, tt, kept, (told z s (k + 2) (cursor_of p None) id m w seat kept, λ i. followed (sym at-k i) (sym place i) m.0))

-- 3
pub allows_splitting : (z : BoardSetup) (id : ℕ) (v : View) → Splits (ShowsReached z) id v (kept_part v) (given_part v)
allows_splitting z id v s q seat = kept_silent z s _ q (splits_off z q.now s id v q.shows seat)

pub allows_sparing : (z : BoardSetup) (id : ℕ) (v : View) → Splits (ShowsReached z) id v v (carrying v.setup [])
allows_sparing z id v s q seat = kept_silent z s _ q (splits_off_nothing z q.now s id v q.shows seat)

-- 4
pub allows_storing : (z : BoardSetup) (slots id : ℕ) (m : Sitting) (x : Triple) → m.0.owns ≡ true → IsMove x → length m.0.log < z.limits.plies
    → Allows (ShowsReached z) slots id m (move_word_at z.limits (length m.0.log)) (λ _. move_code x) (λ _. stores (step slots (move_word_at z.limits (length m.0.log)) (move_code x) 0 none) m (move_code x))
allows_storing z slots id m x owns move free s q _ seat _ =
    let w = storing x m.0 in
    let kept = kept_silent z s (after s (move_word_at z.limits (length m.0.log)) (move_code x) id m w) q (stores_a_move z q.now s id m q.shows seat owns x free) in
    (w, keeps, tt, kept, (told z s _ _ id m w seat kept, λ y y-move same. ap (λ (t : Triple). storing t m.0) (code_same x y move y-move same)))

-- 5
pub allows_publishing : (z : BoardSetup) (slots id : ℕ) (m : Sitting) (x : Triple) → m.0.owns ≡ true → m.0.stored ≡ Some x → m.0.outcome ≡ None → Legal (last_position z.start m.0.log) x
    → ((k j b : ℕ) → get_elem? m.0.notes k ≡ some (OpenNote j b) → length m.0.log < b + z.limits.capacity) → (n : ℕ) → n ≡ status_word (length m.0.log + 1) (own_outcome z.start (m.0.log ++ x ∷ []))
    → Allows (ShowsReached z) slots id m 1 (λ _. n) (λ _. publishes (step slots 1 n 0 none) m n)
allows_publishing z slots id m x owns stored going legal free n is s q _ seat _ =
    let w = published x m.0 in
    let kept : ShowsReached z (after s 1 n id m w) = subst (λ (t : ℕ). ShowsReached z (after s 1 t id m w)) (sym is) (kept_event z s _ q (Submit x) (stores_the_length z q.now s id m q.shows seat owns x stored going legal free)) in
    (w, keeps, tt, kept, (told z s 1 n id m w seat kept, λ y e. ap (λ (t : Triple). published t m.0) (same_Some x y (sym stored ∙ e))))

pub allows_finishing : (z : BoardSetup) (slots id : ℕ) (m : Sitting) (e : Ending) → m.0.owns ≡ true → m.0.outcome ≡ None → Ground z.start m.0.log e → length m.0.log < FIELD → (n : ℕ) → n ≡ status_word (length m.0.log) (Some (named_outcome e))
    → Allows (ShowsReached z) slots id m 1 (λ _. n) (λ _. finishes (step slots 1 n 0 none) m n)
allows_finishing z slots id m e owns going ground-holds short n is s q _ seat _ =
    let w = finished (Some (named_outcome e)) m.0 in
    let number : n / FIELD ≡ outcome_number (Some (named_outcome e)) = omega arith in
    let kept : ShowsReached z (after s 1 n id m w) = subst (λ (t : ℕ). ShowsReached z (after s 1 t id m w)) (sym is) (kept_event z s _ q (End e) (stores_the_outcome z q.now s id m q.shows seat owns e going ground-holds)) in
    (w, keeps, tt, kept, (told z s 1 n id m w seat kept, ap (λ o. finished o m.0) (sym (ap outcome_numbered number ∙ outcome_back (Some (named_outcome e))))))

-- 6
pub allows_looking : (z : BoardSetup) (slots id : ℕ) (m : Sitting) → Allows (ShowsReached z) slots id m 1 (λ n. n) (looks (step slots 1 0 0 none) m)
allows_looking z slots id m s q _ seat _ =
    let r = q.shows in
    let n : ℕ = get_or s.words 1 0 in
    let w = each_part (sees n) m.0 in
    let says = status_says z q.now s r in
    let len = says.0 in
    let kept = kept_silent z s (after s 1 n id m w) q (loads_the_status z q.now s id m r seat) in (
      w,
      keeps,
      tt,
      kept,
      (
        told z s 1 n id m w seat kept,
        refl,
        (λ i p e.
            let h = r.parts id m.0 seat i p e in
            let seen = h.seen in
            let most = seen.1 in (omega arith, λ c e'. let here = (r.shared.slots p.slot _ h.has).1 in let l = (here.closed c (h.noticed c e')).1 in omega arith, λ o e'. says.1 ∙ (h.over o e').0)),
        λ owns. let b = (r.board id m.0 seat owns).1 in (len ∙ sym (ap length b.log_is), says.1 ∙ sym b.outcome_is),
      ),
    )

-- 7
pub allows_reading : (z : BoardSetup) (slots id : ℕ) (m : Sitting) (place : ℕ) → Allows (ShowsReached z) slots id m (move_word_at z.limits place) (λ n. n) (reads (step slots (move_word_at z.limits place) 0 0 none) m)
allows_reading z slots id m place s q _ seat _ =
    let r = q.shows in
    let word : ℕ = z.limits.followers + 2 + place in
    let n : ℕ = get_or s.words word 0 in
    let x = move_at q.now.log place in
    let w = each_part (finds word x) m.0 in
    let law = loads_a_move z q.now s id m r seat place in
    let kept = kept_silent z s (after s word n id m w) q law.1 in (
      w,
      keeps,
      tt,
      kept,
      (
        told z s word n id m w seat kept,
        λ i p e is before.
            let h = r.parts id m.0 seat i p e in
            let seen = h.seen in
            let most = seen.1 in
            let size = ap (λ (t : BoardSetup). t.limits.followers) h.setup_is in
            let here : place ≡ next_of p = omega arith in (
              x,
              logged_is_move q.now.start q.now.log r.shared.game place,
              law.0 (omega arith),
              refl,
              λ owns. ap (move_at q.now.log) here ∙ ap (λ (l : List Triple). move_at l (next_of p)) (sym (r.board id m.0 seat owns).1.log_is),
            ),
      ),
    )

-- a closing that a part knows is what its cursor says
known_shown : (z : BoardSetup) (s : Table) (id : ℕ) (m : Sitting) (word : ℕ) → ShowsReached z s → get_elem? s.views id ≡ some m.0
    → (i : ℕ) (p : Part) → get_elem? m.0.parts i ≡ some p → p.slot + 2 ≡ word → (c : ℕ) → p.closing ≡ Some c → closing_in (get_or s.words word 0) ≡ Some c
known_shown z s id m word q seat i p e at c known =
    let h = q.shows.parts id m.0 seat i p e in
    ap (λ (y : ℕ). closing_in (get_or s.words y 0)) (sym at) ∙ closing_shown z q.now s q.shows p h ∙ h.noticed c known

-- 8
pub allows_taking : (z : BoardSetup) (slots id : ℕ) (m : Sitting) (i : ℕ) (p : Part) (x : Triple) → get_elem? m.0.parts i ≡ some p → p.loaded ≡ Some x → ((c : ℕ) → p.closing ≡ Some c → next_of p < c)
    → Allows (ShowsReached z) slots id m (cursor_at p.slot) (λ n. (n + 1) % 2 ^ 64) (takes (step slots (cursor_at p.slot) 1 0 none) m)
allows_taking z slots id m i p x mine known unclosed s q _ seat _ =
    let word : ℕ = p.slot + 2 in
    let n : ℕ = get_or s.words word 0 in
    let w = each_part (only_at word (gains n)) m.0 in
    let kept = kept_event z s (after s word ((n + 1) % 2 ^ 64) id m w) q (Take p.slot) (adds_one z q.now s id m q.shows seat i p x mine known unclosed) in (
      w,
      keeps,
      tt,
      kept,
      (
        told z s word ((n + 1) % 2 ^ 64) id m w seat kept,
        refl,
        known_shown z s id m word q seat,
      ),
    )

-- 9
pub allows_checking : (z : BoardSetup) (slots id : ℕ) (m : Sitting) (k : ℕ) → k < z.limits.followers → Allows (ShowsReached z) slots id m (cursor_at k) (λ n. n) (checks (step slots (cursor_at k) 0 0 none) m)
allows_checking z slots id m k inside s q _ seat _ =
    let word : ℕ = k + 2 in
    let n : ℕ = get_or s.words word 0 in
    let w = noted word n m.0 in
    let at-k : k + 2 - 2 ≡ k = omega arith in
    let kept = kept_silent z s (after s word n id m w) q (loads_a_cursor z q.now s id m q.shows seat k inside) in (
      w,
      keeps,
      tt,
      kept,
      (
        told z s word n id m w seat kept,
        refl,
        (λ owns note e. note_follows z q.now s q.shows k id m.0 inside seat owns note (ap (get_elem? m.0.notes) (sym at-k) ∙ e)),
        known_shown z s id m word q seat,
      ),
    )

-- 10
abbrev Made : BoardSetup → Table → ℕ → ℕ → Sitting → (ℕ → Sitting → Type 0) → ℕ → Type 0
Made z s i id m then-told k = (w : View) × (x : Act (Unit {0})) × Valid s.homes m.1 x × ShowsReached z (stepped s i k id m.1 w x) × then-told (get_or s.words i 0) (w, carried_after m.1 x)

pub allows_closing : (z : BoardSetup) (slots id : ℕ) (m : Sitting) (k joined p : ℕ) → k < z.limits.followers → m.0.owns ≡ true → get_elem? m.0.notes k ≡ some (OpenNote joined p) → p + z.limits.capacity ≡ length m.0.log
    → Allows (ShowsReached z) slots id m (cursor_at k) (λ n. either (eqb n (cursor_of p None)) (cursor_of p (Some (length m.0.log))) n) (closes (step slots (cursor_at k) (cursor_of p None) (cursor_of p (Some (length m.0.log))) none) m)
allows_closing z slots id m k joined p inside owns note full s q _ seat _ =
    let word : ℕ = k + 2 in
    let n : ℕ = get_or s.words word 0 in
    let old : ℕ = cursor_of p None in
    let new : ℕ = cursor_of p (Some (length m.0.log)) in
    let at-k : k + 2 - 2 ≡ k = omega arith in
    let law = closes_a_cursor z q.now s id m q.shows seat owns k joined p inside note full in
    exchanged n old new (Made z s word id m (closes (step slots word old new none) m))
    (λ (hit : n ≡ old).
    let w = closed_off word m.0 in
    let kept = kept_event z s (after s word new id m w) q (Close k) (law.0 hit) in
    (w, keeps, tt, kept, (told z s word new id m w seat kept, (λ _. refl), λ miss. absurd (miss hit))))
    (λ miss.
    let w = missing word n m.0 in
    let kept = kept_silent z s (after s word n id m w) q (law.1 miss) in (
      w,
      keeps,
      tt,
      kept,
      (
        told z s word n id m w seat kept,
        (λ hit. absurd (miss hit)),
        λ _. (
          refl,
          (λ mine other e. note_follows z q.now s q.shows k id m.0 inside seat mine other (ap (get_elem? m.0.notes) (sym at-k) ∙ e)),
          missed z q.now s q.shows id k joined p m.0 inside seat owns note miss,
        ),
      ),
    ))

-- 11
pub allows_leaving : (z : BoardSetup) (slots id : ℕ) (m : Sitting) (i : ℕ) (p : Part) → get_elem? m.0.parts i ≡ some p → Allows (ShowsReached z) slots id m (cursor_at p.slot) (λ _. 0) (leaves (step slots (cursor_at p.slot) 0 0 none) m)
allows_leaving z slots id m i p mine s q _ seat _ =
    let word : ℕ = p.slot + 2 in
    let w = left_at word (get_or s.words word 0) m.0 in
    let kept = kept_event z s (after s word 0 id m w) q (Leave p.slot) (swaps_out z q.now s id m q.shows seat i p mine) in
    let n : ℕ = get_or s.words word 0 in (
      w,
      keeps,
      tt,
      kept,
      (
        told z s word 0 id m w seat kept,
        refl,
        (λ j x d is. sound_part z q.now s q.shows (learns n x)
            (subst (ShowsPart z q.now) (λ k. cond (eq-eqb (x.slot + 2) word is k) (learns n x) x) (learned_ok z q.now s q.shows word x (q.shows.parts id m.0 seat j x d)))),
        known_shown z s id m word q seat,
      ),
    )

-- 12
pub allows_joining : (z : BoardSetup) (id : ℕ) (v : View) (other : ℕ) (w : View) → ¬ (w.owns ≡ true) → Joins (ShowsReached z) id v other w (taking_in v w) spent
allows_joining z id v other w follower s q seat apart there = kept_silent z s _ q (joins_parts z q.now s id v other w q.shows seat apart follower there)
