-- What each event preserves, and hence what is true after any list of events.
use Rattle.std.proofs.Common.{inl, inr, ⊎_elim, ◌≡◌, ℕ, ◌+◌, ◌<◌, ◌≤◌, ◌≢◌, List, [], ◌∷◌, ◌++◌, length, Option, Some, None, sym, refl, ap, ◌∙◌, subst, arith, length-append}
use Rattle.std.proofs.Math.ListN.{get_or-append}
use Rattle.std.proofs.Math.Seq.{get_or-append_seam}
use Rattle.std.proofs.lemmas.Option.{same_Some, none-some}
use mathlib.Core.Logic.{dite}
use native.Mathlib.Decide.{ℕ_discrete}
use Rattle.c960_board.specs.declared.numbering.TheConstants.{STARTS}
use Rattle.c960_board.specs.Moves.{Triple}
use Rattle.c960_game.specs.declared.outcome.Outcome.{Outcome}
use Rattle.c960_game.specs.Ends.{own_outcome}
use Rattle.c960_game.specs.Record.{IsOutcome}
use Rattle.c960_game.proofs.lemmas.DrawFacts.{tells_going}
use Rattle.c960_game.proofs.lemmas.LogFacts.{no_move as no_move_yet, one_move_more}
use Rattle.c960_game.proofs.lemmas.GameFacts.{start_goes_on}
use Rattle.live_board.specs.declared.limits.BoardLimits.{BoardLimits}
use Rattle.live_board.specs.SharedBoard.{SharedFollower, SharedBoard, next, no_move, move_at}
use Rattle.live_board.specs.Events.{Event, Open, Follow, Close, Submit, End, Take, Leave, opened, IsFull, HasNext, changed, joining, closed_at, with_taken, with_move, ended_by, Goes, Does, Runs}
use Rattle.live_board.specs.Laws.{Always, AlwaysOfEach, HasStretch, EndStays, IsFollower, IsShared}
use Rattle.live_board.proofs.SharedFollowers.{with_cases}
use Rattle.live_board.proofs.Stretches.{is_stretch}

-- ---- One follower changes.

abbrev Place : BoardLimits → SharedBoard → ℕ → Option SharedFollower → Type 0
Place limits a k o = (f : SharedFollower) → o ≡ Some f → (k < limits.followers) × IsFollower limits a f

-- the log stays, so what holds for the other followers stays
elsewhere : (limits : BoardLimits) (a b : SharedBoard) (k : ℕ) (o : Option SharedFollower) → b.log ≡ a.log → Place limits a k o → Place limits b k o
elsewhere limits a b k o log h f e =
    let t = h f e in
    let len = ap length log in
    let same = t.1 in
    let within = same.within in (
      t.0,
      record {
        stretch = λ i l. same.stretch i l ∙ ap (λ (x : List Triple). move_at x (f.joined + i)) (sym log);
        within = omega arith;
        near = λ none. let n = same.near none in omega arith;
        closed = λ c e'. let n = same.closed c e' in let u = n.1 in (n.0, omega arith);
        near_closing = same.near_closing;
      },
    )

one : (limits : BoardLimits) (a : SharedBoard) (k : ℕ) (o : Option SharedFollower) → IsShared limits a → Place limits a k o → IsShared limits (changed a k o)
one limits a k o h here = record {
  game = h.game;
  room = h.room;
  ended = h.ended;
  slots = λ j. elsewhere limits a (changed a k o) j _ refl (with_cases a.followers k o (Place limits a) here (λ i _. h.slots i) j);
}

-- ---- What the events do to a follower.

joins : (limits : BoardLimits) (a : SharedBoard) (p : ℕ) → p ≤ length a.log → length a.log ≤ p + limits.capacity → IsFollower limits a (joining p)
joins limits a p low near = record {
  stretch = λ i l. absurd (omega arith);
  within = omega arith;
  near = λ _. omega arith;
  closed = λ c e. absurd (none-some c e);
  near_closing = λ c e. absurd (none-some c e);
}

closes : (limits : BoardLimits) (a : SharedBoard) (f : SharedFollower) → IsFollower limits a f → IsFull limits a f → IsFollower limits a (closed_at (length a.log) f)
closes limits a f h full =
    let within = h.within in
    let is = full.1 in record {
      stretch = h.stretch;
      within = h.within;
      near = λ none. absurd (none-some (length a.log) (sym none));
      closed = λ c e. let same = same_Some _ _ e in (omega arith, omega arith);
      near_closing = λ c e. let same = same_Some _ _ e in omega arith;
    }

takes : (limits : BoardLimits) (a : SharedBoard) (f : SharedFollower) → IsFollower limits a f → HasNext a f → IsFollower limits a (with_taken (move_at a.log (next f)) f)
takes limits a f h more =
    let x = move_at a.log (next f) in
    let len : length (f.taken ++ x ∷ []) ≡ length f.taken + 1 = length-append f.taken (x ∷ []) in
    let less = more.0 in record {
      stretch = λ i l. dite (ℕ_discrete i (length f.taken))
          (λ (e : i ≡ length f.taken). ap (move_at (f.taken ++ x ∷ [])) e ∙ get_or-append_seam f.taken x [] no_move ∙ ap (λ (n : ℕ). move_at a.log (f.joined + n)) (sym e))
          (λ ne. get_or-append f.taken (x ∷ []) no_move i (omega arith) ∙ h.stretch i (omega arith));
      within = omega arith;
      near = λ none. let n = h.near none in omega arith;
      closed = λ c e. let n = h.closed c e in let m = more.1 c e in (omega arith, n.1);
      near_closing = λ c e. let n = h.near_closing c e in omega arith;
    }

-- another move joins the log
stays : (limits : BoardLimits) (a : SharedBoard) (m : Triple) (f : SharedFollower) → IsFollower limits a f → ¬ (IsFull limits a f) → IsFollower limits (with_move m a) f
stays limits a m f h room =
    let len : length (a.log ++ m ∷ []) ≡ length a.log + 1 = length-append a.log (m ∷ []) in
    let within = h.within in record {
      stretch = λ i l. h.stretch i l ∙ sym (get_or-append a.log (m ∷ []) no_move (f.joined + i) (omega arith));
      within = omega arith;
      near = λ none. let n = h.near none in let ne : length a.log ≢ next f + limits.capacity = λ e. room (none, e) in omega arith;
      closed = λ c e. let n = h.closed c e in let u = n.1 in (n.0, omega arith);
      near_closing = h.near_closing;
    }

-- ---- Each event.

-- a game without an outcome has none by itself
pub own_none : (n : ℕ) (l : List Triple) → IsOutcome n l None → own_outcome n l ≡ None
own_none n l h = ⊎_elim (λ (e : None ≡ own_outcome n l). sym e) (λ t. t.0) h

pub goes : (limits : BoardLimits) (a b : SharedBoard) (e : Event) → IsShared limits a → Goes limits a e b → IsShared limits b
goes limits a b (Open n) h t = absurd t
goes limits a b (Follow k p) h (inside, free, low, near, is) =
    subst (IsShared limits) (sym is) (one limits a k (Some (joining p)) h (λ f e. (inside, subst (IsFollower limits a) (same_Some _ _ e) (joins limits a p low near))))
goes limits a b (Close k) h (f, has, full, is) =
    let old = h.slots k f has in
    subst (IsShared limits) (sym is) (one limits a k (Some (closed_at (length a.log) f)) h (λ g e. (old.0, subst (IsFollower limits a) (same_Some _ _ e) (closes limits a f old.1 full))))
goes limits a b (Submit m) h (going, room, legal, none_full, is) =
    subst (IsShared limits) (sym is) (record {
      game = one_move_more a.start a.log m h.game (record { going = tells_going a.start a.log (own_none a.start a.log (subst (IsOutcome a.start a.log) going h.ended)); legal = legal });
      room = let len : length (a.log ++ m ∷ []) ≡ length a.log + 1 = length-append a.log (m ∷ []) in omega arith;
      ended = inl refl;
      slots = λ k f e. let old = h.slots k f e in (old.0, stays limits a m f old.1 (none_full k f e));
    })
goes limits a b (End e) h (going, has_ground, is) =
    subst (IsShared limits) (sym is) (record {
      game = h.game;
      room = h.room;
      ended = inr (own_none a.start a.log (subst (IsOutcome a.start a.log) going h.ended), e, has_ground, refl);
      slots = λ k. elsewhere limits a (ended_by e a) k (a.followers k) refl (h.slots k);
    })
goes limits a b (Take k) h (f, has, more, is) =
    let old = h.slots k f has in
    subst (IsShared limits) (sym is) (one limits a k (Some (with_taken (move_at a.log (next f)) f)) h (λ g e. (old.0, subst (IsFollower limits a) (same_Some _ _ e) (takes limits a f old.1 more))))
goes limits a b (Leave k) h (f, has, is) =
    subst (IsShared limits) (sym is) (one limits a k None h (λ g e. absurd (none-some g e)))

-- a board without a move
pub opens : (limits : BoardLimits) (n : ℕ) → n < STARTS → IsShared limits (opened n)
opens limits n numbered = record {
  game = no_move_yet n numbered;
  room = omega arith;
  ended = inl (sym (start_goes_on n numbered));
  slots = λ k f e. absurd (none-some f e);
}

-- ---- Lists of events.

-- what is true of a board, if there is one
abbrev IfShared : BoardLimits → Option SharedBoard → Type 0
IfShared limits None = Unit {0}
IfShared limits (Some a) = IsShared limits a

does : (limits : BoardLimits) (a : Option SharedBoard) (e : Event) (b : SharedBoard) → IfShared limits a → Does limits a e b → IsShared limits b
does limits None (Open n) b h (numbered, is) = subst (IsShared limits) (sym is) (opens limits n numbered)
does limits None (Follow k p) b h t = absurd t
does limits None (Close k) b h t = absurd t
does limits None (Submit m) b h t = absurd t
does limits None (End e) b h t = absurd t
does limits None (Take k) b h t = absurd t
does limits None (Leave k) b h t = absurd t
does limits (Some a) e b h t = goes limits a b e h t

run : (limits : BoardLimits) (a : Option SharedBoard) (es : List Event) (b : Option SharedBoard) → IfShared limits a → Runs limits a es b → IfShared limits b
run limits a [] b h is = subst (IfShared limits) (sym is) h
run limits a (e ∷ es) b h (now, step, rest) = run limits (Some now) es b (does limits a e now h step) rest

pub shared : Always IsShared
shared limits events now runs = run limits None events (Some now) tt runs

-- one more event
pub runs_more : (limits : BoardLimits) (from : Option SharedBoard) (es : List Event) (a : SharedBoard) (e : Event) (b : SharedBoard)
    → Runs limits from es (Some a) → Goes limits a e b → Runs limits from (es ++ e ∷ []) (Some b)
runs_more limits from [] a e b is step = (b, subst (λ (x : Option SharedBoard). Does limits x e b) is step, refl)
runs_more limits from (d ∷ ds) a e b (now, first, rest) step = (now, first, runs_more limits (Some now) ds a e b rest step)

-- ---- The laws, one by one.

pub has_stretch : AlwaysOfEach HasStretch
has_stretch limits events now runs k f e =
    let h = ((shared limits events now runs).slots k f e).1 in
    (is_stretch f.taken now.log f.joined h.stretch h.within, h.within)

-- an event after the end
after_end : (limits : BoardLimits) (a b : SharedBoard) (e : Event) (o : Outcome) → a.outcome ≡ Some o → Goes limits a e b
    → (b.start ≡ a.start) × (b.log ≡ a.log) × (b.outcome ≡ a.outcome)
after_end limits a b (Open n) o over t = absurd t
after_end limits a b (Follow k p) o over t = let is = t.4 in (ap (λ (x : SharedBoard). x.start) is, ap (λ (x : SharedBoard). x.log) is, ap (λ (x : SharedBoard). x.outcome) is)
after_end limits a b (Close k) o over t = let is = t.3 in (ap (λ (x : SharedBoard). x.start) is, ap (λ (x : SharedBoard). x.log) is, ap (λ (x : SharedBoard). x.outcome) is)
after_end limits a b (Submit m) o over t = absurd (none-some o (sym t.0 ∙ over))
after_end limits a b (End e) o over t = absurd (none-some o (sym t.0 ∙ over))
after_end limits a b (Take k) o over t = let is = t.3 in (ap (λ (x : SharedBoard). x.start) is, ap (λ (x : SharedBoard). x.log) is, ap (λ (x : SharedBoard). x.outcome) is)
after_end limits a b (Leave k) o over t = let is = t.2 in (ap (λ (x : SharedBoard). x.start) is, ap (λ (x : SharedBoard). x.log) is, ap (λ (x : SharedBoard). x.outcome) is)

same_Board : (a b : SharedBoard) → Some a ≡ Some b → a ≡ b
same_Board a b e = same_Some a b e

run_after_end : (limits : BoardLimits) (a b : SharedBoard) (es : List Event) (o : Outcome) → a.outcome ≡ Some o → Runs limits (Some a) es (Some b)
    → (b.start ≡ a.start) × (b.log ≡ a.log) × (b.outcome ≡ Some o)
run_after_end limits a b [] o over is =
    let same = same_Some b a is in
    (ap (λ (x : SharedBoard). x.start) same, ap (λ (x : SharedBoard). x.log) same, ap (λ (x : SharedBoard). x.outcome) same ∙ over)
run_after_end limits a b (e ∷ es) o over (now, step, rest) =
    let t = after_end limits a now e o over step in
    let u = run_after_end limits now b es o (t.2 ∙ over) rest in
    (u.0 ∙ t.0, u.1 ∙ t.1, u.2)

pub end_stays : EndStays
end_stays limits events later was now o runs over more = run_after_end limits was now later o over more
