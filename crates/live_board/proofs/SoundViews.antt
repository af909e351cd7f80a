-- What the rule says of one view by itself.
use Rattle.std.proofs.Common.{◌≡◌, ℕ, zero, suc, ◌+◌, ◌≤◌, List, [], ◌∷◌, ◌++◌, length, set, Option, Some, None, sym, refl, ap, ◌∙◌, subst, ⊎_elim, arith}
use Rattle.std.proofs.lemmas.Option.{same_Some, none-some, IfSome_then}
use mathlib.Core.Option.{some, some-ne-none}
use lib.ListN.{get_elem?}
use Rattle.atomic_table.specs.Table.{keeps, stepped}
use Rattle.c960_board.specs.Moves.{Triple, IsMove}
use Rattle.c960_game.specs.Game960.{Game960}
use Rattle.c960_game.specs.Record.{IsOutcome}
use Rattle.relay_core.specs.Following.{stretch}
use Rattle.relay_core.proofs.lemmas.Stretches.{joined_stretches}
use Rattle.live_board.specs.Limits.{AreBoardLimits}
use Rattle.live_board.specs.SharedBoard.{SharedFollower, SharedBoard, move_at}
use Rattle.live_board.proofs.Stretches.{is_stretch}
use Rattle.live_board.specs.declared.setup.BoardSetup.{BoardSetup}
use Rattle.live_board.specs.declared.note.Note.{Note}
use Rattle.live_board.specs.declared.note.Note.TheVariants.{Vacant, Open, Closed}
use Rattle.live_board.specs.declared.view.Part.{Part}
use Rattle.live_board.specs.declared.view.View.{View}
use Rattle.live_board.specs.Views.{next_of}
use Rattle.live_board.specs.Shows.{Table, IsTrueNote, ShowsPart, Shows}
use Rattle.live_board.specs.Sound.{BearsOut, IsSoundPart, Agrees, IsSound, end_of}
use Rattle.live_board.specs.KindViews.{Sitting, Told}
use Rattle.live_board.specs.Rule.{ShowsReached}
use Rattle.live_board.proofs.Codes.{logged_is_move}
use Rattle.live_board.proofs.Notes.{follower}
use Rattle.live_board.proofs.Parts.{same_part}
use Rattle.live_board.proofs.EachStep.{opt_cases}

-- the log of the board that a table shows agrees with each part
bears_out : (z : BoardSetup) (a : SharedBoard) (s : Table) → Shows z a s → (p : Part) (h : ShowsPart z a p) → BearsOut a.log h.closing p
bears_out z a s r p h =
    let here = (r.shared.slots p.slot _ h.has).1 in
    let within = here.within in
    let start : a.start ≡ p.setup.start = r.start_is ∙ ap (λ (t : BoardSetup). t.start) (sym h.setup_is) in
    let capacity = ap (λ (t : BoardSetup). t.limits.capacity) h.setup_is in
    let plies = ap (λ (t : BoardSetup). t.limits.plies) h.setup_is in
    let room = r.shared.room in
    let seen = h.seen in
    let ends = bounds h.closing refl in
    let low = ends.0 in
    let high = ends.1 in
    let most = ends.2 in
    record {
      game = subst (λ (n : ℕ). Game960 n a.log) start r.shared.game;
      room = omega arith;
      whole = ap (λ (x : List Triple). x ++ stretch (next_of p) (end_of a.log h.closing) a.log) (is_stretch p.taken a.log p.joined here.stretch within)
          ∙ joined_stretches p.joined (next_of p) (end_of a.log h.closing) a.log (omega arith) low high;
      before = h.before;
      reached = (low, high);
      bounded = omega arith;
      seen = seen.1;
      closed = h.noticed;
      over = λ o e. let t = h.over o e in (subst (λ (n : ℕ). IsOutcome n a.log (Some o)) start (subst (IsOutcome a.start a.log) t.0 r.shared.ended), t.1);
    }
  where
    bounds : (c : Option ℕ) → h.closing ≡ c → (next_of p ≤ end_of a.log c) × (end_of a.log c ≤ length a.log) × (end_of a.log c ≤ next_of p + z.limits.capacity)
    bounds None e = let here = (r.shared.slots p.slot _ h.has).1 in let low = here.within in let high = here.near e in (omega arith, omega arith, omega arith)
    bounds (Some c) e = let here = (r.shared.slots p.slot _ h.has).1 in let low = here.closed c e in let high = here.near_closing c e in (low.0, low.1, high)

pub sound_part : (z : BoardSetup) (a : SharedBoard) (s : Table) → Shows z a s → (p : Part) → ShowsPart z a p → IsSoundPart p
sound_part z a s r p h =
    let here = (r.shared.slots p.slot _ h.has).1 in
    let followers = ap (λ (t : BoardSetup). t.limits.followers) h.setup_is in
    let capacity = ap (λ (t : BoardSetup). t.limits.capacity) h.setup_is in
    let plies = ap (λ (t : BoardSetup). t.limits.plies) h.setup_is in
    let inside = h.inside in
    let seen = h.seen in
    let most = seen.1 in
    let room = r.shared.room in record {
      limits = subst (λ (t : BoardSetup). AreBoardLimits t.limits) (sym h.setup_is) r.limits;
      inside = omega arith;
      within = seen.0;
      room = omega arith;
      closing = λ c e. let n = here.closed c (h.noticed c e) in let m = here.near_closing c (h.noticed c e) in let l = n.1 in (n.0, omega arith, omega arith);
      loaded = IfSome_then p.loaded h.loaded (λ x t. (t.0, subst IsMove (sym t.1) (logged_is_move a.start a.log r.shared.game (next_of p))));
      log = a.log;
      closed_at = h.closing;
      headline = bears_out z a s r p h;
    }

agrees : (z : BoardSetup) (a : SharedBoard) (s : Table) (r : Shows z a s) (v : View) (p : Part) (n : Note) → v.log ≡ a.log → v.setup ≡ z → ShowsPart z a p → IsTrueNote n (a.followers p.slot) → Agrees v n p
agrees z a s r v p n log setup h ok = by n (subst (IsTrueNote n) h.has ok)
  where
    f : SharedFollower
    f = follower p.joined p.taken h.closing

    by : (n : Note) → IsTrueNote n (Some f) → Agrees v n p
    by Vacant e = none-some f (sym e)
    by (Open j b) (joined, open-now, low) =
        let here = (r.shared.slots p.slot f h.has).1 in
        let w = here.within in
        let n = here.near open-now in
        let l : length v.log ≡ length a.log = ap length log in
        let c = ap (λ (t : BoardSetup). t.limits.capacity) setup in (
          joined,
          ⊎_elim (λ (e : p.closing ≡ None). e) (λ (t : (d : ℕ) × (p.closing ≡ Some d)). absurd (none-some t.0 (sym open-now ∙ h.noticed t.0 t.1))) (opt_cases p.closing),
          low,
          omega arith,
          omega arith,
        )
    by (Closed c) is =
        let here = (r.shared.slots p.slot f h.has).1 in
        let w = here.closed c is in
        let l : length v.log ≡ length a.log = ap length log in
        let k = ap (λ (t : BoardSetup). t.limits.capacity) setup in
        let one = w.0 in
        let two = here.near_closing c is in
        let three = w.1 in (
          one,
          omega arith,
          omega arith,
          (λ e. let u = h.unnoticed c e is in omega arith),
          (λ d e. same_Some d c (sym (h.noticed d e) ∙ is)),
        )

-- what is true of each view while the table shows a board
pub sound : (z : BoardSetup) (a : SharedBoard) (s : Table) → Shows z a s → (id : ℕ) (v : View) → get_elem? s.views id ≡ some v → IsSound v
sound z a s r id v seat = record {
  parts = λ i p e. sound_part z a s r p (r.parts id v seat i p e);
  board = λ ow.
      let b = (r.board id v seat ow).1 in
      let followers = ap (λ (t : BoardSetup). t.limits.followers) b.setup_is in
      let plies = ap (λ (t : BoardSetup). t.limits.plies) b.setup_is in
      let start = ap (λ (t : BoardSetup). t.start) b.setup_is in
      let begun = r.start_is in
      let numbered = r.shared.game.numbered in
      let long = ap length b.log_is in
      let room = r.shared.room in record {
        limits = subst (λ (t : BoardSetup). AreBoardLimits t.limits) (sym b.setup_is) r.limits;
        start = omega arith;
        room = omega arith;
        noted = b.noted ∙ sym followers;
        checked = b.checked ∙ sym followers;
        agree = λ i p d n e. agrees z a s r v p n b.log_is b.setup_is (r.parts id v seat i p d) (b.notes p.slot n e);
        inside = λ i p d. let h = r.parts id v seat i p d in let x = h.inside in (omega arith, h.setup_is ∙ sym b.setup_is);
        once = λ i j p p' d d' e. sym (same_part z a s r id id i j v v p p' seat seat d d' (sym e)).1;
        stretch = λ i p d k l. let h = r.parts id v seat i p d in (r.shared.slots p.slot _ h.has).1.stretch k l ∙ ap (λ (x : List Triple). move_at x (p.joined + k)) (sym b.log_is);
      };
}

-- what a step shows of the seat's view
pub told : (z : BoardSetup) (s : Table) (i n id : ℕ) (m : Sitting) (w : View) → get_elem? s.views id ≡ some m.0 → ShowsReached z (stepped s i n id m.1 w keeps) → Told m (w, m.1)
told z s i n id m w seat kept = (refl, sound z kept.now (stepped s i n id m.1 w keeps) kept.shows id w (set_there s.views id m.0 w seat))
  where
    set_there : (l : List View) (i : ℕ) (v w : View) → get_elem? l i ≡ some v → get_elem? (set l i w) i ≡ some w
    set_there [] i v w e = absurd (some-ne-none v (sym e))
    set_there (x ∷ xs) zero v w e = refl
    set_there (x ∷ xs) (suc i) v w e = set_there xs i v w e
