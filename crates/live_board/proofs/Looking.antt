-- 6 and 7. A follower loads the status, and a move.
use Rattle.std.proofs.Common.{◌≡◌, ℕ, ◌+◌, ◌*◌, ◌/◌, ◌%◌, ◌<◌, map, length, get_or, Option, Some, sym, refl, ap, ◌∙◌, arith, cond, eqb, ltb, ltb-true, eqb-true}
use Rattle.std.specs.Prelude.{IfSome}
use Rattle.std.proofs.lemmas.Option.{IfSome_then}
use mathlib.Core.Option.{some}
use lib.ListN.{get_elem?}
use Rattle.atomic_table.specs.Table.{keeps, stepped}
use Rattle.c960_board.specs.Moves.{Triple}
use Rattle.live_board.specs.declared.words.TheConstants.{FIELD}
use Rattle.live_board.specs.SharedBoard.{SharedBoard, move_at}
use Rattle.live_board.specs.declared.setup.BoardSetup.{BoardSetup}
use Rattle.live_board.specs.declared.view.Part.{Part}
use Rattle.live_board.specs.Words.{length_in, outcome_number, outcome_numbered, outcome_in}
use Rattle.live_board.specs.Views.{next_of, next_word, each_part, sees, holding, finds}
use Rattle.live_board.specs.Shows.{Table, is_at, ShowsPart, Shows}
use Rattle.live_board.specs.KindViews.{Sitting}
use Rattle.live_board.specs.Kinds.{LoadsTheStatus, LoadsAMove}
use Rattle.live_board.proofs.Codes.{outcome_back, outcome_small}
use Rattle.live_board.proofs.lemmas.Cases.{pick}
use Rattle.live_board.proofs.EachStep.{with_parts, silent, each_ok}
use Rattle.live_board.proofs.lemmas.Totals.{total-map}

-- a load that changes each part by f
loaded_by : (z : BoardSetup) (a : SharedBoard) (s : Table) (r : Shows z a s) (i id : ℕ) (m : Sitting) (f : Part → Part) → get_elem? s.views id ≡ some m.0 → ((k : ℕ) (p : Part) → is_at k (f p) ≡ is_at k p)
    → ((p : Part) → ShowsPart z a p → ShowsPart z a (f p)) → Shows z a (stepped s i (get_or s.words i 0) id m.1 (each_part f m.0) keeps)
loaded_by z a s r i id m f seat same ok =
    silent z a s r i id m (each_part f m.0) seat refl (λ _ b. with_parts z a s.words m.0 (map f m.0.parts) b)
    (each_ok z a m.0.parts f (λ k p e. ok p (r.parts id m.0 seat k p e))) (λ k. total-map (is_at k) f (same k) m.0.parts)

-- the status says the log's length and the outcome
pub status_says : (z : BoardSetup) (a : SharedBoard) (s : Table) → Shows z a s → (length_in (get_or s.words 1 0) ≡ length a.log) × (outcome_in (get_or s.words 1 0) ≡ a.outcome)
status_says z a s r =
    let room = r.shared.room in
    let plies = r.limits.most_plies in
    let n : ℕ = get_or s.words 1 0 in
    let shown : n ≡ length a.log + FIELD * outcome_number a.outcome = r.status in
    let few = outcome_small a.outcome in
    let number : n / FIELD ≡ outcome_number a.outcome = omega arith in
    (omega arith, ap outcome_numbered number ∙ outcome_back a.outcome)

pub loads_the_status : LoadsTheStatus
loads_the_status z a s id m r seat =
    let n : ℕ = get_or s.words 1 0 in
    let says = status_says z a s r in
    let len : n % FIELD ≡ length a.log = says.0 in
    loaded_by z a s r 1 id m (sees n) seat (λ k p. refl) (λ p h. let seen = h.seen in record {
      inside = h.inside;
      setup_is = h.setup_is;
      closing = h.closing;
      has = h.has;
      before = h.before;
      noticed = h.noticed;
      unnoticed = h.unnoticed;
      seen = (omega arith, omega arith);
      over = λ o e. (sym says.1 ∙ e, len);
      loaded = IfSome_then p.loaded h.loaded (λ x t. (let l = t.0 in omega arith, t.1));
    })

pub loads_a_move : LoadsAMove
loads_a_move z a s id m r seat place =
    let word : ℕ = z.limits.followers + 2 + place in
    let x : Triple = move_at a.log place in
    let there : (p : Part) → ShowsPart z a p → next_word p ≡ word → place ≡ next_of p = λ p h e. let size = ap (λ (t : BoardSetup). t.limits.followers) h.setup_is in omega arith in (
      (λ l. r.moves place l),
      loaded_by z a s r word id m (finds word x) seat (λ k p. refl) (λ p h.
          let put : (o : Option Triple) → IfSome o (λ y. (next_of p < p.seen) × (y ≡ move_at a.log (next_of p))) → ShowsPart z a (holding o p) = λ o y. record {
            inside = h.inside;
            setup_is = h.setup_is;
            closing = h.closing;
            has = h.has;
            before = h.before;
            noticed = h.noticed;
            unnoticed = h.unnoticed;
            seen = h.seen;
            over = h.over;
            loaded = y;
          } in
          pick (λ (o : Option Triple). ShowsPart z a (holding o p)) (eqb (next_word p) word) (cond (ltb (next_of p) p.seen) (Some x) p.loaded) p.loaded
          (λ e. pick (λ (o : Option Triple). ShowsPart z a (holding o p)) (ltb (next_of p) p.seen) (Some x) p.loaded
          (λ l. put (Some x) (ltb-true (next_of p) p.seen l, ap (move_at a.log) (there p h (eqb-true _ _ e))))
          (λ _. put p.loaded h.loaded))
          (λ _. put p.loaded h.loaded)),
    )
