-- What all steps have in common: one seat's view changes and at most one word.
use Rattle.std.proofs.Common.{◌≡◌, ℕ, zero, suc, ◌+◌, ◌<◌, ◌≢◌, true, false, List, [], ◌∷◌, ◌++◌, map, length, get_or, set, Option, Some, None, sym, refl, ap, ◌∙◌, subst, inl, inr, ◌⊎◌, ⊎_elim, arith, eqb, true≢false, length-set, get_or-set_other, get_or-set_same}
use Rattle.std.specs.Prelude.{IfSome}
use Rattle.std.proofs.lemmas.Option.{IfSome_then}
use mathlib.Core.Logic.{dite}
use mathlib.Core.Option.{some, some-injective, some-ne-none}
use native.Mathlib.Decide.{ℕ_discrete}
use lib.ListN.{get_elem?}
use lib.Seq.{set-get_or}
use Rattle.atomic_table.specs.Table.{keeps, stepped}
use Rattle.atomic_table.proofs.Lists.{at_set}
use Rattle.c960_board.specs.MoveTexts.{move_code}
use Rattle.live_board.specs.SharedBoard.{SharedFollower, SharedBoard, move_at, with_follower}
use Rattle.live_board.specs.Events.{changed}
use Rattle.live_board.specs.Laws.{IsShared}
use Rattle.live_board.proofs.SharedFollowers.{with_cases}
use Rattle.live_board.specs.declared.setup.BoardSetup.{BoardSetup}
use Rattle.live_board.specs.declared.view.Part.{Part}
use Rattle.live_board.specs.declared.view.View.{View}
use Rattle.live_board.specs.Words.{header_word, status_word, cursor_word}
use Rattle.live_board.specs.Views.{only_at}
use Rattle.live_board.specs.Shows.{Table, total, is_at, parts_at, one_if, ShowsPart, ShowsBoard, HasOwner, Shows}
use Rattle.live_board.specs.KindViews.{Sitting}
use Rattle.live_board.proofs.Notes.{Near, Notes}
use Rattle.live_board.proofs.Parts.{part_other}
use Rattle.live_board.proofs.lemmas.Cases.{pick}
use Rattle.live_board.proofs.lemmas.Totals.{at_map_back, total-set}

abbrev pub Parts : BoardSetup → SharedBoard → View → Type 0
Parts z a v = (i : ℕ) (p : Part) → get_elem? v.parts i ≡ some p → ShowsPart z a p

-- what the rule says of one view
abbrev pub Fits : BoardSetup → SharedBoard → List ℕ → ℕ → View → Type 0
Fits z a ws j v = (v.owns ≡ true → (j ≡ 0) × ShowsBoard z a ws v) × Parts z a v

pub fits : (z : BoardSetup) (a : SharedBoard) (s : Table) (r : Shows z a s) (j : ℕ) (v : View) → get_elem? s.views j ≡ some v → Fits z a s.words j v
fits z a s r j v e = (r.board j v e, r.parts j v e)

pub fits_set : (z : BoardSetup) (a : SharedBoard) (ws : List ℕ) (views : List View) (id : ℕ) (w : View) → ((j : ℕ) (u : View) → j ≢ id → get_elem? views j ≡ some u → Fits z a ws j u) → Fits z a ws id w → (j : ℕ) (u : View) → get_elem? (set views id w) j ≡ some u → Fits z a ws j u
fits_set z a ws views id w others mine j u e =
    ⊎_elim
    (λ (x : (j ≡ id) × (w ≡ u)). subst (λ (y : ℕ × View). Fits z a ws y.0 y.1) (λ i. (sym x.0 i, x.1 i)) mine)
    (λ (x : (j ≢ id) × (get_elem? views j ≡ some u)). others j u x.0 x.1)
    (at_set views id j w u e)

-- ---- One view is the board's.

pub owner_set : (views : List View) (id : ℕ) (v w : View) → get_elem? views id ≡ some v → (v.owns ≡ true → w.owns ≡ true) → HasOwner views → HasOwner (set views id w)
owner_set [] id v w seat keep (u, first, owns) = absurd (some-ne-none u (sym first))
owner_set (x ∷ xs) zero v w seat keep (u, first, owns) =
    (w, refl, keep (subst (λ (y : View). y.owns ≡ true) (sym (some-injective x u first) ∙ some-injective x v seat) owns))
owner_set (x ∷ xs) (suc id) v w seat keep owner = owner

pub owner_append : (views more : List View) → HasOwner views → HasOwner (views ++ more)
owner_append [] more (u, first, owns) = absurd (some-ne-none u (sym first))
owner_append (x ∷ xs) more owner = owner

-- a state with these words, and the view w at the seat id
pub placed : (z : BoardSetup) (a b : SharedBoard) (s : Table) (r : Shows z a s) (ws : List ℕ) (id : ℕ) (v w : View) → get_elem? s.views id ≡ some v → (v.owns ≡ true → w.owns ≡ true)
    → IsShared z.limits b → b.start ≡ a.start
    → length ws ≡ length s.words → get_or ws 0 0 ≡ get_or s.words 0 0 → get_or ws 1 0 ≡ status_word (length b.log) b.outcome
    → ((k : ℕ) → k < z.limits.followers → get_or ws (k + 2) 0 ≡ cursor_word (b.followers k))
    → ((k : ℕ) → k < length b.log → get_or ws (z.limits.followers + 2 + k) 0 ≡ move_code (move_at b.log k))
    → ((j : ℕ) (u : View) → j ≢ id → get_elem? s.views j ≡ some u → Fits z b ws j u) → Fits z b ws id w
    → ((k : ℕ) → k < z.limits.followers → total (is_at k) w.parts + one_if (a.followers k) ≡ total (is_at k) v.parts + one_if (b.followers k))
    → Shows z b record { words = ws; homes = s.homes; views = set s.views id w }
placed z a b s r ws id v w seat keep shared start long head status cursors moves apart mine counts =
    let all = fits_set z b ws s.views id w apart mine in
    record {
      limits = r.limits;
      start_is = start ∙ r.start_is;
      shared = shared;
      count = long ∙ r.count;
      header = head ∙ r.header ∙ ap (λ (n : ℕ). header_word n z.limits.capacity) (sym start);
      status = status;
      cursors = cursors;
      moves = moves;
      board = λ j u e. (all j u e).0;
      parts = λ j u e. (all j u e).1;
      owner = owner_set s.views id v w seat keep r.owner;
      one_part = λ k h. omega (arith, total-set (λ u. total (is_at k) u.parts) s.views id v w seat, r.one_part k h, counts k h);
    }

-- the same board and words, with other views
pub viewed : (z : BoardSetup) (a : SharedBoard) (s : Table) (r : Shows z a s) (views : List View) → HasOwner views → ((j : ℕ) (u : View) → get_elem? views j ≡ some u → Fits z a s.words j u)
    → ((k : ℕ) → k < z.limits.followers → parts_at k views ≡ one_if (a.followers k)) → Shows z a record { words = s.words; homes = s.homes; views = views }
viewed z a s r views owner every counts = record {
  limits = r.limits;
  start_is = r.start_is;
  shared = r.shared;
  count = r.count;
  header = r.header;
  status = r.status;
  cursors = r.cursors;
  moves = r.moves;
  board = λ j u e. (every j u e).0;
  parts = λ j u e. (every j u e).1;
  owner = owner;
  one_part = counts;
}

-- which parts the board's view carries does not matter for what else it shows
pub with_parts : (z : BoardSetup) (a : SharedBoard) (ws : List ℕ) (v : View) (ps : List Part) → ShowsBoard z a ws v → ShowsBoard z a ws (record v { parts = ps })
with_parts z a ws v ps b = record { log_is = b.log_is; outcome_is = b.outcome_is; setup_is = b.setup_is; stored = b.stored; noted = b.noted; checked = b.checked; notes = b.notes }

pub off : false ≡ true → ⊥
off e = true≢false (sym e)

pub near : (z : BoardSetup) (a : SharedBoard) (s : Table) → Shows z a s → (k : ℕ) → Near (a.followers k)
near z a s r k f e =
    let h = (r.shared.slots k f e).1 in
    let w = h.within in
    let room = r.shared.room in
    let p = r.limits.most_plies in
    omega arith

-- a step on the cursor of the slot k, after which the follower there is o
pub turned : (z : BoardSetup) (a : SharedBoard) (s : Table) (r : Shows z a s) (k : ℕ) (o : Option SharedFollower) (n id : ℕ) (v w : View) → IsShared z.limits (changed a k o) → get_elem? s.views id ≡ some v → k < z.limits.followers → n ≡ cursor_word o
    → ((j : ℕ) (u : View) → j ≢ id → get_elem? s.views j ≡ some u → (i : ℕ) (p : Part) → get_elem? u.parts i ≡ some p → p.slot ≡ k → ShowsPart z (changed a k o) p)
    → ((j : ℕ) (u : View) → j ≢ id → get_elem? s.views j ≡ some u → u.owns ≡ true → Notes (with_follower a.followers k o) u.notes)
    → w.owns ≡ v.owns → w.log ≡ v.log → w.outcome ≡ v.outcome → w.setup ≡ v.setup → w.stored ≡ v.stored → length w.notes ≡ length v.notes → length w.checks ≡ length v.checks
    → (v.owns ≡ true → Notes (with_follower a.followers k o) w.notes)
    → Parts z (changed a k o) w
    → total (is_at k) w.parts + one_if (a.followers k) ≡ total (is_at k) v.parts + one_if o
    → ((i : ℕ) → i ≢ k → total (is_at i) w.parts ≡ total (is_at i) v.parts)
    → Shows z (changed a k o) record { words = set s.words (k + 2) n; homes = s.homes; views = set s.views id w }
turned z a s r k o n id v w shared seat inside is others-parts others-notes owns log outcome setup stored notes-len checks-len notes parts count same =
    let b = changed a k o in
    let ws : List ℕ = set s.words (k + 2) n in
    let wide = r.count in
    let other : (j : ℕ) → j ≢ k + 2 → get_or ws j 0 ≡ get_or s.words j 0 = λ j ne. get_or-set_other s.words (k + 2) j n 0 ne in
    let here : get_or ws (k + 2) 0 ≡ cursor_word o = get_or-set_same s.words (k + 2) n 0 (omega arith) ∙ is in
    let holds : (u u' : View) → ShowsBoard z a s.words u → u'.log ≡ u.log → u'.outcome ≡ u.outcome → u'.setup ≡ u.setup → u'.stored ≡ u.stored → length u'.notes ≡ length u.notes → length u'.checks ≡ length u.checks → Notes (with_follower a.followers k o) u'.notes → ShowsBoard z b ws u' =
    λ u u' h l x sz st len clen ns. record {
      log_is = l ∙ h.log_is;
      outcome_is = x ∙ h.outcome_is;
      setup_is = sz ∙ h.setup_is;
      stored = subst (λ y. IfSome y (λ m. (length a.log < z.limits.plies) × (get_or ws (z.limits.followers + 2 + length a.log) 0 ≡ move_code m))) (sym st) (IfSome_then u.stored h.stored (λ m t. (t.0, other (z.limits.followers + 2 + length a.log) (λ e. omega arith) ∙ t.1)));
      noted = len ∙ h.noted;
      checked = clen ∙ h.checked;
      notes = ns;
    } in
    placed z a b s r ws id v w seat (λ o. owns ∙ o) shared refl (length-set s.words (k + 2) n) (other 0 (λ e. omega arith)) (other 1 (λ e. omega arith) ∙ r.status)
    (λ j l. with_cases a.followers k o (λ x y. x < z.limits.followers → get_or ws (x + 2) 0 ≡ cursor_word y) (λ _. here) (λ x ne l'. other (x + 2) (λ e. ne (omega arith)) ∙ r.cursors x l') j l)
    (λ i l. other (z.limits.followers + 2 + i) (λ e. omega arith) ∙ r.moves i l)
    (λ j u ne e. (
      (λ ow. let h = r.board j u e ow in (h.0, holds u u h.1 refl refl refl refl refl refl (others-notes j u ne e ow))),
      (λ i p d. dite (ℕ_discrete p.slot k) (λ (here' : p.slot ≡ k). others-parts j u ne e i p d here') (λ apart. part_other z a k o p (r.parts j u e i p d) apart)),
    ))
    ((λ ow. let mine : v.owns ≡ true = sym owns ∙ ow in let h = r.board id v seat mine in (h.0, holds v w h.1 log outcome setup stored notes-len checks-len (notes mine))), parts)
    (λ j l. with_cases a.followers k o (λ x y. total (is_at x) w.parts + one_if (a.followers x) ≡ total (is_at x) v.parts + one_if y) count (λ x ne. ap (λ (t : ℕ). t + one_if (a.followers x)) (same x ne)) j)

-- a step that changes no word
pub silent : (z : BoardSetup) (a : SharedBoard) (s : Table) (r : Shows z a s) (i id : ℕ) (m : Sitting) (w : View) → get_elem? s.views id ≡ some m.0 → (m.0.owns ≡ w.owns)
    → (m.0.owns ≡ true → ShowsBoard z a s.words m.0 → ShowsBoard z a s.words w) → Parts z a w → ((k : ℕ) → total (is_at k) w.parts ≡ total (is_at k) m.0.parts)
    → Shows z a (stepped s i (get_or s.words i 0) id m.1 w keeps)
silent z a s r i id m w seat owns board parts same =
    subst (λ (ws : List ℕ). Shows z a record { words = ws; homes = s.homes; views = set s.views id w }) (sym (set-get_or s.words i 0))
    (placed z a a s r s.words id m.0 w seat (λ o. sym owns ∙ o) r.shared refl refl refl r.status r.cursors r.moves (λ j u _ e. fits z a s r j u e)
    ((λ o. let mine : m.0.owns ≡ true = owns ∙ o in let b = r.board id m.0 seat mine in (b.0, board mine b.1)), parts)
    (λ k h. ap (λ (x : ℕ). x + one_if (a.followers k)) (same k)))

pub each_ok : (z : BoardSetup) (a : SharedBoard) (ps : List Part) (f : Part → Part) → ((i : ℕ) (p : Part) → get_elem? ps i ≡ some p → ShowsPart z a (f p)) → (i : ℕ) (q : Part) → get_elem? (map f ps) i ≡ some q → ShowsPart z a q
each_ok z a ps f h i q e = let t = at_map_back f ps i q e in subst (ShowsPart z a) t.2 (h i t.0 t.1)

pub opt_cases : (o : Option ℕ) → (o ≡ None) ⊎ ((d : ℕ) × (o ≡ Some d))
opt_cases None = inl refl
opt_cases (Some d) = inr (d, refl)

pub only_keep : (word k : ℕ) (f : Part → Part) → ((p : Part) → is_at k (f p) ≡ is_at k p) → (p : Part) → is_at k (only_at word f p) ≡ is_at k p
only_keep word k f same p = pick (λ (q : Part). is_at k q ≡ is_at k p) (eqb (p.slot + 2) word) (f p) p (λ _. same p) (λ _. refl)

pub follower_cases : (o : Option SharedFollower) → (o ≡ None) ⊎ ((f : SharedFollower) × (o ≡ Some f))
follower_cases None = inl refl
follower_cases (Some f) = inr (f, refl)
