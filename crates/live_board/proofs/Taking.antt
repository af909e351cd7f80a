-- 8. A follower adds one to its cursor.
use Rattle.std.proofs.Common.{◌≡◌, ℕ, ◌+◌, ◌*◌, ◌%◌, ◌^◌, ◌<◌, true, List, [], ◌∷◌, ◌++◌, length, get_or, Option, Some, None, sym, refl, ap, ◌∙◌, subst, ⊎_elim, arith, eqb, eqb-true, length-append}
use Rattle.std.specs.Prelude.{IfSome}
use Rattle.std.specs.Option.{option_to_list}
use Rattle.std.proofs.lemmas.Option.{same_Some, none-some}
use mathlib.Core.Option.{some, some-injective}
use lib.ListN.{get_elem?}
use Rattle.c960_board.specs.Moves.{Triple}
use Rattle.live_board.specs.declared.words.TheConstants.{MARK}
use Rattle.live_board.specs.SharedBoard.{SharedBoard, SharedFollower, next, move_at, with_follower}
use Rattle.live_board.specs.Events.{Take, Goes, HasNext, changed}
use Rattle.live_board.proofs.SharedFollowers.{with_here}
use Rattle.live_board.proofs.EventFacts.{goes}
use Rattle.live_board.specs.declared.setup.BoardSetup.{BoardSetup}
use Rattle.live_board.specs.declared.view.Part.{Part}
use Rattle.live_board.specs.declared.view.View.{View}
use Rattle.live_board.specs.Words.{mark, cursor_word, closing_in}
use Rattle.live_board.specs.Views.{next_of, gains, only_at, each_part}
use Rattle.live_board.specs.Shows.{Table, total, is_at, one_if, IsTrueNote, Shows, ShowsPart}
use Rattle.live_board.specs.Kinds.{AddsOne}
use Rattle.live_board.proofs.Notes.{follower, closing_is, note_next, Notes, notes_same}
use Rattle.live_board.proofs.Parts.{part_other, same_part}
use Rattle.live_board.proofs.lemmas.Cases.{pick, not_there}
use Rattle.live_board.proofs.EachStep.{Parts, turned, each_ok, opt_cases, only_keep}
use Rattle.live_board.proofs.lemmas.Totals.{total-map}

-- a part's cursor says its closing
pub closing_shown : (z : BoardSetup) (a : SharedBoard) (s : Table) → Shows z a s → (p : Part) (h : ShowsPart z a p) → closing_in (get_or s.words (p.slot + 2) 0) ≡ h.closing
closing_shown z a s r p h =
    let seen = h.seen in
    let room = r.shared.room in
    let plies = r.limits.most_plies in
    ap closing_in (r.cursors p.slot h.inside ∙ ap cursor_word h.has) ∙ closing_is (next_of p) h.closing (omega arith)

pub adds_one : AddsOne
adds_one z a s id m r seat i p item mine known unclosed =
    let v = m.0 in
    let h = r.parts id v seat i p mine in
    let k = p.slot in
    let word : ℕ = k + 2 in
    let seen = h.seen in
    let inside = h.inside in
    let room = r.shared.room in
    let plies = r.limits.most_plies in
    let f = follower p.joined p.taken h.closing in
    let ok = (r.shared.slots k f h.has).1 in
    let marks : mark h.closing < 65600 = ⊎_elim (λ (e : h.closing ≡ None). let x = ap mark e in omega arith) (λ (t : (d : ℕ) × (h.closing ≡ Some d)). let c = (ok.closed t.0 t.1).1 in let x = ap mark t.1 in omega arith) (opt_cases h.closing) in
    let next-one : (next_of p < p.seen) × (item ≡ move_at a.log (next_of p)) = subst (λ o. IfSome o (λ x. (next_of p < p.seen) × (x ≡ move_at a.log (next_of p)))) known h.loaded in
    let less = next-one.0 in
    let logged = move_at a.log (next_of p) in
    let list : List Triple = p.taken ++ logged ∷ [] in
    let longer : length list ≡ length p.taken + 1 = length-append p.taken (logged ∷ []) in
    let o : Option SharedFollower = Some (follower p.joined list h.closing) in
    let n : ℕ = get_or s.words word 0 in
    let was : n ≡ next_of p + MARK * mark h.closing = r.cursors k inside ∙ ap cursor_word h.has in
    let n' : ℕ = (n + 1) % 2 ^ 64 in
    let new : n' ≡ next (follower p.joined list h.closing) + MARK * mark h.closing = omega arith in
    let shows-closing : closing_in n ≡ h.closing = closing_shown z a s r p h in
    let more : HasNext a f = (
      omega arith,
      λ c e. ⊎_elim
          (λ (none-noticed : p.closing ≡ None). let u = h.unnoticed c none-noticed e in let pos = r.limits.some_capacity in omega arith)
          (λ (t : (d : ℕ) × (p.closing ≡ Some d)). unclosed c (t.1 ∙ ap Some (same_Some t.0 c (sym (h.noticed t.0 t.1) ∙ e)))) (opt_cases p.closing),
    ) in
    let b = changed a k o in
    let event : Goes z.limits a (Take k) b = (f, h.has, more, refl) in
    let g = only_at word (gains n) in
    let w = each_part g v in
    let taken-list : p.taken ++ option_to_list p.loaded ≡ list = ap (λ (y : Option Triple). p.taken ++ option_to_list y) known ∙ ap (λ (x : Triple). p.taken ++ x ∷ []) next-one.1 in
    let taken-len : length (p.taken ++ option_to_list p.loaded) ≡ length p.taken + 1 = ap length taken-list ∙ longer in
    let gained : ShowsPart z b (gains n p) = record {
      inside = inside;
      setup_is = h.setup_is;
      closing = h.closing;
      has = with_here a.followers k o ∙ ap (λ (l : List Triple). Some (follower p.joined l h.closing)) (sym taken-list);
      before = h.before;
      noticed = λ c e. sym shows-closing ∙ e;
      unnoticed = λ c e e'. absurd (none-some c (sym e ∙ shows-closing ∙ e'));
      seen = (omega arith, seen.1);
      over = h.over;
      loaded = tt;
    } in
    let distinct : (j' i' : ℕ) (v' : View) (x : Part) → get_elem? s.views j' ≡ some v' → get_elem? v'.parts i' ≡ some x → x.slot ≡ k → (j' ≡ id) × (i' ≡ i) =
    λ j' i' v' x e d same. same_part z a s r id j' i i' v v' p x seat e mine d same in
    let notes : (j : ℕ) (u : View) → get_elem? s.views j ≡ some u → u.owns ≡ true → Notes (with_follower a.followers k o) u.notes =
    λ j u e ow. notes_same a.followers k o u.notes ((r.board j u e ow).1.notes) (λ x y. note_next x p.joined p.taken logged h.closing (subst (IsTrueNote x) h.has y)) in
    let here : Parts z b w = each_ok z b v.parts g (λ i' x d. pick (ShowsPart z b) (eqb (x.slot + 2) word) (gains n x) x
    (λ e. let same : x.slot ≡ k = let y = eqb-true (x.slot + 2) word e in omega arith in
    subst (λ (y : Part). ShowsPart z b (gains n y)) (some-injective p x (sym mine ∙ ap (get_elem? v.parts) (sym (distinct id i' v x seat d same).1) ∙ d)) gained)
    (λ e. part_other z a k o x (r.parts id v seat i' x d) (λ same. not_there word (x.slot + 2) e (ap (λ (y : ℕ). y + 2) same)))) in
    let kept = λ (j : ℕ). total-map (is_at j) g (only_keep word j (gains n) (λ x. refl)) v.parts in (
      b,
      event,
      turned z a s r k o n' id v w (goes z.limits a b (Take k) r.shared event) seat inside new (λ j u ne e i' x d same. absurd (ne (distinct j i' u x e d same).0)) (λ j u ne e ow. notes j u e ow) refl refl refl refl refl refl refl (λ ow. notes id v seat ow) here
          (ap (λ (t : ℕ). t + one_if (a.followers k)) (kept k) ∙ ap (λ (t : ℕ). total (is_at k) v.parts + t) (ap one_if h.has)) (λ j ne. kept j),
    )
