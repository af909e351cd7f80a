-- 11. A follower swaps its cursor for a vacant one.
use Rattle.std.proofs.Common.{◌≡◌, ℕ, ◌+◌, ◌-◌, get_or, set, None, sym, refl, ap, subst, arith, length-set}
use Rattle.live_board.specs.SharedBoard.{with_follower}
use Rattle.live_board.specs.Events.{Leave, Goes, changed}
use Rattle.live_board.proofs.EventFacts.{goes}
use Rattle.live_board.specs.declared.note.Note.TheVariants.{Vacant}
use Rattle.live_board.specs.declared.view.View.{View}
use Rattle.live_board.specs.Views.{left_at}
use Rattle.live_board.specs.Shows.{total, is_at, one_if}
use Rattle.live_board.specs.Kinds.{SwapsOut}
use Rattle.live_board.proofs.Notes.{follower, note_gone, Notes, notes_set, notes_same}
use Rattle.live_board.proofs.Parts.{part_other, same_part, at_yes, without_at, without_none, without_same}
use Rattle.live_board.proofs.EachStep.{turned}
use Rattle.live_board.proofs.lemmas.Totals.{term_le}

pub swaps_out : SwapsOut
swaps_out z a s id m r seat i p mine =
    let v = m.0 in
    let h = r.parts id v seat i p mine in
    let k = p.slot in
    let word : ℕ = k + 2 in
    let n : ℕ = get_or s.words word 0 in
    let f = follower p.joined p.taken h.closing in
    let w = left_at word n v in
    let b = changed a k None in
    let event : Goes z.limits a (Leave k) b = (f, h.has, refl) in
    let at-k : word - 2 ≡ k = omega arith in
    let mine-one : total (is_at k) v.parts ≡ 1 = let once = r.one_part k h.inside in let one : one_if (a.followers k) ≡ 1 = ap one_if h.has in
    omega (arith, at_yes k p refl, term_le (is_at k) v.parts i p mine, term_le (λ (u : View). total (is_at k) u.parts) s.views id v seat) in (
      b,
      event,
      turned z a s r k None 0 id v w (goes z.limits a b (Leave k) r.shared event) seat h.inside refl
          (λ j u ne e i' x d same. absurd (ne (same_part z a s r id j i i' v u p x seat e mine d same).0))
          (λ j u ne e ow. notes_same a.followers k None u.notes ((r.board j u e ow).1.notes) (λ x _. note_gone x))
          refl refl refl refl refl (length-set v.notes (word - 2) Vacant) refl
          (λ ow. subst (λ (x : ℕ). Notes (with_follower a.followers k None) (set v.notes x Vacant)) (sym at-k) (notes_set a.followers k None v.notes Vacant ((r.board id v seat ow).1.notes) refl))
          (λ i' x d. let t = without_at word v.parts i' x d in part_other z a k None x (r.parts id v seat t.0 x t.1) (λ same. t.2 (ap (λ (y : ℕ). y + 2) same)))
          (let none-now = without_none k word v.parts refl in let one : one_if (a.followers k) ≡ 1 = ap one_if h.has in omega arith)
          (λ j ne. without_same j word v.parts (λ e. ne (omega arith))),
    )
