use Rattle.std.proofs.Common.{arith, refl, sym, ap, ◌∙◌, subst, ◌≡◌, ℕ, length}
use mathlib.Core.Logic.{dite}
use native.Mathlib.Decide.{ℕ_discrete}
use lib.ListN.{get_elem?}
use Rattle.live_board.specs.declared.note.Note.TheVariants.{Open}
use Rattle.live_board.specs.declared.view.View.{View}
use Rattle.live_board.specs.Sound.{IsSound}
use Rattle.live_board.specs.Seats.{BoardSeat}
use Rattle.live_board.specs.TableWriter.{TriedBelow, FreeBelow}
use Rattle.live_board.proofs.lemmas.Notes.{at_within}
use Rattle.live_board.proofs.TableWriters.{same_followers}
use Rattle.live_board.proofs.lemmas.Tries.{tidied, tidied_below, tried_more}
use Rattle.live_board.proofs.table_writer.TableWriter.close_each.Goals as goal

pub loop-slot-init : goal.loop-slot-init
loop-slot-init c =
    let len = c.self.invariant.len_is ∙ ap (λ (h : BoardSeat). length h.knows.log) c.self.view_is in
    (refl, refl, subst (λ (h : BoardSeat). IsSound h.knows) c.self.view_is c.self.invariant.sound, omega (arith, len), λ k j b less e. absurd (omega arith))

-- the slot of the loop is at a cursor, before and after its follower was tried
pub close_at-requires : goal.close_at-requires
close_at-requires c =
    let t = tidied_below c.loop-slot.slot _ _ c.loop-slot.invariant.1 in
    omega (arith, c.loop-slot-test.true, same_followers c.self.invariant _ (ap (λ (h : BoardSeat). h.knows) c.self.view_is), ap (λ (v : View). v.setup.limits.followers) t.same)

pub noted_at-requires : goal.noted_at-requires
noted_at-requires c =
    let t = tidied_below c.loop-slot.slot _ _ c.loop-slot.invariant.1 in
    let u = tidied _ _ c.loop-slot.slot c.close_at.ensures.knows in
    omega (arith, c.loop-slot-test.true, same_followers c.self.invariant _ (ap (λ (h : BoardSeat). h.knows) c.self.view_is), ap (λ (v : View). v.setup.limits.followers) t.same, ap (λ (v : View). v.setup.limits.followers) u.same)

pub loop-slot-preserved : goal.loop-slot-preserved
loop-slot-preserved c =
    let a = c.loop-slot.invariant in
    let e = c.close_at.ensures in
    let u = tidied _ _ c.loop-slot.slot e.knows in (
      e.table ∙ a.0,
      tried_more c.loop-slot.slot _ _ _ a.1 e.knows,
      e.sound,
      omega (arith, a.3, c.min-least.ensures),
      λ k j b less d. dite (ℕ_discrete k c.loop-slot.slot)
          (λ (here : k ≡ c.loop-slot.slot). omega (arith, c.noted_at.ensures.open j b (ap (get_elem? c.close_at.new.self.knows.notes) (sym here) ∙ d), c.min-least.ensures))
          (λ ne. omega (arith, a.4 k j b (omega arith) (sym (u.elsewhere k ne) ∙ d), c.min-least.ensures)),
    )

pub returns : goal.returns
returns c =
    let a = c.loop-slot.invariant in
    let n : c.loop-slot.slot ≡ c.args.self.now.knows.setup.limits.followers =
    omega (arith, c.loop-slot-test.false, c.loop-slot.auto.slot-end, same_followers c.self.invariant _ (ap (λ (h : BoardSeat). h.knows) c.self.view_is)) in
    let t = tidied_below c.loop-slot.slot _ _ a.1 in
    let i = c.self.invariant in
    let noted = (i.sound.board i.owns).noted ∙ ap (λ (h : BoardSeat). h.knows.setup.limits.followers) c.self.view_is in
    let long = t.long ∙ ap (λ (h : BoardSeat). length h.knows.notes) (sym c.self.view_is) in
    record {
      table = a.0;
      knows = subst (λ (x : ℕ). TriedBelow x c.args.self.now.knows c.loop-slot.self.knows) n a.1;
      free = subst (λ (x : ℕ). FreeBelow x c.loop-slot.self.knows) (n ∙ sym (ap (λ (v : View). v.setup.limits.followers) t.same)) t.free;
      setup = ap (λ (v : View). v.setup) t.same;
      log = ap (λ (v : View). v.log) t.same;
      outcome = ap (λ (v : View). v.outcome) t.same;
      sound = a.2;
      least = λ k j b e. a.4 k j b (omega (arith, at_within c.loop-slot.self.knows.notes k (Open j b) e, n, noted, long)) e;
      low = omega (arith, a.3, ap (λ (v : View). length v.log) t.same);
    }
