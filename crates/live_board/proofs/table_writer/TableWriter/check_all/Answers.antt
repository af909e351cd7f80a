use Rattle.std.proofs.Common.{arith, refl, ap, ◌∙◌, subst, ◌≡◌, ◌≤◌, ℕ, length}
use Rattle.live_board.specs.declared.setup.BoardSetup.{BoardSetup}
use Rattle.live_board.specs.Sound.{IsSound}
use Rattle.live_board.specs.Seats.{BoardSeat}
use Rattle.live_board.specs.TableWriter.{CheckedBelow, LoadedBelow}
use Rattle.live_board.proofs.TableWriters.{same_followers}
use Rattle.live_board.proofs.lemmas.Tries.{checked_more, counted_below, unmoved_below}
use Rattle.live_board.proofs.table_writer.TableWriter.check_all.Goals as goal

pub loop-slot-init : goal.loop-slot-init
loop-slot-init c = (refl, refl, subst (λ (h : BoardSeat). IsSound h.knows) c.self.view_is c.self.invariant.sound)

pub check-requires : goal.check-requires
check-requires c =
    let t = unmoved_below c.loop-slot.slot _ _ c.loop-slot.invariant.1 in
    omega (arith, c.loop-slot-test.true, same_followers c.self.invariant _ (ap (λ (h : BoardSeat). h.knows) c.self.view_is), ap (λ (z : BoardSetup). z.limits.followers) t.setup)

pub loop-slot-preserved : goal.loop-slot-preserved
loop-slot-preserved c =
    let a = c.loop-slot.invariant in
    let e = c.check.ensures in
    (e.table ∙ a.0, checked_more c.loop-slot.slot _ _ _ a.1 e.knows, e.sound)

pub returns : goal.returns
returns c =
    let a = c.loop-slot.invariant in
    let is = c.self.view_is in
    let b = c.self.invariant.sound.board c.self.invariant.owns in
    let n : c.loop-slot.slot ≡ c.args.self.now.knows.setup.limits.followers =
    omega (arith, c.loop-slot-test.false, c.loop-slot.auto.slot-end, same_followers c.self.invariant _ (ap (λ (h : BoardSeat). h.knows) is)) in
    let within : c.loop-slot.slot ≤ length c.args.self.now.knows.checks = omega (arith, n, b.checked, ap (λ (h : BoardSeat). h.knows.setup.limits.followers) is, ap (λ (h : BoardSeat). length h.knows.checks) is) in
    record {
      table = a.0;
      knows = subst (λ (x : ℕ). CheckedBelow x c.args.self.now.knows c.loop-slot.self.knows) n a.1;
      loaded = subst (λ (x : ℕ). LoadedBelow x c.args.self.now.knows c.loop-slot.self.knows) n (counted_below c.loop-slot.slot _ _ within a.1).rose;
      kept = unmoved_below c.loop-slot.slot _ _ a.1;
      before = subst (λ (h : BoardSeat). IsSound h.knows) is c.self.invariant.sound;
      sound = a.2;
    }
