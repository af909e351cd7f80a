use Rattle.std.proofs.Common.{ℕ, List, Some, Ok, Err, refl, subst}
use Rattle.std.specs.HashMap.{spare}
use Rattle.std.specs.Map.{lookup}
use Rattle.relay_core.specs.Name.{same_name}
use Rattle.c960_board.specs.declared.parts.Parts.{Parts}
use Rattle.relay_core.specs.declared.reply.Reply.TheVariants.{Following, Refused}
use Rattle.live_board.specs.Seats.{FollowerSeat}
use Rattle.relay_hall.specs.Hosting.{HandsAt}
use Rattle.relay_hall.specs.Inner.{state_of}
use Rattle.relay_hall.specs.Record.{FloorState}
use Rattle.relay_hall.proofs.Floors.{follow_lives, follow_makes, follow_rows, showing}
use Rattle.relay_hall.proofs.floor.Floor.joins.Goals as goal

pub invariant_of-self : goal.invariant_of-self
invariant_of-self c =
    let a = c.self.inside in
    let e = c.hand_out.ensures in
    follow_lives c.of.result a.boards.entries c.hand_out.new.boards.entries e.turned a.limits (spare a.boards) (spare c.hand_out.new.boards) c.self.invariant e.room

pub invariant_of-self-in-Err : goal.invariant_of-self-in-Err
invariant_of-self-in-Err c =
    let a = c.self.inside in
    let e = c.hand_out.ensures in
    follow_lives c.of.result a.boards.entries c.hand_out.new.boards.entries e.turned a.limits (spare a.boards) (spare c.hand_out.new.boards) c.self.invariant e.room

pub returns-in-Ok : goal.returns-in-Ok
returns-in-Ok c who =
    let a = c.self.inside in
    let e = c.hand_out.ensures in
    let f : FollowerSeat = c.in-Ok.follower in
    let joined : FollowerSeat × Parts = (f, c.in-Ok.replaying) in
    let hands = subst (λ (n : List ℕ). HandsAt (lookup (same_name n) a.boards.entries) c.args.from c.hand_out.result) c.of.ensures e.answer in
    let same = follow_rows c.of.result a.boards.entries c.hand_out.new.boards.entries e.turned in
    let later : FloorState = record (showing (state_of a) c.hand_out.new.boards.entries) { handed = Some (record { board = c.args.board; follower = f }) } in
    rw (← c.self.view_is)
    (follow_makes (state_of a) a.boards.entries c.hand_out.new.boards.entries (spare a.boards) refl c.self.invariant same who c.args.board c.args.from
    c.hand_out.result (Ok joined) hands c.in-Ok.is (Following c.joined-joined.result c.position.result)
    (λ i. Following (c.joined-joined.ensures i) (c.position.ensures i)) later refl)

-- a follow that was refused: what was noted of the slots is not shown
pub returns-in-Err : goal.returns-in-Err
returns-in-Err c who =
    let a = c.self.inside in
    let e = c.hand_out.ensures in
    let hands = subst (λ (n : List ℕ). HandsAt (lookup (same_name n) a.boards.entries) c.args.from c.hand_out.result) c.of.ensures e.answer in
    let same = follow_rows c.of.result a.boards.entries c.hand_out.new.boards.entries e.turned in
    rw (← c.self.view_is)
    (follow_makes (state_of a) a.boards.entries c.hand_out.new.boards.entries (spare a.boards) refl c.self.invariant same who c.args.board c.args.from
    c.hand_out.result (Err c.in-Err.refusal) hands c.in-Err.is (Refused c.in-Err.refusal) refl (showing (state_of a) c.hand_out.new.boards.entries) refl)
