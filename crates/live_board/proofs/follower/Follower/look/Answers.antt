use Rattle.std.proofs.Common.{rules, ◌≡◌, ℕ, ◌≤◌, Some, subst, ap, ◌∙◌}
use lib.ListN.{get_elem?}
use Rattle.live_board.specs.declared.view.Part.{Part}
use Rattle.live_board.specs.declared.view.View.{View}
use Rattle.live_board.specs.Words.{length_in, outcome_in}
use Rattle.live_board.specs.Views.{each_part, sees}
use Rattle.live_board.proofs.Allowed.{allows_looking}
use Rattle.live_board.specs.Seats.{FollowerSeat, part_of}
use Rattle.live_board.specs.Takes.{StaysKnown}
use Rattle.live_board.proofs.Followers.{follower_of, part_sound}
use Rattle.live_board.proofs.follower.Follower.look.Goals as goal

pub load-status-requires : goal.load-status-requires
load-status-requires c = (search rules, search rules, allows_looking _ _ _ _)

pub invariant_of-self : goal.invariant_of-self
invariant_of-self c =
    let i = c.self.invariant in
    let f = c.load-status.ensures in
    let n = c.load-status.result in
    follower_of (sees n (part_of c.self.inside.seat.me.0)) (f.2.1 ∙ ap (each_part (sees n)) i.one) f.2.0.1 (f.2.0.0 ∙ i.none_held) (f.0 ∙ i.table) i.words i.key_is i.setup_is i.slot_is i.joined_is i.taken_is c.length_in-self-inside.ensures c.outcome_in-self-inside.ensures i.closing_is

pub returns-clause-part : goal.returns-clause-part
returns-clause-part c =
    let i = c.self.invariant in
    let f = c.load-status.ensures in
    let n = c.load-status.result in
    let now = ap (λ (h : FollowerSeat). h.part) c.self.view_is in
    let t = f.2.2 0 (part_of c.self.inside.seat.me.0) (ap (λ (u : View). get_elem? u.parts 0) i.one) in
    let u = subst (λ (q : Part). (q.seen ≤ length_in n) × ((d : ℕ) → q.closing ≡ Some d → d ≤ length_in n) × StaysKnown q.outcome (outcome_in n)) now t in
    (n, ap part_of (f.2.1 ∙ ap (each_part (sees n)) i.one) ∙ ap (sees n) now, u.0, u.1, u.2)

pub returns-clause-sound : goal.returns-clause-sound
returns-clause-sound c =
    let i = c.self.invariant in
    let f = c.load-status.ensures in
    let n = c.load-status.result in
    part_sound _ c.self.inside.setup (sees n (part_of c.self.inside.seat.me.0)) (f.2.1 ∙ ap (each_part (sees n)) i.one) f.2.0.1
