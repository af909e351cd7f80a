use Rattle.std.proofs.Common.{◌≡◌, Some, sym, ap, ◌∙◌, rules, arith}
use Rattle.relay_core.specs.declared.reply.Taken.TheVariants.{Move}
use Rattle.relay_core.specs.Takes.{without_move}
use Rattle.live_board.specs.declared.view.Part.{Part}
use Rattle.live_board.specs.Views.{next_of}
use Rattle.live_board.specs.Seats.{FollowerSeat}
use Rattle.live_board.proofs.Headlines.{took_of_game}
use Rattle.live_board.proofs.Rules.{found_none}
use Rattle.live_board.proofs.follower.Follower.take_unseen.Goals as goal

pub returns-in-Some-clause-took : goal.returns-in-Some-clause-took
returns-in-Some-clause-took c =
    let f = c.args.self.now in
    let g = c.look.new.self in
    let s = c.look.ensures.part in
    let closing-is = c.self.invariant.closing_is ∙ ap (λ (h : FollowerSeat). h.part.closing) c.self.view_is in
    let seen-is = c.self.invariant.seen_is ∙ ap (λ (h : FollowerSeat). h.part.seen) c.self.view_is in
    let outcome-is = c.self.invariant.outcome_is ∙ ap (λ (h : FollowerSeat). h.part.outcome) c.self.view_is in
    let rule : without_move g.part.closing (next_of f.part) g.part.seen g.part.outcome ≡ Some c.in-Some.answer =
    (λ i. without_move (sym closing-is i) (sym c.next-place.ensures.value i) (sym seen-is i) (sym outcome-is i))
    ∙ sym c.without_move.ensures ∙ c.in-Some.is in
    found_none f g c.in-Some.answer rule
    (λ k e.
    let was : f.part.closing ≡ Some k = sym (ap (λ (p : Part). p.closing) s.1) ∙ e in
    (c.requires.unclosed k was, omega (arith, s.3 k was, ap (λ (p : Part). p.seen) s.1)))
    (ap (λ (p : Part). p.loads) s.1) (ap (λ (p : Part). p.taken) s.1) (ap next_of s.1) c.look.ensures.sound.within

pub returns-in-Some-clause-headline : goal.returns-in-Some-clause-headline
returns-in-Some-clause-headline c =
    took_of_game c.args.self.now c.look.new.self c.in-Some.answer (search rules) (returns-in-Some-clause-took c) c.look.ensures.sound

pub returns-in-None-clause-headline : goal.returns-in-None-clause-headline
returns-in-None-clause-headline c =
    took_of_game c.args.self.now c.gain.new.self (Move c.next-place.result c.gain.result) (search rules) (search rules) c.gain.ensures.sound
