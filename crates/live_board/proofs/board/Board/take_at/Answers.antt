use Rattle.std.proofs.Common.{◌≡◌, ◌<◌, ◌≤◌, ℕ, [], length, Option, Some, None, sym, ap, ◌∙◌, subst, true≢false, arith}
use mathlib.Core.Option.{some}
use lib.ListN.{get_elem?}
use Rattle.atomic_table.proofs.Lists.{at_map}
use Rattle.c960_board.specs.Moves.{Triple}
use Rattle.c960_game.specs.GameRecord.{GameRecord}
use Rattle.relay_core.specs.declared.reply.Taken.{Taken}
use Rattle.relay_core.specs.declared.reply.Taken.TheVariants.{Move, Cut}
use Rattle.relay_core.specs.Replies.{taken_of}
use Rattle.relay_core.specs.Takes.{without_move}
use Rattle.live_board.specs.SharedBoard.{move_at}
use Rattle.live_board.specs.declared.view.View.{View}
use Rattle.live_board.specs.Views.{sees}
use Rattle.live_board.specs.Carried.{closing_at, due_at, TookAt}
use Rattle.live_board.specs.Seats.{BoardSeat}
use Rattle.live_board.specs.Sound.{IsSoundBoard}
use Rattle.live_board.proofs.Carrying.{before_closing, more_due, none_due, took_cut, took_move, took_none}
use Rattle.live_board.proofs.Rules.{more_there, more_uncut, none_there, none_uncut}
use Rattle.live_board.proofs.board.Board.take_at.Goals.{After-look}
use Rattle.live_board.proofs.board.Board.take_at.Goals as goal

-- what is answered when no move is there to take, by a view
abbrev rule : View → ℕ → ℕ → Option Taken
rule v slot next = without_move (closing_at v slot) next (length v.log) v.outcome

-- it is what the function found
known : (c : After-look) → rule c.self.inside.writer.knows c.args.slot c.args.next ≡ c.without_move-answer.result
known c =
    let length-is = c.from-len.ensures ∙ c.len.ensures ∙ ap (λ (g : GameRecord). length g.log) c.self.invariant.game_is in
    let over-is = c.outcome.ensures ∙ ap (λ (g : GameRecord). g.outcome) c.self.invariant.game_is in
    (λ i. without_move (sym c.closing_at-closing.ensures.closing i) (sym c.from-place.ensures i) (sym length-is i) (sym over-is i))
    ∙ sym c.without_move-answer.ensures

-- if it is nothing, a move is there, and the follower is not at its closing
more : (c : After-look) → c.without_move-answer.result ≡ None
    → (c.args.next < length c.self.inside.writer.knows.log) × (closing_at c.self.inside.writer.knows c.args.slot ≡ Some c.args.next → ⊥)
more c is =
    let v = c.self.inside.writer.knows in
    let by : rule v c.args.slot c.args.next ≡ None = known c ∙ is in (
      more_there (closing_at v c.args.slot) c.args.next (length v.log) v.outcome by,
      more_uncut (closing_at v c.args.slot) c.args.next (length v.log) v.outcome by,
    )

-- if not, none is, and it is not there either
none : (c : After-look) (answer : Taken) → c.without_move-answer.result ≡ Some answer
    → (closing_at c.self.inside.writer.knows c.args.slot ≡ Some c.args.next → ⊥) × (length c.self.inside.writer.knows.log ≤ c.args.next)
    × (answer ≡ taken_of c.args.next c.self.inside.writer.knows.outcome None [])
none c answer is =
    let v = c.self.inside.writer.knows in
    let by : rule v c.args.slot c.args.next ≡ Some answer = known c ∙ is in
    let not-cut : answer ≡ Cut → ⊥ = λ e. true≢false (sym (c.is_cut.ensures.1 (is ∙ ap Some e)) ∙ c.if-is_cut.false) in
    let d = none_there (closing_at v c.args.slot) c.args.next (length v.log) v.outcome answer by not-cut in
    (none_uncut (closing_at v c.args.slot) c.args.next (length v.log) v.outcome answer by not-cut, d.0, d.1)

-- the follower's part before the look and after it
carried : (c : After-look) → get_elem? c.self.inside.writer.knows.parts c.requires.0 ≡ some c.requires.1
carried c = ap (λ (h : BoardSeat). get_elem? h.knows.parts c.requires.0) c.self.view_is ∙ c.requires.2

looked : (c : After-look) → get_elem? c.look.new.self.knows.parts c.requires.0 ≡ some (sees c.look.ensures.knows.0 c.requires.1)
looked c =
    let s = c.look.ensures.knows in
    ap (λ (u : View). get_elem? u.parts c.requires.0) s.1 ∙ at_map (sees s.0) c.self.inside.writer.knows.parts c.requires.0 c.requires.1 (carried c)

-- the board is sound
sound : (c : After-look) → IsSoundBoard c.self.inside.writer.knows
sound c = c.closing_at-closing.ensures.sound.board c.closing_at-closing.ensures.owns

pub returns-then-is_cut-clause-knows : goal.returns-then-is_cut-clause-knows
returns-then-is_cut-clause-knows c = took_cut c.args.slot c.args.self.now.knows

pub gain_at-requires-clause-part : goal.gain_at-requires-clause-part
gain_at-requires-clause-part c =
    let q = c.requires in
    let at = (goal.at.gain_at-requires-clause-part c).After-look in
    let t = more at c.in-None.is in
    let s = c.look.ensures.knows in (
      q.0,
      sees s.0 q.1,
      looked at,
      q.3,
      q.4 ∙ sym c.from-place.ensures,
      omega (arith, q.4, s.2, t.0),
      before_closing c.self.inside.writer.knows c.args.slot c.args.next q.0 q.1 (sound at) (carried at) q.3 q.4 t.1,
    )

pub returns-in-None-clause-answer : goal.returns-in-None-clause-answer
returns-in-None-clause-answer c =
    let q = c.requires in
    let at = (goal.at.returns-in-None-clause-answer c).After-look in
    let none-cut = more at c.in-None.is in
    let v = c.self.inside.writer.knows in
    let next = c.args.next in
    let t = more_due v c.args.slot next q.0 q.1 (sound at) (carried at) q.3 q.4 none-cut.1 none-cut.0 in
    let m : c.gain_at.result ≡ move_at v.log next = c.gain_at.ensures.move_is
    ∙ ap (λ (y : ℕ). move_at c.look.new.self.knows.log y) c.from-place.ensures ∙ ap (λ (u : View). move_at u.log next) c.look.ensures.knows.1 in
    ap (λ (y : Triple). Move next y) m
    ∙ sym (ap (taken_of next v.outcome (closing_at v c.args.slot)) t.1)
    ∙ ap (λ (h : BoardSeat). taken_of next h.knows.outcome (closing_at h.knows c.args.slot) (due_at h.knows c.args.slot next)) c.self.view_is

pub returns-in-None-clause-knows : goal.returns-in-None-clause-knows
returns-in-None-clause-knows c =
    let at = (goal.at.returns-in-None-clause-knows c).After-look in
    let less = (more at c.in-None.is).0 in
    let q = c.requires in
    let s = c.look.ensures.knows in
    let v = c.self.inside.writer.knows in
    let slot = c.args.slot in
    let owns = ap (λ (u : View). u.owns) s.1 ∙ c.closing_at-closing.ensures.owns in
    let g = c.gain_at.ensures.knows in
    let n = c.from-place.result in
    let took : TookAt slot (Move n c.gain_at.result) v c.gain_at.new.self.knows =
    took_move slot n s.0 g.0 q.0 c.gain_at.result (sees s.0 q.1) v c.look.new.self.knows c.gain_at.new.self.knows
    (c.look.ensures.sound.board owns) s.1 s.2 s.3 (omega (arith, less, c.from-place.ensures)) (looked at) q.3 (q.4 ∙ sym c.from-place.ensures) g.1 in
    subst (λ (h : BoardSeat). TookAt slot (Move c.args.next c.gain_at.result) h.knows c.gain_at.new.self.knows) c.self.view_is
    (subst (λ (y : ℕ). TookAt slot (Move y c.gain_at.result) v c.gain_at.new.self.knows) c.from-place.ensures took)

pub returns-in-Some-clause-answer : goal.returns-in-Some-clause-answer
returns-in-Some-clause-answer c =
    let q = c.requires in
    let at = (goal.at.returns-in-Some-clause-answer c).After-look in
    let d = none at c.in-Some.answer c.in-Some.is in
    let v = c.self.inside.writer.knows in
    let t = none_due v c.args.slot c.args.next q.0 q.1 (sound at) (carried at) q.3 q.4 d.0 d.1 in
    d.2 ∙ sym (λ k. taken_of c.args.next v.outcome (t.0 k) (t.1 k))
    ∙ ap (λ (h : BoardSeat). taken_of c.args.next h.knows.outcome (closing_at h.knows c.args.slot) (due_at h.knows c.args.slot c.args.next)) c.self.view_is

pub returns-in-Some-clause-knows : goal.returns-in-Some-clause-knows
returns-in-Some-clause-knows c =
    let d = none (goal.at.returns-in-Some-clause-knows c).After-look c.in-Some.answer c.in-Some.is in
    let s = c.look.ensures.knows in
    let v = c.self.inside.writer.knows in
    subst (λ (h : BoardSeat). TookAt c.args.slot c.in-Some.answer h.knows c.look.new.self.knows) c.self.view_is
    (subst (λ (a : Taken). TookAt c.args.slot a v c.look.new.self.knows) (sym d.2)
    (took_none c.args.slot s.0 c.args.next v c.look.new.self.knows v.outcome s.1 s.2 s.3))
