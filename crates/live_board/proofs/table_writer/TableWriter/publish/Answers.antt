use Rattle.std.proofs.Common.{rules, arith, sym, ap, ◌∙◌, ◌≡◌, ◌+◌, ◌<◌, length, [], ◌∷◌, ◌++◌, subst, ℕ, List}
use mathlib.Core.Option.{some}
use lib.ListN.{get_elem?}
use Rattle.c960_board.specs.Moves.{Triple}
use Rattle.c960_rules.specs.Legal.{Legal}
use Rattle.c960_game.specs.Ends.{own_outcome}
use Rattle.c960_game.specs.Positions.{last_position}
use Rattle.live_board.specs.declared.setup.BoardSetup.{BoardSetup}
use Rattle.live_board.specs.declared.note.Note.TheVariants.{Open}
use Rattle.live_board.specs.declared.view.View.{View}
use Rattle.live_board.specs.Words.{status_word}
use Rattle.live_board.proofs.Allowed.{allows_publishing}
use Rattle.live_board.specs.Seats.{BoardSeat}
use Rattle.live_board.proofs.lemmas.Notes.{at_within}
use Rattle.live_board.proofs.Steps.{storing_move}
use Rattle.live_board.proofs.table_writer.TableWriter.publish.Goals as goal

pub store-requires : goal.store-requires
store-requires c =
    let i = c.self.invariant in
    let is = c.self.view_is in
    let same = c.deref.ensures in
    let key = ap (λ t. t.shared.key) same ∙ i.key_is ∙ sym i.setup_is ∙ ap (λ (h : BoardSeat). h.knows.setup) is in (
      search rules,
      omega (arith, c.move_word_at-word.ensures, c.requires.within, ap (λ (h : BoardSeat). length h.knows.log) is, i.len_is, i.words, ap (λ t. t.shared.table_id.words) same, ap (λ (h : BoardSeat). h.knows.setup.limits.plies) is, ap (λ (z : BoardSetup). z.limits.plies) i.setup_is),
      storing_move _ _ _ _ c.args.m _ _ (omega (arith, c.move_word_at-word.ensures, i.len_is, ap (λ (z : BoardSetup). z.limits.followers) i.key_is, ap (λ t. t.shared.key.limits.followers) same)) c.code-code.ensures.value i.owns c.code-code.ensures.valid
          (omega (arith, c.requires.within, ap (λ (h : BoardSeat). length h.knows.log) is, ap (λ (z : BoardSetup). z.limits.plies) key)),
    )

pub store-requires-2 : goal.store-requires-2
store-requires-2 c =
    let i = c.self.invariant in
    let is = c.self.view_is in
    let same = c.deref.ensures in
    let b = i.sound.board i.owns in
    let now = c.store.ensures.2.1 c.args.m c.code-code.ensures.valid c.code-code.ensures.value in
    let key = ap (λ t. t.shared.key) same ∙ i.key_is ∙ sym i.setup_is ∙ ap (λ (h : BoardSeat). h.knows.setup) is in
    let start = ap (λ (z : BoardSetup). z.start) key in
    let log = ap (λ (v : View). v.log) now ∙ ap (λ (h : BoardSeat). h.knows.log) is in
    let long : c.self.inside.len + 1 ≡ length c.store.new.seat.me.0.log + 1 = omega (arith, i.len_is, ap (λ (v : View). length v.log) now) in
    let outcome : c.args.outcome ≡ own_outcome c.deref.result.now.shared.key.start (c.store.new.seat.me.0.log ++ c.args.m ∷ []) =
    c.requires.outcome ∙ (λ k. own_outcome (sym start k) (sym log k ++ c.args.m ∷ [])) in (
      search rules,
      omega (arith, i.words, ap (λ t. t.shared.table_id.words) same),
      allows_publishing _ _ _ _ c.args.m (ap (λ (v : View). v.owns) now ∙ i.owns) (ap (λ (v : View). v.stored) now) (ap (λ (v : View). v.outcome) now ∙ ap (λ (h : BoardSeat). h.knows.outcome) is ∙ c.requires.going)
          (subst (λ (x : ℕ × List Triple). Legal (last_position x.0 x.1) c.args.m) (λ k. (sym start k, sym log k)) c.requires.legal)
          (λ k j l e.
          let old : get_elem? c.args.self.now.knows.notes k ≡ some (Open j l) = ap (λ (h : BoardSeat). get_elem? h.knows.notes k) (sym is) ∙ ap (λ (v : View). get_elem? v.notes k) (sym now) ∙ e in
          let inside : k < length c.self.inside.seat.me.0.notes = at_within _ _ _ (ap (λ (v : View). get_elem? v.notes k) (sym now) ∙ e) in
          omega (arith, c.requires.free k j l (omega (arith, inside, b.noted, ap (λ (h : BoardSeat). h.knows.setup.limits.followers) is)) old, ap length log, ap (λ (z : BoardSetup). z.limits.capacity) key))
          c.status-status.result (c.status-status.ensures ∙ (λ k. status_word (long k) (outcome k))),
    )
