use Rattle.std.proofs.Common.{rules, arith, sym, ap, ◌∙◌, ℕ, List, Some, subst}
use Rattle.c960_board.specs.Moves.{Triple}
use Rattle.c960_game.specs.Ground.{Ground}
use Rattle.live_board.specs.declared.setup.BoardSetup.{BoardSetup}
use Rattle.live_board.specs.Words.{status_word}
use Rattle.live_board.specs.Seats.{BoardSeat}
use Rattle.live_board.proofs.Allowed.{allows_finishing}
use Rattle.live_board.proofs.table_writer.TableWriter.finish.Goals as goal

pub store-requires : goal.store-requires
store-requires c =
    let i = c.self.invariant in
    let is = c.self.view_is in
    let same = c.deref.ensures in
    let b = i.sound.board i.owns in
    let room = b.room in
    let plies = b.limits.most_plies in
    let key = ap (λ t. t.shared.key) same ∙ i.key_is ∙ sym i.setup_is ∙ ap (λ (h : BoardSeat). h.knows.setup) is in (
      search rules,
      omega (arith, i.words, ap (λ t. t.shared.table_id.words) same),
      allows_finishing _ _ _ _ c.args.ending.now i.owns (ap (λ (h : BoardSeat). h.knows.outcome) is ∙ c.requires.going)
          (subst (λ (x : ℕ × List Triple). Ground x.0 x.1 c.args.ending.now) (λ k. (ap (λ (z : BoardSetup). z.start) (sym key) k, ap (λ (h : BoardSeat). h.knows.log) (sym is) k)) c.requires.grounded)
          (omega (arith, room, plies)) _ (c.status-status.ensures ∙ (λ k. status_word (i.len_is k) (Some (c.requires.outcome k)))),
    )
