use Rattle.std.proofs.Common.{◌+◌, ap, sym, ◌∙◌}
use Rattle.c960_board.specs.declared.parts.Parts.{Parts}
use Rattle.c960_game.proofs.lemmas.KeptFacts.{game_is, game_more, log_more, recent_is}
use Rattle.c960_game.proofs.RecentFacts.{times_anew, times_more}
use Rattle.c960_game.proofs.game.Game.appearances_after.Goals as goal

pub returns-then-half_moves-eq0 : goal.returns-then-half_moves-eq0
returns-then-half_moves-eq0 c =
    let game = game_is c.self.inside c.args.self.now c.self.invariant c.self.view_is in
    let longer = game_more c.args.self.now c.args.m game c.requires.going c.requires.room c.requires.legal in
    let short = log_more c.args.self.now c.args.m game c.requires.room in
    let counter = c.half_moves.ensures ∙ ap (λ (p : Parts). p.half_moves) (c.position.ensures.value ∙ c.requires.next) in
    sym (times_anew c.args.self.now.start c.args.self.now.log c.args.m longer.legal short (sym counter ∙ c.if-half_moves-eq0.true))

pub returns-else-half_moves-eq0 : goal.returns-else-half_moves-eq0
returns-else-half_moves-eq0 c =
    let game = game_is c.self.inside c.args.self.now c.self.invariant c.self.view_is in
    let longer = game_more c.args.self.now c.args.m game c.requires.going c.requires.room c.requires.legal in
    let short = log_more c.args.self.now c.args.m game c.requires.room in
    let counter = c.half_moves.ensures ∙ ap (λ (p : Parts). p.half_moves) (c.position.ensures.value ∙ c.requires.next) in
    let recent = recent_is c.self.inside c.args.self.now c.self.invariant c.self.view_is in
    let more =
    times_more c.args.self.now.start c.args.self.now.log c.args.m longer.legal short
    (λ e. c.if-half_moves-eq0.false (counter ∙ e)) in
    ap (λ k. k + 1) (rw (c.deref.ensures.value, recent, c.requires.next) at c.count_same.ensures) ∙ sym more
