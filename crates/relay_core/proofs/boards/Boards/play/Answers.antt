use Rattle.std.proofs.Common.{◌≡◌, cond, length, option_map, Some, Err, sym, ap, ◌∙◌, rules}
use Rattle.std.proofs.lemmas.Result.{err_from_is_err_and}
use Rattle.std.specs.Map.{lookup}
use Rattle.c960_game.specs.Record.{with_move}
use Rattle.c960_game.specs.GameRecord.{GameRecord}
use Rattle.relay_core.specs.BoardAnswers.{play_answer_at, with_place}
use Rattle.relay_core.specs.Inner.Maps.{HeldBoards}
use Rattle.relay_core.specs.Name.{same_name}
use Rattle.relay_core.proofs.boards.Boards.play.Goals as goal

pub returns-in_err-outcome-clause-answer : goal.returns-in_err-outcome-clause-answer
returns-in_err-outcome-clause-answer c =
    let found : lookup (same_name c.args.board) c.args.self.now.entries ≡ Some c.in-Some.game.now = search rules in
    let told = err_from_is_err_and c.from_residual.result c.from_residual.ensures.1 in
    told.1 ∙ ap Err told.2
    ∙ ap (with_place (length c.in-Some.game.now.log)) (sym c.in_err-outcome.was ∙ c.play.ensures.answer)
    ∙ sym (ap (play_answer_at c.args.m) found)

pub returns-clause-updates : goal.returns-clause-updates
returns-clause-updates c =
    let found : lookup (same_name c.args.board) c.args.self.now.entries ≡ Some c.in-Some.game.now = search rules in
    let e : c.play.new.self ≡ with_move c.in-Some.game.now c.args.m = rw c.in_ok-outcome.was at c.play.ensures.game in
    let written = ((c.get_mut.follows.holds c.play.new.self).3 (search rules)).0 in
    λ q. written q
    ∙ ap (λ o. cond (same_name c.args.board q) o (lookup (same_name q) c.self.inside.games.entries))
    (ap Some e ∙ sym (ap (option_map (λ (game : GameRecord). with_move game c.args.m)) found))
    ∙ ap (λ (b : HeldBoards). cond (same_name c.args.board q)
    (option_map (λ (game : GameRecord). with_move game c.args.m) (lookup (same_name c.args.board) c.args.self.now.entries))
    (lookup (same_name q) b.entries)) c.self.view_is

pub returns-clause-len : goal.returns-clause-len
returns-clause-len c =
    (c.get_mut.follows.holds c.play.new.self).2 ∙ ap (λ (b : HeldBoards). length b.entries) c.self.view_is
