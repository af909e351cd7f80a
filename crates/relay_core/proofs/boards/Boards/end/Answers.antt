use Rattle.std.proofs.Common.{◌≡◌, cond, option_map, Some, Result, Ok, Err, refl, sym, ap, ◌∙◌, rules}
use Rattle.std.specs.Result.{OnOk}
use Rattle.std.specs.Map.{lookup}
use Rattle.c960_game.specs.declared.outcome.Outcome.{Outcome}
use Rattle.c960_game.specs.declared.refusal.Refusal.{Refusal}
use Rattle.relay_core.specs.BoardAnswers.{end_answer_at, ended_by}
use Rattle.relay_core.specs.Inner.Maps.{HeldBoards}
use Rattle.relay_core.specs.Name.{same_name}
use Rattle.relay_core.proofs.boards.Boards.end.Goals as goal

pub returns-clause-answer : goal.returns-clause-answer
returns-clause-answer c =
    let found : lookup (same_name c.args.board) c.args.self.now.entries ≡ Some c.in-Some.game.now = search rules in
    c.end.ensures.answer ∙ sym (ap (end_answer_at c.args.ending) found)

at_ok : (r : Result Outcome Refusal) (P : Type 0) → ((o : Outcome) → r ≡ Ok o → P) → OnOk r P
at_ok (Ok o) P h = h o refl
at_ok (Err e) P h = tt

pub returns-clause-updates : goal.returns-clause-updates
returns-clause-updates c = at_ok c.end.result _ (λ o is.
    let found : lookup (same_name c.args.board) c.args.self.now.entries ≡ Some c.in-Some.game.now = search rules in
    let e : c.end.new.self ≡ ended_by c.args.ending c.in-Some.game.now = rw is at c.end.ensures.game in
    let written = ((c.get_mut.follows.holds c.end.new.self).3 (search rules)).0 in
    λ q. written q
    ∙ ap (λ o. cond (same_name c.args.board q) o (lookup (same_name q) c.self.inside.games.entries))
    (ap Some e ∙ sym (ap (option_map (ended_by c.args.ending)) found))
    ∙ ap (λ (b : HeldBoards). cond (same_name c.args.board q)
    (option_map (ended_by c.args.ending) (lookup (same_name c.args.board) c.args.self.now.entries))
    (lookup (same_name q) b.entries)) c.self.view_is)
