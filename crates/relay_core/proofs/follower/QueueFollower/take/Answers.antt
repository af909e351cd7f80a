use Rattle.std.proofs.Common.{◌≡◌, ◌+◌, [], length, refl, rules, Some}
use Rattle.std.specs.Map.{lookup}
use Rattle.relay_core.specs.BoardAnswers.{outcome_at}
use Rattle.relay_core.specs.Name.{same_name}
use Rattle.relay_core.specs.Takes.{without_move}
use Rattle.relay_core.proofs.Waiting.{told}
use Rattle.relay_core.proofs.follower.QueueFollower.take.Goals as goal

pub returns-in-Some-clause-answer : goal.returns-in-Some-clause-answer
returns-in-Some-clause-answer c =
    let f = c.args.self.now in
    let over = outcome_at (lookup (same_name f.board) c.args.boards.now.entries) in
    let rule : without_move f.cut (f.joined + f.taken) (f.joined + f.taken + length f.queue) c.if-is_empty.outcome ≡ Some c.in-Some.answer =
    search rules in
    let known : f.queue ≡ [] → c.if-is_empty.outcome ≡ over = search rules in
    told f.cut (f.joined + f.taken) (f.joined + f.taken + length f.queue) c.if-is_empty.outcome over f.queue c.in-Some.answer rule refl
    c.requires.1 known
