use Rattle.std.proofs.Common.{◌≡◌, ◌∷◌, ◌++◌, ◌∙◌, ap}
use Rattle.std.proofs.lemmas.Result.{IfOk-weaker}
use Rattle.relay_messages.specs.Decoding.{decoded}
use Rattle.relay_journal.specs.Bodies.{IsBody}
use Rattle.relay_journal.specs.Kept.{key_of}
use Rattle.relay_journal.proofs.Owners.{owner_no_space}
use Rattle.relay_journal.proofs.bodies.body_of.Goals as goal

pub returns : goal.returns
returns c = λ is.
    IfOk-weaker c.joined.result (λ body. body.items ≡ c.args.owner.now ++ 32 ∷ c.as_str.result.now) (λ body. IsBody body.items c.args.entry.now)
    (λ body joined. record {
      owner = c.args.owner.now;
      command = c.as_str.result.now;
      parts = joined;
      whole = owner_no_space c.args.owner.now (key_of c.args.entry.now) is;
      key = is;
      step = ap decoded c.as_str.ensures.value ∙ c.in_ok-command.ensures;
    })
    c.joined.ensures
