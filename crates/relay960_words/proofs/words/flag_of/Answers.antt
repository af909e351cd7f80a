use Rattle.std.proofs.lemmas.Result.{IfOk-weaker}
use Rattle.clap.specs.Words.{found_of}
use Rattle.relay960_words.proofs.Reading.{flag_read}
use Rattle.relay960_words.proofs.words.flag_of.Goals as goal

pub returns : goal.returns
returns c =
    IfOk-weaker c.value_of.result _ _ (λ b given. flag_read (found_of c.args.given.now) c.args.name.now b given.0 given.1 given.2) c.value_of.ensures
