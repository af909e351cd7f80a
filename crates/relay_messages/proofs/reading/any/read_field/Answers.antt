use Rattle.std.proofs.Common.{refl, sym, subst}
use Rattle.serde_json.specs.Data.{number, string, unsigned}
use Rattle.relay_messages.specs.Beginnings.{Begins}
use Rattle.relay_messages.proofs.FirstValues.{first_shorter, nest_read, nest_refused}
use Rattle.relay_messages.proofs.Turns.{on_err}
use Rattle.relay_messages.proofs.reading.any.read_field.Goals as goal

pub returns-in_err-beginning-clause-err : goal.returns-in_err-beginning-clause-err
returns-in_err-beginning-clause-err c = on_err c.from_residual.result (c.in_err-beginning.ensures.err 126)

pub returns-in-Text-clause-ok : goal.returns-in-Text-clause-ok
returns-in-Text-clause-ok c =
    let begins = subst (λ b. Begins b c.args.reader.now c.take_beginning.new.reader) c.in-Text.is c.in_ok-beginning.ensures.begins in
    (string c.in-Text.text.now, begins 126, refl)

pub returns-in-Whole-clause-ok : goal.returns-in-Whole-clause-ok
returns-in-Whole-clause-ok c =
    let begins = subst (λ b. Begins b c.args.reader.now c.take_beginning.new.reader) c.in-Whole.is c.in_ok-beginning.ensures.begins in
    (number (unsigned c.in-Whole.number), begins 126, refl)

pub returns-in-Other-clause-ok : goal.returns-in-Other-clause-ok
returns-in-Other-clause-ok c =
    let begins = subst (λ b. Begins b c.args.reader.now c.take_beginning.new.reader) c.in-Other.is c.in_ok-beginning.ensures.begins in
    (begins.itself, begins.first 126, sym begins.nothing_kept)

pub returns-in_err-pass_rest-in-Opens-clause-err : goal.returns-in_err-pass_rest-in-Opens-clause-err
returns-in_err-pass_rest-in-Opens-clause-err c =
    let begins = subst (λ b. Begins b c.args.reader.now c.take_beginning.new.reader) c.in-Opens.is c.in_ok-beginning.ensures.begins in
    on_err c.from_residual-in_err-pass_rest-in-Opens.result (nest_refused c.in-Opens.nest 125 c.args.reader.now _ begins c.in_err-pass_rest-in-Opens.ensures.err)

pub returns-in_ok-pass_rest-in-Opens-clause-ok : goal.returns-in_ok-pass_rest-in-Opens-clause-ok
returns-in_ok-pass_rest-in-Opens-clause-ok c =
    let begins = subst (λ b. Begins b c.args.reader.now c.take_beginning.new.reader) c.in-Opens.is c.in_ok-beginning.ensures.begins in
    let d = nest_read c.in-Opens.nest 125 c.args.reader.now _ c.pass_rest.new.reader begins c.in_ok-pass_rest-in-Opens.ensures.ok in
    (d.0, d.1, sym d.2)

pub returns-in_ok-pass_rest-in-Opens-clause-shorter : goal.returns-in_ok-pass_rest-in-Opens-clause-shorter
returns-in_ok-pass_rest-in-Opens-clause-shorter c =
    let begins = subst (λ b. Begins b c.args.reader.now c.take_beginning.new.reader) c.in-Opens.is c.in_ok-beginning.ensures.begins in
    let d = nest_read c.in-Opens.nest 125 c.args.reader.now _ c.pass_rest.new.reader begins c.in_ok-pass_rest-in-Opens.ensures.ok in
    first_shorter 126 c.args.reader.now c.pass_rest.new.reader d.0 d.1
