use Rattle.std.proofs.Common.{◌≡◌, IfOk, None, refl, sym, subst}
use Rattle.json.specs.Json.{value}
use Rattle.serde_json.specs.Data.{number, string, unsigned}
use Rattle.serde_json.specs.Read.{converted, of_json}
use Rattle.relay_messages.specs.Any.{IsNext}
use Rattle.relay_messages.specs.Beginnings.{Begins}
use Rattle.relay_messages.proofs.reading.any.read_next.Goals as goal

pub returns-in_err-beginning-clause-err : goal.returns-in_err-beginning-clause-err
returns-in_err-beginning-clause-err c fault = c.in_err-beginning.ensures.err 127

pub returns-in-Opens-clause-ok : goal.returns-in-Opens-clause-ok
returns-in-Opens-clause-ok c =
    let begins = subst (λ b. Begins b c.args.reader.now c.take_beginning.new.reader) c.in-Opens.is c.in_ok-beginning.ensures.begins in
    subst (λ ts. IfOk c.read_opened.result (λ found. IsNext found ts c.read_opened.new.reader)) (sym begins) c.read_opened.ensures.ok

pub returns-in-Opens-clause-err : goal.returns-in-Opens-clause-err
returns-in-Opens-clause-err c fault =
    let begins = subst (λ b. Begins b c.args.reader.now c.take_beginning.new.reader) c.in-Opens.is c.in_ok-beginning.ensures.begins in
    subst (λ ts. converted of_json (value 127 ts) ≡ None) (sym begins) (c.read_opened.ensures.err fault)

pub returns-in-Text-clause-ok : goal.returns-in-Text-clause-ok
returns-in-Text-clause-ok c =
    let begins = subst (λ b. Begins b c.args.reader.now c.take_beginning.new.reader) c.in-Text.is c.in_ok-beginning.ensures.begins in
    (string _, begins 127, refl)

pub returns-in-Whole-clause-ok : goal.returns-in-Whole-clause-ok
returns-in-Whole-clause-ok c =
    let begins = subst (λ b. Begins b c.args.reader.now c.take_beginning.new.reader) c.in-Whole.is c.in_ok-beginning.ensures.begins in
    (number (unsigned _), begins 127, refl)

pub returns-in-Other-clause-ok : goal.returns-in-Other-clause-ok
returns-in-Other-clause-ok c =
    let begins = subst (λ b. Begins b c.args.reader.now c.take_beginning.new.reader) c.in-Other.is c.in_ok-beginning.ensures.begins in
    (begins.itself, begins.first 127, begins.no_object)
