use Rattle.std.proofs.Common.{◌≡◌, [], ◌∷◌, arith}
use Rattle.json.specs.Token.{Token}
use Rattle.json.specs.Reads.{token_of}
use Rattle.json.proofs.Grammar.{value_is}
use Rattle.relay_messages.proofs.FirstValues.{first_string, first_whole, no_number, none_of_nothing, other_boolean, other_null, other_number}
use Rattle.relay_messages.proofs.Turns.{on_err}
use Rattle.relay_messages.proofs.passing.take_beginning.Goals as goal

pub returns-in_err-token-clause-err : goal.returns-in_err-token-clause-err
returns-in_err-token-clause-err c =
    let empty : c.args.reader.now ≡ [] = grind arith in
    on_err c.from_residual.result (λ depth. none_of_nothing c.args.reader.now depth empty)

pub returns-in-String-clause-begins : goal.returns-in-String-clause-begins
returns-in-String-clause-begins c =
    let first : c.args.reader.now ≡ token_of c.in_ok-token.token ∷ c.next.new.self = grind arith in
    let is : c.args.reader.now ≡ Token.string c.in-String.text.now ∷ c.next.new.self = grind (arith, first) in
    first_string _ _ _ is

pub returns-in-Some-Some-clause-begins : goal.returns-in-Some-Some-clause-begins
returns-in-Some-Some-clause-begins c =
    let first : c.args.reader.now ≡ token_of c.in_ok-token.token ∷ c.next.new.self = grind arith in
    let is : c.args.reader.now ≡ Token.number c.in-Number.text.now ∷ c.next.new.self = grind (arith, first) in
    first_whole _ _ _ is _ (rw c.in-Some-Some.field-0-is at c.in-Some-Some.ensures)

pub returns-in-Some-None-clause-begins : goal.returns-in-Some-None-clause-begins
returns-in-Some-None-clause-begins c =
    let first : c.args.reader.now ≡ token_of c.in_ok-token.token ∷ c.next.new.self = grind arith in
    let is : c.args.reader.now ≡ Token.number c.in-Number.text.now ∷ c.next.new.self = grind (arith, first) in
    other_number _ _ _ is (rw c.in-Some-None.field-0-is at c.in-Some-None.ensures)

pub returns-in-None-clause-err : goal.returns-in-None-clause-err
returns-in-None-clause-err c =
    let first : c.args.reader.now ≡ token_of c.in_ok-token.token ∷ c.next.new.self = grind arith in
    let is : c.args.reader.now ≡ Token.number c.in-Number.text.now ∷ c.next.new.self = grind (arith, first) in
    no_number _ _ _ is c.in-None.ensures

pub returns-in-Bool-clause-begins : goal.returns-in-Bool-clause-begins
returns-in-Bool-clause-begins c =
    let first : c.args.reader.now ≡ token_of c.in_ok-token.token ∷ c.next.new.self = grind arith in
    other_boolean _ _ _ (rw c.in-Bool.is at first)

pub returns-in-Null-clause-begins : goal.returns-in-Null-clause-begins
returns-in-Null-clause-begins c =
    let first : c.args.reader.now ≡ token_of c.in_ok-token.token ∷ c.next.new.self = grind arith in
    other_null _ _ (rw c.in-Null.is at first)

pub returns-in-EndObject-clause-err : goal.returns-in-EndObject-clause-err
returns-in-EndObject-clause-err c depth =
    let first : c.args.reader.now ≡ token_of c.in_ok-token.token ∷ c.next.new.self = grind arith in
    rw (value_is depth c.args.reader.now, first) (grind arith)
