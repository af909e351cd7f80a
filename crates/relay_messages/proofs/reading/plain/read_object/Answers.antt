use Rattle.std.proofs.Common.{◌≡◌, [], ◌∷◌, length, lit<, sym, ap, ◌∙◌, arith, rules}
use Rattle.json.specs.Token.{Token}
use Rattle.json.specs.Json.{members, parse_map, value}
use Rattle.json.proofs.Grammar.{value-begin_object}
use Rattle.serde_json.specs.Data.{object}
use Rattle.serde_json.specs.Read.{converted, of_json, of_members}
use Rattle.relay_messages.proofs.PlainReading.{object_read, whole_read}
use Rattle.relay_messages.proofs.reading.plain.read_object.Goals as goal

pub returns-in-None : goal.returns-in-None
returns-in-None c =
    let ts = c.args.reader.now in
    let rest = c.next.new.self in
    let opened : ts ≡ Token.begin_object ∷ rest = grind arith in
    let all = members (value 126) (length rest) rest in
    let none : c.read_members.new.reader ≡ [] = search rules in
    let read = ap (converted of_json) (ap (value 127) opened ∙ value-begin_object 127 rest (lit< tt))
    ∙ object_read all
    ∙ ap (parse_map object) (ap (λ old. converted (λ ms. of_members ms old) all) (sym c.requires) ∙ c.in_ok-read_members.ensures) in
    whole_read (value 127 ts) _ (rw none at read)
