use Rattle.std.proofs.Common.{◌≡◌, ◌-◌, length, Some, refl, sym, ap, ◌∙◌, arith}
use Rattle.json.specs.Json.{members, read_key, value}
use Rattle.json.proofs.Grammar.{read_key-shorter}
use Rattle.serde_json.specs.Read.{converted, of_members}
use Rattle.relay_messages.proofs.PlainReading.{member_read, members_over}
use Rattle.relay_messages.specs.Members.{field_data, members_in}
use Rattle.relay_messages.proofs.reading.plain.read_members.Goals as goal

pub members-init : goal.members-init
members-init c = record {
  turns = length c.args.reader.now;
  enough = omega arith;
  read = refl;
}

pub members-preserved : goal.members-preserved
members-preserved c =
    let l = c.members in
    let n = l.invariant.turns in
    let old = members_in l.object.members.items in
    let k = c.in-Some.key.now in
    let s = c.next_key.new.self in
    let named : read_key l.reader ≡ Some (Some k, s) = grind arith in
    let done = c.in_ok-field.ensures in
    let d = field_data c.in_ok-field.field in
    let r = c.read_field.new.reader in
    let less = read_key-shorter l.reader (Some k) s named in
    let lesser = done.shorter in
    record {
      turns = n - 1;
      enough = omega (arith, l.invariant.enough);
      read = l.invariant.read ∙ member_read (value 126) old n k l.reader s r d (omega (arith, l.invariant.enough)) named done.ok
          ∙ ap (λ found. converted (λ ms. of_members ms found) (members (value 126) (n - 1) r)) (sym c.in_ok-add.ensures);
    }

pub returns : goal.returns
returns c =
    let l = c.members in
    l.invariant.read ∙ members_over (value 126) (members_in l.object.members.items) l.invariant.turns l.reader c.next_key.new.self l.invariant.enough (grind arith)
