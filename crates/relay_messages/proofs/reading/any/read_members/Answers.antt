use Rattle.std.proofs.Common.{◌≡◌, ◌-◌, length, Some, None, refl, sym, ap, ◌∙◌, arith}
use Rattle.json.specs.Json.{read_key, value}
use Rattle.json.proofs.Grammar.{read_key-shorter}
use Rattle.serde_json.specs.Data.{no_members, put}
use Rattle.relay_messages.specs.KeptValues.{kept}
use Rattle.relay_messages.specs.Members.{members_in}
use Rattle.relay_messages.proofs.Converted.{key_refused, member_refused}
use Rattle.relay_messages.proofs.PlainReading.{member_read, members_over}
use Rattle.relay_messages.proofs.KeptFacts.{kept-put}
use Rattle.relay_messages.proofs.reading.any.read_members.Goals as goal

pub members-init : goal.members-init
members-init c = record {
  turns = length c.args.reader.now;
  so_far = no_members;
  enough = omega arith;
  read = refl;
  found = c.new-found.ensures;
}

pub members-preserved : goal.members-preserved
members-preserved c =
    let l = c.members in
    let n = l.invariant.turns in
    let old = l.invariant.so_far in
    let k = c.in-Some.key.now in
    let s = c.next_key.new.self in
    let named : read_key l.reader ≡ Some (Some k, s) = grind arith in
    let done = c.in_ok-field.ensures in
    let d = done.ok.0 in
    let r = c.read_field.new.reader in
    let less = read_key-shorter l.reader (Some k) s named in
    let lesser = done.shorter in
    record {
      turns = n - 1;
      so_far = put k d old;
      enough = omega (arith, l.invariant.enough, less, lesser);
      read = l.invariant.read ∙ member_read (value 126) old n k l.reader s r d (omega (arith, l.invariant.enough, less)) named done.ok.1;
      found = c.in_ok-add.ensures ∙ ap (λ x. put k x (members_in l.found.members.items)) done.ok.2 ∙ ap (put k (kept d)) l.invariant.found ∙ sym (kept-put k d old);
    }

pub returns-in_err-key-clause-err : goal.returns-in_err-key-clause-err
returns-in_err-key-clause-err c fault =
    let l = c.members in
    l.invariant.read ∙ key_refused (value 126) l.invariant.so_far l.invariant.turns l.reader c.in_err-key.ensures.value

pub returns-in_err-field-clause-err : goal.returns-in_err-field-clause-err
returns-in_err-field-clause-err c fault =
    let l = c.members in
    let named : read_key l.reader ≡ Some (Some c.in-Some.key.now, c.next_key.new.self) = grind arith in
    l.invariant.read ∙ member_refused (value 126) l.invariant.so_far l.invariant.turns _ l.reader _ named c.in_err-field.ensures.err

pub returns-clause-ok : goal.returns-clause-ok
returns-clause-ok c =
    let l = c.members in
    let over : read_key l.reader ≡ Some (None, c.next_key.new.self) = grind arith in
    (l.invariant.so_far, l.invariant.read ∙ members_over (value 126) l.invariant.so_far l.invariant.turns l.reader _ l.invariant.enough over, l.invariant.found)
