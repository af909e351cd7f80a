use Rattle.std.proofs.Common.{◌∷◌, ◌++◌, [], Some, false, ap, ◌∙◌, refl, rules, subst, sym}
use Rattle.serde_json.specs.Data.{object, put}
use Rattle.json.specs.Token.{Token}
use Rattle.relay_messages.proofs.CompactReading.{AreWithin64Bits-push, closed, first_written, member_tokens-push, next_written, text_read}
use Rattle.relay_messages.proofs.PlainFacts.{members_in-push}
use Rattle.relay_messages.specs.Compact.{IsSpaced}
use Rattle.relay_messages.specs.Members.{field_data}
use Rattle.relay_messages.proofs.reading.compact.read_compact.Goals as goal

pub members-init : goal.members-init
members-init c =
    let added = c.in_ok-rest.ensures in
    let m = added.0 in
    record {
      utf8 = search rules;
      found = m ∷ [];
      within = (added.1.within, tt);
      added = added.2 ∙ ap (put m.key.now (field_data m.field)) c.requires;
      written = λ ts more. first_written m c.args.text.now c.in_ok-first.first.now c.in_ok-rest.rest.now ts c.in_ok-first.ensures added.1 more;
    }

pub members-preserved : goal.members-preserved
members-preserved c =
    let before = c.members.invariant in
    let added = c.in_ok-rest-2.ensures in
    let m = added.0 in
    record {
      utf8 = search rules;
      found = before.found ++ m ∷ [];
      within = AreWithin64Bits-push before.found m before.within added.1.within;
      added = added.2 ∙ ap (put m.key.now (field_data m.field)) before.added ∙ sym (members_in-push before.found m);
      written = λ ts more.
          subst (λ us. IsSpaced false c.args.text.now (Token.begin_object ∷ us)) (sym (member_tokens-push before.found m ts))
          (before.written _ (next_written m c.members.rest.now c.in-Some.next.now c.in_ok-rest-2.rest.now ts c.in-Some.ensures added.1 more));
    }

pub returns-then-is_closed : goal.returns-then-is_closed
returns-then-is_closed c =
    let read = c.members.invariant in
    text_read c.args.text.now read.found read.within (read.written _ (closed c.members.rest.now (c.if-is_closed.ensures refl)))
    ∙ ap (λ ms. Some (object ms)) (sym read.added)
