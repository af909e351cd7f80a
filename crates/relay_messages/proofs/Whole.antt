-- Whole texts, of which the first value was read.
use Rattle.std.proofs.Common.{◌≡◌, ℕ, List, [], ◌∷◌, Option, Some, None, option_map, unwrap_or, refl, sym, ap, ◌∙◌}
use Rattle.json.specs.Json.{value}
use Rattle.json.specs.Lex.{tokens}
use Rattle.json.specs.Token.{Token}
use Rattle.serde_json.specs.Data.{Data, Members, null}
use Rattle.serde_json.specs.Find.{as_object}
use Rattle.serde_json.specs.Read.{converted, of_json, read}
use Rattle.relay_messages.proofs.Converted.{whole, whole_and_more, whole_refused}
use Rattle.relay_messages.proofs.PlainReading.{whole_read}
use Rattle.relay_messages.specs.Any.{IsFound, IsKept, IsNext}
use Rattle.relay_messages.specs.KeptValues.{kept_members, kept_object}
use Rattle.relay_messages.specs.Members.{members_in}
use Rattle.relay_messages.specs.declared.object.any.KeptMembers.{KeptMembers}

module _ (text : List ℕ) (ts : List Token) (is : ts ≡ tokens text) where
  last : (r : List Token) (d : Data) → r ≡ [] → converted of_json (value 127 ts) ≡ Some (d, r) → read text ≡ Some d
  last r d none e = ap (λ ts. whole (value 127 ts)) (sym is) ∙ whole_read (value 127 ts) d (e ∙ ap (λ r. Some (d, r)) none)

  pub not_read : converted of_json (value 127 ts) ≡ None → read text ≡ None
  not_read e = ap (λ ts. whole (value 127 ts)) (sym is) ∙ whole_refused (value 127 ts) e

  pub more_read : (found : Option KeptMembers) (r s : List Token) (t : Token) → r ≡ t ∷ s → IsNext found ts r → read text ≡ None
  more_read found r s t more next =
      ap (λ ts. whole (value 127 ts)) (sym is) ∙ whole_and_more (value 127 ts) next.0 t s (next.1 ∙ ap (λ r. Some (next.0, r)) more)

  pub none_found : (r : List Token) → r ≡ [] → IsNext None ts r → IsFound None (read text)
  none_found r none next = (next.0, last r next.0 none next.1, next.2)

  pub members_found : (found : KeptMembers) (r : List Token) → r ≡ [] → IsNext (Some found) ts r → kept_object (read text) ≡ Some (members_in found.members.items)
  members_found found r none next =
      let kept : IsKept (Some found) (as_object next.0) = next.2 in
      ap kept_object (last r next.0 none next.1) ∙ ap (option_map kept_members) kept.1 ∙ ap Some (sym kept.2)

pub found_read : (r : Option Data) (ms : Members) → kept_object r ≡ Some ms → r ≡ Some (unwrap_or r null)
found_read None ms e = absurd (cc)
found_read (Some d) ms e = refl
