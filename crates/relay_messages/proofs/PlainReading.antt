-- The members of an object, one after another, under the conversion of a text's values.
use Rattle.std.proofs.Common.{◌≡◌, ℕ, ◌-◌, ◌<◌, ◌≤◌, List, [], length, Option, Some, None, option_map, option_and_then, refl, ap, ◌∙◌}
use Rattle.json.specs.Token.{Token}
use Rattle.json.specs.Json as json
use Rattle.json.specs.Json.{Parse, if_last, members, parse_map, read_key}
use Rattle.json.proofs.Grammar.{members_end, members_more}
use Rattle.serde_json.specs.Data.{Data, object, Members, no_members, put}
use Rattle.serde_json.specs.Read.{converted, of_json, of_members}

abbrev either : {A : Type 0} → A → Option A → A
either d None = d
either d (Some a) = a

found : {A B : Type 0} (a : A) (r s : List Token) (x : Option B) (b : B) → option_map {U = B × List Token} (λ y. (y, r)) x ≡ Some (b, s)
    → (r ≡ s) × (x ≡ Some b)
found a r s None b e = absurd (cc)
found a r s (Some y) b e = let same = ap (either (y, r)) e in (ap (λ p. p.1) same, ap (λ p. Some p.0) same)

pub read_first : {A B : Type 0} (f : A → Option B) (o : Option (A × List Token)) (b : B) (r : List Token) → converted f o ≡ Some (b, r)
    → (a : A) × (o ≡ Some (a, r)) × (f a ≡ Some b)
read_first f None b r e = absurd (cc)
read_first f (Some p) b r e = let both = found p.0 p.1 r (f p.0) b e in (p.0, ap (λ s. Some (p.0, s)) both.0, both.1)

with_member : (k : List ℕ) (j : json.Json) (d : Data) (old : Members) → of_json j ≡ Some d → (o : Option (json.Members × List Token))
    → converted (λ ms. of_members ms old) (parse_map (json.member k j) o) ≡ converted (λ ms. of_members ms (put k d old)) o
with_member k j d old e None = refl
with_member k j d old e (Some p) = rw e

-- a member is read, and added to those before it
pub member_read : (p : Parse json.Json) (old : Members) (n : ℕ) (k : List ℕ) (ts s r : List Token) (d : Data) → 0 < n
    → read_key ts ≡ Some (Some k, s) → converted of_json (p s) ≡ Some (d, r)
    → converted (λ ms. of_members ms old) (members p n ts) ≡ converted (λ ms. of_members ms (put k d old)) (members p (n - 1) r)
member_read p old n k ts s r d some key e =
    let j = read_first of_json (p s) d r e in
    ap (converted (λ ms. of_members ms old)) (members_more p n k ts s r j.0 some key j.1) ∙ with_member k j.0 d old j.2 _

-- the brace that closes the object is read
pub members_over : (p : Parse json.Json) (old : Members) (n : ℕ) (ts r : List Token) → length ts ≤ n → read_key ts ≡ Some (None, r)
    → converted (λ ms. of_members ms old) (members p n ts) ≡ Some (old, r)
members_over p old n ts r enough e = ap (converted (λ ms. of_members ms old)) (members_end p n ts r enough e)

with_rest : (r : List Token) (x : Option Members)
    → option_map (λ b. (b, r)) (option_map object x) ≡ parse_map object (option_map (λ a. (a, r)) x)
with_rest r None = refl
with_rest r (Some a) = refl

pub object_read : (o : Option (json.Members × List Token))
    → converted of_json (parse_map json.object o) ≡ parse_map object (converted (λ ms. of_members ms no_members) o)
object_read None = refl
object_read (Some p) = with_rest p.1 (of_members p.0 no_members)

-- nothing follows the value
pub whole_read : (o : Option (json.Json × List Token)) (d : Data) → converted of_json o ≡ Some (d, [])
    → option_and_then of_json (option_and_then (λ p. if_last p.0 p.1) o) ≡ Some d
whole_read o d e =
    let j = read_first of_json o d [] e in
    ap (λ o. option_and_then of_json (option_and_then (λ p. if_last p.0 p.1) o)) j.1 ∙ j.2
