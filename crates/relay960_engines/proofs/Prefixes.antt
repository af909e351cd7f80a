-- Lemmas on prefixes of a text that was partly written.
use Rattle.std.proofs.Common.{Result, Ok, Err, OnErr, ◌≡◌, ℕ, ◌+◌, ◌-◌, List, ◌++◌, length, take, drop, Option}
use Rattle.std.proofs.Common.{sym, ap, ◌∙◌, subst, append_assoc, take-append-drop}
use lib.Seq.{take-append_seam}
use Rattle.std.proofs.Math.Seq.{take-add}
use Rattle.std.proofs.lemmas.List.{take_rest}
use Rattle.std.proofs.lemmas.Result.{on_err_weaker}
use Rattle.std.proofs.KnownBytes.{Appends-trans, Appends-kept}
use Rattle.std.specs.Io.KnownBytes.{Appends, Keeps}
use Rattle.relay960_engines.specs.Writing.{AppendsPart}

-- what was written is the front of the text
pub part_of : (a b : Option (List ℕ)) (text front back : List ℕ) → text ≡ front ++ back → Appends a b front
    → AppendsPart a b text
part_of a b text front back e p =
    let is_front : take (length front) text ≡ front = ap (take (length front)) e ∙ take-append_seam front back in
    (length front, subst (Appends a b) (sym is_front) p)

-- a prefix of the front is one of the whole
pub part_before : (a b : Option (List ℕ)) (front back : List ℕ) → AppendsPart a b front
    → AppendsPart a b (front ++ back)
part_before a b front back (n, p) =
    let split : front ++ back ≡ take n front ++ (drop n front ++ back) =
    ap (λ l. l ++ back) (sym (take-append-drop n front)) ∙ append_assoc (take n front) (drop n front) back in
    part_of a b (front ++ back) (take n front) (drop n front ++ back) split p

-- the front and a prefix of the back are a prefix of the whole
pub part_behind : (a b c : Option (List ℕ)) (front back : List ℕ) → Appends a b front → AppendsPart b c back
    → AppendsPart a c (front ++ back)
part_behind a b c front back p (n, q) =
    let split : front ++ back ≡ (front ++ take n back) ++ drop n back =
    ap (λ l. front ++ l) (sym (take-append-drop n back)) ∙ sym (append_assoc front (take n back) (drop n back)) in
    let joined : Appends a c (front ++ take n back) = Appends-trans a b c front (take n back) p q in
    part_of a c (front ++ back) (front ++ take n back) (drop n back) split joined

-- the same for a second write, if that ends in a fault
pub on_err_behind : {T E : Type 0} (r : Result T E) (a b c : Option (List ℕ)) (front back : List ℕ) → Appends a b front
    → OnErr r (AppendsPart b c back) → OnErr r (AppendsPart a c (front ++ back))
on_err_behind r a b c front back p q = on_err_weaker r (part_behind a b c front back p) q

-- what is known also holds if there is an error
pub on_err_known : {T E P : Type 0} (r : Result T E) → P → OnErr r P
on_err_known (Ok x) p = tt
on_err_known (Err e) p = p

-- one more write, of m bytes of the slice after the n that were written
pub written_more : (a b c : Option (List ℕ)) (text : List ℕ) (n m : ℕ) → Appends a b (take n text)
    → Appends b c (take m (take (length text - n) (drop n text))) → Appends a c (take (n + m) text)
written_more a b c text n m p q =
    let joined : take n text ++ take m (take (length text - n) (drop n text)) ≡ take (n + m) text =
    ap (λ l. take n text ++ take m l) (take_rest text n) ∙ sym (take-add n m text) in
    subst (Appends a c) joined (Appends-trans a b c _ _ p q)

-- a write that failed leaves what was written
pub part_written : (a b c : Option (List ℕ)) (text : List ℕ) (n : ℕ) → Appends a b (take n text) → Keeps b c
    → AppendsPart a c text
part_written a b c text n p k = (n, Appends-kept a b c (take n text) p k)
