-- Lemmas on a text that is written item by item.
use Rattle.std.proofs.Common.{◌≡◌, ℕ, ◌+◌, ◌<◌, List, [], ◌∷◌, ◌++◌, length, get_or, take, drop, Option}
use Rattle.std.proofs.Common.{sym, ap, ◌∙◌, subst, take-append-drop}
use Rattle.std.proofs.KnownBytes.{Appends-trans}
use Rattle.std.proofs.lemmas.List.{take_more, flat_map_more}
use Rattle.std.proofs.lemmas.List.Concat.{flat_map-append}
use Rattle.std.specs.Io.KnownBytes.{Appends}
use Rattle.std.specs.List.{flat_map}
use Rattle.relay960_engines.specs.Writing.{AppendsPart}
use Rattle.relay960_engines.proofs.Prefixes.{part_before, part_behind}

-- the texts of the items so far and that of the next one
pub next_item : {X : Type 0} (f : X → List ℕ) (xs : List X) (i : ℕ) (x d : X) → i < length xs → x ≡ get_or xs i d
    → flat_map f (take i xs) ++ f x ≡ flat_map f (take (i + 1) xs)
next_item f xs i x d h same =
    let grown : take (i + 1) xs ≡ take i xs ++ x ∷ [] = take_more xs i d h ∙ ap (λ y. take i xs ++ y ∷ []) (sym same) in
    flat_map_more f [] (take i xs) x ∙ ap (flat_map f) (sym grown)

-- one more item
pub items_more : {X : Type 0} (f : X → List ℕ) (a b c : Option (List ℕ)) (xs : List X) (i : ℕ) (x d : X)
    → i < length xs → x ≡ get_or xs i d → Appends a b (flat_map f (take i xs)) → Appends b c (f x)
    → Appends a c (flat_map f (take (i + 1) xs))
items_more f a b c xs i x d h same p q =
    subst (Appends a c) (next_item f xs i x d h same) (Appends-trans a b c (flat_map f (take i xs)) (f x) p q)

-- a part of the next item
pub items_part : {X : Type 0} (f : X → List ℕ) (a b c : Option (List ℕ)) (xs : List X) (i : ℕ) (x d : X)
    → i < length xs → x ≡ get_or xs i d → Appends a b (flat_map f (take i xs)) → AppendsPart b c (f x)
    → AppendsPart a c (flat_map f xs)
items_part f a b c xs i x d h same p q =
    let front : AppendsPart a c (flat_map f (take i xs) ++ f x) =
    part_behind a b c (flat_map f (take i xs)) (f x) p q in
    let known : AppendsPart a c (flat_map f (take (i + 1) xs)) =
    subst (AppendsPart a c) (next_item f xs i x d h same) front in
    let whole : flat_map f (take (i + 1) xs) ++ flat_map f (drop (i + 1) xs) ≡ flat_map f xs =
    sym (flat_map-append f (take (i + 1) xs) (drop (i + 1) xs)) ∙ ap (flat_map f) (take-append-drop (i + 1) xs) in
    subst (AppendsPart a c) whole (part_before a c (flat_map f (take (i + 1) xs)) (flat_map f (drop (i + 1) xs)) known)
