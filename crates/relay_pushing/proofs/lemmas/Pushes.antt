-- What was sent, and then more of it.
use Rattle.std.proofs.Common.{◌≡◌, ℕ, List, [], ◌∷◌, ◌++◌, Option, None, Some, refl, sym, ap, ◌∙◌, subst, append_assoc}
use Rattle.relay_core.specs.declared.reply.Taken.{Taken}
use Rattle.relay_core.specs.declared.reply.Taken.TheVariants as takes
use Rattle.relay_pushing.specs.Pushing.{text_of, texts_of}
use Rattle.relay_pushing.specs.Sending.{GainsAll}

-- the texts of more answers come after
pub texts_of-append : (xs ys : List Taken) → texts_of (xs ++ ys) ≡ texts_of xs ++ texts_of ys
texts_of-append [] ys = refl
texts_of-append (takes.Nothing ∷ xs) ys = texts_of-append xs ys
texts_of-append (takes.Move place m ∷ xs) ys = ap (λ l. text_of (takes.Move place m) ∷ l) (texts_of-append xs ys)
texts_of-append (takes.Over outcome ∷ xs) ys = ap (λ l. text_of (takes.Over outcome) ∷ l) (texts_of-append xs ys)
texts_of-append (takes.Cut ∷ xs) ys = ap (λ l. text_of takes.Cut ∷ l) (texts_of-append xs ys)

-- first these texts were added, then those
pub gains_more : (a b c : Option (List (List ℕ))) (xs ys : List (List ℕ)) → GainsAll a b xs → GainsAll b c ys → GainsAll a c (xs ++ ys)
gains_more None b c xs ys first then = tt
gains_more (Some texts) b c xs ys first then =
    let known : GainsAll (Some (texts ++ xs)) c ys = subst (λ z. GainsAll z c ys) first then in
    known ∙ ap (λ l. Some l) (append_assoc texts xs ys)

-- if nothing was sent after them, the answers before were sent
pub sent_still : (a b c : Option (List (List ℕ))) (xs : List Taken) → GainsAll a b (texts_of xs) → c ≡ b → GainsAll a c (texts_of xs)
sent_still a b c xs first same = subst (λ z. GainsAll a z (texts_of xs)) (sym same) first
