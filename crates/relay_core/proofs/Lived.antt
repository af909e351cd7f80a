-- A history that is extended, and what is promised of it.
use Rattle.std.proofs.Common.{◌≡◌, ℕ, ◌+◌, ◌<◌, ◌≤◌, List, [], ◌∷◌, ◌++◌, length, length-take, take, get_or, refl, ap, subst, ◌∙◌, arith}
use Rattle.std.proofs.lemmas.List.{take_all, take_more}
use Rattle.c960_game.specs.Limits.{LimitNumbers}
use Rattle.relay_core.specs.declared.step.Step.{Step}
use Rattle.relay_core.specs.declared.reply.Reply.{Reply}
use Rattle.relay_core.specs.Headline.{Headline}
use Rattle.relay_core.specs.History.{History, lived, start_of, log, end_of}
use Rattle.relay_core.specs.Replies.{LawfulHistory}
use Rattle.relay_core.specs.Stands.{Stands}
use Rattle.relay_core.specs.State.{RelayRecord}
use Rattle.relay_core.proofs.EndStays.{end_stays}
use Rattle.relay_core.proofs.Games.{games}
use Rattle.relay_core.proofs.Whole.{is_stretch}

-- ---- One more step.

lived-push : (h : History) (xs : List Step) (rs : List Reply) (s : Step) (r : Reply) → length xs ≡ length rs
    → lived h (xs ++ s ∷ []) (rs ++ r ∷ []) ≡ (s, r) ∷ lived h xs rs
lived-push h [] [] s r e = refl
lived-push h [] (y ∷ rs) s r e = cc
lived-push h (x ∷ xs) [] s r e = cc
lived-push h (x ∷ xs) (y ∷ rs) s r e = let same : length xs ≡ length rs = cc in lived-push ((x, y) ∷ h) xs rs s r same

pub lived-more : (h : History) (steps : List Step) (i : ℕ) (s : Step) → get_or steps i s ≡ s → (rs : List Reply) (r : Reply)
    → i < length steps → length rs ≡ i
    → lived h (take (i + 1) steps) (rs ++ r ∷ []) ≡ (s, r) ∷ lived h (take i steps) rs
lived-more h steps i s found rs r low count =
    ap (λ xs. lived h xs (rs ++ r ∷ [])) (take_more steps i s low ∙ ap (λ x. take i steps ++ x ∷ []) found)
    ∙ lived-push h (take i steps) rs s r (simp length-take (omega arith))

-- ---- What is promised.

-- what was lived through all steps
pub lived-all : (h : History) (steps : List Step) (i : ℕ) (rs : List Reply) → length steps ≤ i
    → lived h (take i steps) rs ≡ lived h steps rs
lived-all h steps i rs all = ap (λ xs. lived h xs rs) (take_all i steps all)

-- what was lawful later was lawful earlier
earlier : (limits : LimitNumbers) (since h : History) → LawfulHistory limits (since ++ h) → LawfulHistory limits h
earlier limits [] h law = law
earlier limits (e ∷ since) h (ok, law) = earlier limits since h law

pub headline : (limits : LimitNumbers) (r : RelayRecord) (now : History) → Stands limits r now → Headline limits r now
headline limits r now st = record {
  stands = st;
  games = games limits now st.lawful;
  stretches = λ since h e. is_stretch limits h (earlier limits since h (subst (LawfulHistory limits) e st.lawful));
  ends = λ since h e b n outcome at over.
      let w = end_stays limits h since (subst (LawfulHistory limits) e st.lawful) b n outcome at over in
      (ap (λ g. start_of g b) e ∙ w.2, ap (λ g. log g b) e ∙ w.0, ap (λ g. end_of g n b) e ∙ w.1);
}
