-- Ending boards one after another.
use Rattle.std.proofs.Common.{ℕ, List, [], ◌∷◌, ◌++◌, refl, subst}
use Rattle.c960_game.specs.declared.ending.Ending.TheVariants.{Abandoned}
use Rattle.relay_core.specs.declared.step.Step.{Step}
use Rattle.relay_core.specs.declared.step.Step.TheVariants.{End}
use Rattle.relay_core.specs.declared.reply.Reply.{Reply}
use Rattle.relay_pushing.specs.Connections.{Ends}

-- one more board is ended after the others
pub ends_more : {K : Type 0} (makes : K → Step → Reply → K → Type 0) (k m n : K) (boards : List (List ℕ)) (board : List ℕ) (reply : Reply) → Ends makes k boards m → makes m (End board Abandoned) reply n → Ends makes k (boards ++ board ∷ []) n
ends_more makes k m n [] board reply ended last = (n, reply, subst (λ z. makes z (End board Abandoned) reply n) ended last, refl)
ends_more makes k m n (x ∷ xs) board reply ended last = (ended.0, ended.1, ended.2, ends_more makes ended.0 m n xs board reply ended.3 last)
