-- A refused step changes nothing.
use Rattle.std.proofs.Common.{◌≡◌, ℕ, List, ◌∷◌, subst, sym}
use Rattle.c960_game.specs.declared.refusal.Refusal.{Refusal}
use Rattle.c960_game.specs.Limits.{LimitNumbers}
use Rattle.c960_game.specs.GameRecord.{GameRecord}
use Rattle.relay_core.specs.declared.step.Step.{Step}
use Rattle.relay_core.specs.declared.step.Step.TheVariants.{Open, Submit, End, Follow, Take, Leave}
use Rattle.relay_core.specs.declared.reply.Reply.TheVariants.{Refused}
use Rattle.relay_core.specs.Held.{Held, HeldFollower, turned}
use Rattle.relay_core.specs.History.{History}
use Rattle.relay_core.specs.Held.Stands.{HeldStands, Goes}
use Rattle.relay_core.specs.Replies.{IsAllowed}
use Rattle.relay_core.proofs.lemmas.Standing.{standing}

pub refused : (limits : LimitNumbers) (r : Held) (h : History) (s : Step) (refusal : Refusal)
    → HeldStands limits r h → IsAllowed limits h s (Refused refusal) → HeldStands limits r ((s, Refused refusal) ∷ h)
refused limits r h s refusal st ok = by s ok
  where
    by : (s : Step) → IsAllowed limits h s (Refused refusal) → HeldStands limits r ((s, Refused refusal) ∷ h)
    by (Open board start) ok = standing limits r _ st.given (ok, st.lawful) st.boards st.followers st.board_count st.followed
    by (Submit board m) ok = standing limits r _ st.given (ok, st.lawful) st.boards st.followers st.board_count st.followed
    by (End board ending) ok = standing limits r _ st.given (ok, st.lawful) st.boards st.followers st.board_count st.followed
    by (Follow who board from) ok =
        standing limits r _ st.given (ok, st.lawful) st.boards st.followers st.board_count st.followed
    by (Take who) ok = standing limits r _ st.given (ok, st.lawful) st.boards st.followers st.board_count st.followed
    by (Leave who) ok = standing limits r _ st.given (ok, st.lawful) st.boards st.followers st.board_count st.followed

-- the refusal that each history requires, or that it allows, leaves the maps as they were
pub goes_refused : (r : Held) (bs : List (List ℕ × GameRecord)) (fs : List (ℕ × HeldFollower)) (s : Step) (refusal : Refusal)
    → bs ≡ r.boards → fs ≡ r.followers → ((limits : LimitNumbers) (h : History) → HeldStands limits r h
    → IsAllowed limits h s (Refused refusal))
    → Goes r (turned r bs fs) s (Refused refusal)
goes_refused r bs fs s refusal same_boards same_followers ok limits h st =
    subst (λ (b : List (List ℕ × GameRecord)). HeldStands limits (turned r b fs) ((s, Refused refusal) ∷ h)) (sym same_boards)
    (subst (λ (f : List (ℕ × HeldFollower)). HeldStands limits (turned r r.boards f) ((s, Refused refusal) ∷ h))
    (sym same_followers)
    (refused limits r h s refusal st (ok limits h st)))
