-- Each board's log is a legal game.
use Rattle.std.proofs.Common.{◌≡◌, ℕ, ◌<◌, nat_le, Bool, true, false, ◌&&◌, cond, is_some, List, [], ◌∷◌, ◌++◌, Option, Some, None, refl, sym, ap, subst, ◌∙◌, true≢false}
use Rattle.std.specs.Map.{lookup}
use Rattle.std.proofs.lemmas.Bool.{leb-false}
use Rattle.c960_board.specs.declared.numbering.TheConstants.{STARTS}
use Rattle.c960_board.specs.Moves.{Triple}
use Rattle.c960_game.specs.declared.outcome.Outcome.{Outcome}
use Rattle.c960_game.specs.Ends.{own_outcome}
use Rattle.c960_game.specs.Game960.{Game960, MayFollow}
use Rattle.c960_game.specs.Limits.{LimitNumbers}
use Rattle.c960_game.specs.Positions.{last_position}
use Rattle.c960_game.proofs.lemmas.DrawFacts.{tells_going}
use Rattle.c960_game.proofs.lemmas.LogFacts.{no_move, one_move_more}
use Rattle.c960_game.proofs.lemmas.MoveFacts.{legal_move_tells}
use Rattle.relay_core.specs.declared.step.Step.TheVariants.{Open, Submit, End, Follow, Take, Leave}
use Rattle.relay_core.specs.declared.reply.Reply.{Reply}
use Rattle.relay_core.specs.History.{History, is_accepted, opened, start_of, log, named, or_else}
use Rattle.relay_core.specs.Name.{same_name}
use Rattle.relay_core.specs.Replies.{IsAllowed, LawfulHistory}
use Rattle.relay_core.proofs.lemmas.Grounds.{open_new, submit_fine}
use Rattle.relay_core.proofs.Lawful.{facts}
use Rattle.relay_core.proofs.lemmas.Lists.{first_some, lookup-push}
use Rattle.relay_core.proofs.lemmas.Names.{same_name_is}

-- if neither of two outcomes exists, the second is none
neither : (a b : Option Outcome) → is_some (or_else a b) ≡ false → b ≡ None
neither (Some x) b e = absurd (true≢false e)
neither None (Some x) e = absurd (true≢false e)
neither None None e = refl

-- an accepted submit makes a legal move in a game that goes on
may_follow : (limits : LimitNumbers) (h : History) (b : List ℕ) (m : Triple) (r : Reply) (n : ℕ)
    → IsAllowed limits h (Submit b m) r → is_accepted r ≡ true
    → start_of h b ≡ Some n → MayFollow n (log h b) m
may_follow limits h b m r n ok took at =
    let w = submit_fine limits h b m r n ok took at in
    record {
      going = tells_going n (log h b) (neither (named h b) (own_outcome n (log h b)) w.0);
      legal = legal_move_tells (last_position n (log h b)) m w.2;
    }

pub games : (limits : LimitNumbers) (h : History) → LawfulHistory limits h → (b : List ℕ) (n : ℕ) → start_of h b ≡ Some n
    → Game960 n (log h b)
games limits [] law b n at = cc
games limits ((Open to start, r) ∷ h) (ok, law) b n at =
    by (is_accepted r) (λ there. games limits h law b n there) (open_new limits h to start r ok) at
  where
    new : (start_of h b ≡ Some n → Game960 n (log h b)) → (o : Option ℕ) → start_of h b ≡ o → start < STARTS → (same : Bool)
        → first_some o (cond same (Some start) None) ≡ Some n → Game960 n (log h b)
    new before (Some x) e low same g = before (e ∙ g)
    new before None e low false g = cc
    new before None e low true g =
        let s : start ≡ n = cc in
        subst (λ (l : List Triple). Game960 n l) (sym ((facts limits h law).silent b e)) (no_move n (subst (λ x. x < STARTS) s low))

    by : (took : Bool) → (start_of h b ≡ Some n → Game960 n (log h b))
        → (took ≡ true → (start_of h to ≡ None) × (nat_le STARTS start ≡ false))
        → lookup (same_name b) (cond took (opened h ++ (to, start) ∷ []) (opened h)) ≡ Some n → Game960 n (log h b)
    by false before fine g = before g
    by true before fine g =
        new before (start_of h b) refl (leb-false STARTS start (fine refl).1) (same_name b to)
        (sym (lookup-push (same_name b) (opened h) to start) ∙ g)
games limits ((Submit to m, r) ∷ h) (ok, law) b n at =
    by (is_accepted r) (same_name to b) (games limits h law b n at) (λ took there. may_follow limits h to m r n ok took there)
    (same_name_is to b)
  where
    by : (took same : Bool) → Game960 n (log h b) → (took ≡ true → start_of h to ≡ Some n → MayFollow n (log h to) m)
        → (same ≡ true → to ≡ b)
        → Game960 n (cond (took && same) (log h b ++ m ∷ []) (log h b))
    by false same before fine one = before
    by true false before fine one = before
    by true true before fine one =
        let e = one refl in
        one_move_more n (log h b) m before (subst (λ (q : List ℕ). MayFollow n (log h q) m) e
        (fine refl (ap (start_of h) e ∙ at)))
games limits ((End to ending, r) ∷ h) (ok, law) b n at = games limits h law b n at
games limits ((Follow who to from, r) ∷ h) (ok, law) b n at = games limits h law b n at
games limits ((Take who, r) ∷ h) (ok, law) b n at = games limits h law b n at
games limits ((Leave who, r) ∷ h) (ok, law) b n at = games limits h law b n at
