-- A game that has ended has no further move and no other outcome.
use Rattle.std.proofs.Common.{◌≡◌, ℕ, Bool, true, false, ◌&&◌, cond, is_some, List, [], ◌∷◌, ◌++◌, Some, None, refl, sym, ap, ◌∙◌, true≢false}
use Rattle.std.specs.Map.{lookup}
use Rattle.c960_game.specs.declared.outcome.Outcome.{Outcome}
use Rattle.c960_game.specs.Ending.{named_outcome}
use Rattle.c960_game.specs.Ends.{own_outcome}
use Rattle.c960_game.specs.Limits.{LimitNumbers}
use Rattle.relay_core.specs.declared.step.Step.{Step}
use Rattle.relay_core.specs.declared.step.Step.TheVariants.{Open, Submit, End, Follow, Take, Leave}
use Rattle.relay_core.specs.declared.reply.Reply.{Reply}
use Rattle.relay_core.specs.History.{History, is_accepted, opened, start_of, log, named, end_of, or_else}
use Rattle.relay_core.specs.Name.{same_name}
use Rattle.relay_core.specs.Replies.{IsAllowed, LawfulHistory}
use Rattle.relay_core.proofs.lemmas.Grounds.{end_fine, submit_fine}
use Rattle.relay_core.proofs.lemmas.Lists.{first_some, lookup-push}
use Rattle.relay_core.proofs.lemmas.Names.{same_name_is}

-- the board, its log and what was named stay over one step
pub record IsSame (h : History) (s : Step) (r : Reply) (b : List ℕ) : Type 0 where
  pub start : start_of ((s, r) ∷ h) b ≡ start_of h b
  pub moves : log ((s, r) ∷ h) b ≡ log h b
  pub named_too : named ((s, r) ∷ h) b ≡ named h b

module _ (limits : LimitNumbers) (h : History) (b : List ℕ) (n : ℕ) (outcome : Outcome) (at : start_of h b ≡ Some n)
    (over : end_of h n b ≡ Some outcome) where
  -- a step that is accepted only if the game goes on was not of this board
  other : (to : List ℕ) (r : Reply) → (is_accepted r ≡ true → start_of h to ≡ Some n → is_some (end_of h n to) ≡ false)
      → (is_accepted r && same_name to b) ≡ false
  other to r fine = by (is_accepted r) (same_name to b) fine (same_name_is to b)
    where
      by : (took same : Bool) → (took ≡ true → start_of h to ≡ Some n → is_some (end_of h n to) ≡ false) → (same ≡ true → to ≡ b)
          → (took && same) ≡ false
      by false same going one = refl
      by true false going one = refl
      by true true going one =
          let e = one refl in
          absurd (true≢false (sym (ap is_some (ap (end_of h n) e ∙ over)) ∙ going refl (ap (start_of h) e ∙ at)))

  stays : (s : Step) (r : Reply) → IsAllowed limits h s r → IsSame h s r b
  stays (Open to start) r ok = record { start = by (is_accepted r) ∙ sym at; moves = refl; named_too = refl }
    where
      by : (took : Bool) → lookup (same_name b) (cond took (opened h ++ (to, start) ∷ []) (opened h)) ≡ Some n
      by false = at
      by true =
          lookup-push (same_name b) (opened h) to start ∙ ap (λ o. first_some o (cond (same_name b to) (Some start) None)) at
  stays (Submit to m) r ok = record {
    start = refl;
    moves = ap (λ t. cond t (log h b ++ m ∷ []) (log h b))
        (other to r (λ took there. (submit_fine limits h to m r n ok took there).0));
    named_too = refl;
  }
  stays (End to ending) r ok = record {
    start = refl;
    moves = refl;
    named_too =
        ap (λ t. cond t (Some (named_outcome ending)) (named h b))
        (other to r (λ took there. end_fine limits h to ending r n ok took there));
  }
  stays (Follow who to from) r ok = record { start = refl; moves = refl; named_too = refl }
  stays (Take who) r ok = record { start = refl; moves = refl; named_too = refl }
  stays (Leave who) r ok = record { start = refl; moves = refl; named_too = refl }

-- what has ended has the same start, log and end after later steps
pub end_stays : (limits : LimitNumbers) (h later : History) → LawfulHistory limits (later ++ h)
    → (b : List ℕ) (n : ℕ) (outcome : Outcome)
    → start_of h b ≡ Some n → end_of h n b ≡ Some outcome
    → (log (later ++ h) b ≡ log h b) × (end_of (later ++ h) n b ≡ Some outcome) × (start_of (later ++ h) b ≡ Some n)
end_stays limits h [] law b n outcome at over = (refl, over, at)
end_stays limits h ((s, r) ∷ later) (ok, law) b n outcome at over =
    let w = end_stays limits h later law b n outcome at over in
    let same = stays limits (later ++ h) b n outcome w.2 w.1 s r ok in (
      same.moves ∙ w.0,
      ap (λ l. or_else (named ((s, r) ∷ later ++ h) b) (own_outcome n l)) same.moves
          ∙ ap (λ o. or_else o (own_outcome n (log (later ++ h) b))) same.named_too ∙ w.1,
      same.start ∙ w.2,
    )
