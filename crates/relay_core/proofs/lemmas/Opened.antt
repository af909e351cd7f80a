-- An open of a board that does not exist.
use Rattle.std.proofs.Common.{◌≡◌, ℕ, ◌+◌, ◌<◌, Bool, true, false, cond, is_some, List, [], ◌∷◌, ◌++◌, length, length-append, Option, Some, None, option_map, Ok, Err, refl, sym, ap, subst, ◌∙◌, inl, inr}
use Rattle.std.specs.Map.{lookup}
use Rattle.c960_game.specs.declared.refusal.Refusal.{Refusal}
use Rattle.c960_game.specs.declared.refusal.Refusal.TheVariants.{OutOfMemory}
use Rattle.c960_game.proofs.lemmas.GameFacts.{start_goes_on}
use Rattle.c960_game.specs.Limits.{LimitNumbers}
use Rattle.c960_game.specs.Record.{opened as new_game}
use Rattle.c960_game.specs.GameRecord.{GameRecord}
use Rattle.relay_core.specs.declared.step.Step.TheVariants.{Open}
use Rattle.relay_core.specs.declared.reply.Reply.TheVariants.{Opened, Refused}
use Rattle.relay_core.specs.Held.{Held, turned}
use Rattle.relay_core.specs.History.{History, is_accepted, opened, start_of, log, named}
use Rattle.relay_core.specs.Held.Stands.{HeldStands, Goes}
use Rattle.relay_core.specs.Name.{same_name}
use Rattle.relay_core.specs.Refusals.{first_refusal, open_grounds}
use Rattle.relay_core.specs.Replies.{first_of, reply_to_open}
use Rattle.relay_core.specs.Stands.{game_of}
use Rattle.relay_core.proofs.Facts.{Facts}
use Rattle.relay_core.proofs.Lawful.{facts}
use Rattle.relay_core.proofs.lemmas.Lists.{lookup-push, first_some, none_below}
use Rattle.relay_core.proofs.lemmas.Names.{same_name_is}
use Rattle.c960_board.proofs.lemmas.Tests.{none_of}
use Rattle.relay_core.proofs.lemmas.Refusals.{opened_where, reply_accepted, reply_refused}
use Rattle.relay_core.proofs.lemmas.Refused.{goes_refused}
use Rattle.c960_board.specs.declared.numbering.TheConstants.{STARTS}

-- the game of a board that was not opened before
new_game_of : (limits : LimitNumbers) (h : History) (b : List ℕ) (n : ℕ) → n < STARTS → log h b ≡ [] → named h b ≡ None
    → new_game n limits.plies ≡ game_of limits h b n
new_game_of limits h b n low empty free =
    rw (empty, free) (ap (λ (o : Option _). record { start = n; plies = limits.plies; log = []; outcome = o })
    (sym (start_goes_on n low)))

module _ (r : Held) (b : List ℕ) (n : ℕ) where
  -- why the relay may not open it
  abbrev pub grounds : List (Bool × Refusal)
  grounds = open_grounds (is_some (lookup (same_name b) r.boards)) n (length r.boards) r.limits.boards

  -- what the history requires
  asked : (limits : LimitNumbers) (h : History) → HeldStands limits r h → reply_to_open limits h b n ≡ first_of grounds Opened
  asked limits h st =
      (λ i. first_of (open_grounds (same_some (start_of h b) i) n (length (opened h)) limits.boards) Opened)
      ∙ (λ i. first_of (open_grounds (is_some (sym (st.boards b) i)) n (sym st.board_count i) (sym st.given i).boards) Opened)
    where
      same_some : (o : Option ℕ) → is_some o ≡ is_some (option_map (game_of limits h b) o)
      same_some None = refl
      same_some (Some x) = refl

  pub open_refused : (refusal : Refusal) → Err refusal ≡ first_refusal grounds → Goes r r (Open b n) (Refused refusal)
  open_refused refusal e = goes_refused r r.boards r.followers (Open b n) refusal refl refl
      (λ limits h st. inl (sym (asked limits h st ∙ reply_refused grounds Opened refusal e)))

  module _ (u : Unit {0}) (fine : Ok u ≡ first_refusal grounds) where
    none : lookup (same_name b) r.boards ≡ None
    none = none_of (lookup (same_name b) r.boards) (opened_where _ n _ _ u fine).0

    low : n < STARTS
    low = (opened_where _ n _ _ u fine).1

    unknown : (limits : LimitNumbers) (h : History) → HeldStands limits r h → start_of h b ≡ None
    unknown limits h st = none_below (game_of limits h b) (start_of h b) (sym (st.boards b) ∙ none)

    asked_fine : (limits : LimitNumbers) (h : History) → HeldStands limits r h → reply_to_open limits h b n ≡ Opened
    asked_fine limits h st = asked limits h st ∙ reply_accepted grounds Opened u fine

    pub open_no_memory : Goes r r (Open b n) (Refused OutOfMemory)
    open_no_memory = goes_refused r r.boards r.followers (Open b n) OutOfMemory refl refl
        (λ limits h st. inr (refl, ap is_accepted (asked_fine limits h st), refl))

    pub open_goes : (bs : List (List ℕ × GameRecord)) → bs ≡ r.boards ++ (b, new_game n r.limits.plies) ∷ []
        → Goes r (turned r bs r.followers) (Open b n) Opened
    open_goes bs new limits h st =
        subst (λ (x : List (List ℕ × GameRecord)). HeldStands limits (turned r x r.followers) ((Open b n, Opened) ∷ h))
        (sym (new ∙ ap (λ (l : LimitNumbers). r.boards ++ (b, new_game n l.plies) ∷ []) st.given)) (record {
          given = st.given;
          lawful = (inl (sym (asked_fine limits h st)), st.lawful);
          boards = λ q. lookup-push (same_name q) r.boards b (new_game n limits.plies)
              ∙ ap (λ o. first_some o (cond (same_name q b) (Some (new_game n limits.plies)) None)) (st.boards q)
              ∙ each q (start_of h q) (same_name q b) (same_name_is q b)
              ∙ ap (option_map (game_of limits h q)) (sym (lookup-push (same_name q) (opened h) b n));
          followers = st.followers;
          board_count =
              length-append r.boards ((b, new_game n limits.plies) ∷ []) ∙ ap (λ k. k + 1) st.board_count
              ∙ sym (length-append (opened h) ((b, n) ∷ []));
          followed = st.followed;
        })
      where
        known : Facts limits h
        known = facts limits h st.lawful

        each : (q : List ℕ) (o : Option ℕ) (same : Bool) → (same ≡ true → q ≡ b)
            → first_some (option_map (game_of limits h q) o) (cond same (Some (new_game n limits.plies)) None)
            ≡ option_map (game_of limits h q) (first_some o (cond same (Some n) None))
        each q (Some s) same one_name = refl
        each q None false one_name = refl
        each q None true one_name =
            ap Some (new_game_of limits h b n low (known.silent b (unknown limits h st)) (known.unnamed b (unknown limits h st))
            ∙ ap (λ x. game_of limits h x n) (sym (one_name refl)))
