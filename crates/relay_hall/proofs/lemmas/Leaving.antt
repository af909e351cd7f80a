-- No game goes on whose connection has gone.
use Rattle.std.proofs.Common.{◌≡◌, ℕ, Bool, true, false, true≢false, cond, ◌&&◌, ◌||◌, is_some, is_none, nat_eq, eqb-true, List, [], ◌∷◌, length, map, Option, None, Some, Result, Ok, Err, option_map, inl, inr, refl, sym, ap, ◌∙◌, subst}
use Rattle.std.proofs.lemmas.Option.{none-some, same_Some}
use Rattle.std.specs.Map.{lookup}
use Rattle.c960_board.specs.Moves.{Triple}
use Rattle.c960_game.specs.declared.ending.Ending.{Ending}
use Rattle.c960_game.specs.declared.outcome.Outcome.{Outcome}
use Rattle.c960_game.specs.declared.outcome.Outcome.TheVariants.{Abandoned as AbandonedOutcome}
use Rattle.c960_game.specs.declared.refusal.Refusal.{Refusal}
use Rattle.c960_game.specs.declared.refusal.Refusal.TheVariants.{GameOver}
use Rattle.c960_game.specs.GameRecord.{GameRecord}
use Rattle.c960_game.specs.Record.{play_answer, with_move, with_outcome}
use Rattle.relay_core.proofs.lemmas.Lists.{first_some, lookup-map, lookup-push}
use Rattle.relay_core.specs.BoardAnswers.{ended_by, play_answer_at, with_place}
use Rattle.relay_core.specs.declared.reply.Reply.{Reply}
use Rattle.relay_core.specs.declared.step.Step.{Step}
use Rattle.relay_core.specs.declared.step.Step.TheVariants.{Open, Submit, End, Follow, Take, Leave}
use Rattle.relay_core.specs.History.{History}
use Rattle.relay_core.specs.Name.{same_name}
use Rattle.relay_hall.specs.declared.handed.Handed.{Handed}
use Rattle.relay_hall.specs.declared.owner.Owner.{Owner}
use Rattle.relay_hall.specs.Owning.{is_left_by}
use Rattle.relay_hall.specs.Record.{FloorRecord, HallBoard, HallRecord, games_of}
use Rattle.relay_hall.specs.Steps.{Makes, OpensAs, after_end, after_submit, answer_to_end, answer_to_open, answer_to_submit, change_value, new_board, with_game}
use Rattle.relay_hall.specs.Times.{WentBy, has_waited, is_left_all, swept_board, swept_floor}
use Rattle.relay_hall.proofs.Lists.{change_lookup}
use Rattle.relay_hall.specs.Runs.{HallEvent, Comes, Says, Goes, Time, Shuts, Ends, HallTold, Replied, Silent, HallRuns, HallStep, IsOrderly, Passes, SaysNoMore, goes_now, has_gone, history_after, says_now}

-- a move is made only on a game that goes on
goes_on : (g : GameRecord) (m : Triple) (o : Option Outcome) → play_answer g m ≡ Ok o → is_some g.outcome ≡ true → ⊥
unfolding play_answer
goes_on g m o e over = by (is_some g.outcome) _ over e
  where
    by : (t : Bool) (rest : Result (Option Outcome) Refusal) → t ≡ true → cond t (Err GameOver) rest ≡ Ok o → ⊥
    by true rest z e = cc
    by false rest z e = absurd (true≢false (sym z))

pub played_at : (o : Option GameRecord) (m : Triple) (played : ℕ × Option Outcome) → Ok played ≡ play_answer_at m o → (g : GameRecord) → o ≡ Some g → is_some g.outcome ≡ true → ⊥
played_at o m played e g is over = by (play_answer g m) refl (e ∙ ap (play_answer_at m) is)
  where
    by : (a : Result (Option Outcome) Refusal) → play_answer g m ≡ a → Ok played ≡ with_place (length g.log) a → ⊥
    by (Ok x) z d = goes_on g m x z over
    by (Err x) z d = cc

module _ (who : ℕ) where
  -- of the boards that are left when this connection goes, none goes on
  abbrev pub AllOver : FloorRecord → Type 0
  AllOver k = (q : List ℕ) (b : HallBoard) → lookup (same_name q) k.boards ≡ Some b → is_left_by who b.owner ≡ true → is_some b.game.outcome ≡ true

  -- a new board is not of this connection
  after_open : (k : FloorRecord) → AllOver k → (speaker : Owner) → is_left_by who speaker ≡ false → (name : List ℕ) (start : ℕ) (a : Result Unit Refusal) (reply : Reply) (l : FloorRecord) → OpensAs k speaker name start a reply l → AllOver l
  after_open k over speaker other name start (Err refusal) reply l (reply-is, l-is) = subst AllOver (sym l-is) over
  after_open k over speaker other name start (Ok u) reply l (inr (reply-is, l-is)) = subst AllOver (sym l-is) over
  after_open k over speaker other name start (Ok u) reply l (inl (table, reply-is, l-is)) = subst AllOver (sym l-is) (λ q b at mine.
      by q b (lookup (same_name q) k.boards) refl (same_name q name) (sym (lookup-push (same_name q) k.boards name (new_board k table speaker start)) ∙ at) mine)
    where
      by : (q : List ℕ) (b : HallBoard) (o : Option HallBoard) → lookup (same_name q) k.boards ≡ o → (t : Bool) → first_some o (cond t (Some (new_board k table speaker start)) None) ≡ Some b → is_left_by who b.owner ≡ true → is_some b.game.outcome ≡ true
      by q b (Some x) was t e mine = over q b (was ∙ e) mine
      by q b None was false e mine = absurd (none-some _ e)
      by q b None was true e mine =
          let same : new_board k table speaker start ≡ b = same_Some _ _ e in
          absurd (true≢false (sym mine ∙ sym (ap (λ (x : HallBoard). is_left_by who x.owner) same) ∙ other))

  -- a change of a board that is not left, or that leaves it over
  after_change : (k : FloorRecord) → AllOver k → (name : List ℕ) (f : GameRecord → GameRecord) → ((b : HallBoard) → lookup (same_name name) k.boards ≡ Some b → is_left_by who b.owner ≡ true → is_some (f b.game).outcome ≡ true)
      → (q : List ℕ) (b : HallBoard) → lookup (same_name q) (change_value (same_name name) (with_game f) k.boards) ≡ Some b → is_left_by who b.owner ≡ true → is_some b.game.outcome ≡ true
  after_change k over name f stays q b at mine = by (same_name name q) refl (sym (change_lookup name (with_game f) q k.boards) ∙ at)
    where
      here : (o : Option HallBoard) → lookup (same_name name) k.boards ≡ o → option_map (with_game f) o ≡ Some b → is_some b.game.outcome ≡ true
      here None was e = absurd (none-some _ e)
      here (Some x) was e =
          let same : with_game f x ≡ b = same_Some _ _ e in
          ap (λ (y : HallBoard). is_some y.game.outcome) (sym same) ∙ stays x was (ap (λ (y : HallBoard). is_left_by who y.owner) same ∙ mine)

      by : (t : Bool) → same_name name q ≡ t → cond t (option_map (with_game f) (lookup (same_name name) k.boards)) (lookup (same_name q) k.boards) ≡ Some b → is_some b.game.outcome ≡ true
      by true z e = here (lookup (same_name name) k.boards) refl e
      by false z e = over q b e mine

  after_play : (k : FloorRecord) → AllOver k → (name : List ℕ) (m : Triple) (a : Result (ℕ × Option Outcome) Refusal) → a ≡ answer_to_submit k name m → AllOver (after_submit k name m a)
  after_play k over name m (Ok played) is = after_change k over name (λ g. with_move g m) (λ b at mine.
      absurd (played_at (lookup (same_name name) (games_of k)) m played is b.game (lookup-map (same_name name) (λ (x : HallBoard). x.game) k.boards ∙ ap (option_map (λ (x : HallBoard). x.game)) at) (over name b at mine)))
  after_play k over name m (Err refusal) is = over

  after_ending : (k : FloorRecord) → AllOver k → (name : List ℕ) (ending : Ending) (a : Result Outcome Refusal) → AllOver (after_end k name ending a)
  after_ending k over name ending (Ok outcome) = after_change k over name (ended_by ending) (λ b at mine. refl)
  after_ending k over name ending (Err refusal) = over

  after_step : (k : FloorRecord) → AllOver k → (speaker : Owner) → is_left_by who speaker ≡ false → (step : Step) (reply : Reply) (handed : Option Handed) (l : FloorRecord) → Makes k speaker step reply handed l → AllOver l
  after_step k over speaker other (Open name start) reply handed l m = after_open k over speaker other name start (answer_to_open k name start) reply l m.0
  after_step k over speaker other (Submit name x) reply handed l (reply-is, l-is, none) = subst AllOver (sym l-is) (after_play k over name x (answer_to_submit k name x) refl)
  after_step k over speaker other (End name x) reply handed l (reply-is, l-is, none) = subst AllOver (sym l-is) (after_ending k over name x (answer_to_end k name x))
  after_step k over speaker other (Follow one name from) reply handed l (follows, l-is) = subst AllOver (sym l-is) over
  after_step k over speaker other (Take one) reply handed l (reply-is, l-is, none) = subst AllOver (sym l-is) over
  after_step k over speaker other (Leave one) reply handed l (reply-is, l-is, none) = subst AllOver (sym l-is) over

  -- ---- A sweep.

  swept_over : (gone : Owner → Bool) (b : HallBoard) → is_some b.game.outcome ≡ true → is_some (swept_board gone b).game.outcome ≡ true
  swept_over gone b over = by (gone b.owner) (is_some b.game.outcome) over
    where
      by : (left done : Bool) → done ≡ true → is_some (cond left (record b { game = cond done b.game (with_outcome b.game AbandonedOutcome) }) b).game.outcome ≡ true
      by false done z = over
      by true true z = over
      by true false z = refl

  swept_mine : (b : HallBoard) → is_left_by who b.owner ≡ true → is_some (swept_board (is_left_by who) b).game.outcome ≡ true
  swept_mine b mine = ap (λ (t : Bool). is_some (cond t (with_game (λ g. cond (is_some g.outcome) g (with_outcome g AbandonedOutcome)) b) b).game.outcome) mine ∙ by (is_some b.game.outcome) refl
    where
      by : (done : Bool) → is_some b.game.outcome ≡ done → is_some (cond done b.game (with_outcome b.game AbandonedOutcome)).outcome ≡ true
      by true z = z
      by false z = refl

  swept_owner : (gone : Owner → Bool) (b : HallBoard) → (swept_board gone b).owner ≡ b.owner
  swept_owner gone b = by (gone b.owner)
    where
      by : (t : Bool) → (cond t (with_game (λ g. cond (is_some g.outcome) g (with_outcome g AbandonedOutcome)) b) b).owner ≡ b.owner
      by true = refl
      by false = refl

  after_sweep : (gone : Owner → Bool) (bs : List (List ℕ × HallBoard)) (q : List ℕ) (b : HallBoard) → lookup (same_name q) (map (λ e. (e.0, swept_board gone e.1)) bs) ≡ Some b
      → ((x : HallBoard) → lookup (same_name q) bs ≡ Some x → is_left_by who x.owner ≡ true → is_some (swept_board gone x).game.outcome ≡ true) → is_left_by who b.owner ≡ true → is_some b.game.outcome ≡ true
  after_sweep gone bs q b at each mine = by (lookup (same_name q) bs) refl (sym (lookup-map (same_name q) (swept_board gone) bs) ∙ at)
    where
      by : (o : Option HallBoard) → lookup (same_name q) bs ≡ o → option_map (swept_board gone) o ≡ Some b → is_some b.game.outcome ≡ true
      by None was e = absurd (none-some _ e)
      by (Some x) was e =
          let same : swept_board gone x ≡ b = same_Some _ _ e in
          ap (λ (y : HallBoard). is_some y.game.outcome) (sym same) ∙ each x was (ap (is_left_by who) (sym (swept_owner gone x)) ∙ ap (λ (y : HallBoard). is_left_by who y.owner) same ∙ mine)

  -- ---- Events.

  -- a sweep
  swept_stays : (f : FloorRecord) → AllOver f → (gone : Owner → Bool) → AllOver (swept_floor f gone)
  swept_stays f over gone q b at mine = after_sweep gone f.boards q b at (λ y was m. swept_over gone y (over q y was m)) mine

  -- the boards are these, whatever else changes
  these_over : (f : FloorRecord) → AllOver f → (l : HallRecord) → l.floor ≡ f → AllOver l.floor
  these_over f over l is = subst AllOver (sym is) over

  gone_stays : (k : HallRecord) → AllOver k.floor → (one : ℕ) (key : Option (List ℕ)) (l : HallRecord) → WentBy k one key l → AllOver l.floor
  gone_stays k over one None l l-is = these_over (swept_floor k.floor (is_left_by one)) (swept_stays k.floor over (is_left_by one)) l (ap (λ (x : HallRecord). x.floor) l-is)
  gone_stays k over one (Some key) l (a, b, l-is) = these_over (swept_floor k.floor (is_left_all l.keys key)) (swept_stays k.floor over (is_left_all l.keys key)) l (ap (λ (x : HallRecord). x.floor) l-is)

  passes_over : (k : HallRecord) → AllOver k.floor → (e : HallEvent) (l : HallRecord) → Passes k e l → AllOver l.floor
  passes_over k over (Comes key) l (there, one, others, l-is) = these_over k.floor over l (ap (λ (x : HallRecord). x.floor) l-is)
  passes_over k over (Says speaker step) l s = absurd s
  passes_over k over (Goes one) l s = gone_stays k over one.opener one.key l s
  passes_over k over (Time t) l (all, l-is) = these_over _ (swept_stays k.floor over (λ o. has_waited (Some t) k.keys o.key)) l (ap (λ (x : HallRecord). x.floor) l-is)
  passes_over k over Shuts l (all, l-is) = these_over _ (swept_stays k.floor over (λ o. has_waited None k.keys o.key)) l (ap (λ (x : HallRecord). x.floor) l-is)
  passes_over k over Ends l l-is = these_over _ (swept_stays k.floor over (λ _. true)) l (ap (λ (x : HallRecord). x.floor) l-is)

  stays_over : (k : HallRecord) → AllOver k.floor → (e : HallEvent) → says_now who e ≡ false → (t : HallTold) (l : HallRecord) → HallStep k e t l → AllOver l.floor
  stays_over k over e other Silent l s = passes_over k over e l s
  stays_over k over (Says speaker step) other (Replied reply handed) l s = after_step k.floor over speaker other step reply handed l.floor s.0
  stays_over k over (Comes key) other (Replied reply handed) l s = absurd s
  stays_over k over (Goes one) other (Replied reply handed) l s = absurd s
  stays_over k over (Time t) other (Replied reply handed) l s = absurd s
  stays_over k over Shuts other (Replied reply handed) l s = absurd s
  stays_over k over Ends other (Replied reply handed) l s = absurd s

  pub silent_runs : (k : HallRecord) (h : History) → AllOver k.floor → (es : List HallEvent) → SaysNoMore who es → (ts : List HallTold) (g : History) (l : HallRecord) → HallRuns k h es ts g l → AllOver l.floor
  silent_runs k h over [] quiet [] g l (g-is, l-is) = subst (λ (x : HallRecord). AllOver x.floor) (sym l-is) over
  silent_runs k h over [] quiet (t ∷ ts) g l r = absurd r
  silent_runs k h over (e ∷ es) quiet [] g l r = absurd r
  silent_runs k h over (e ∷ es) quiet (t ∷ ts) g l (mid, s, r) = silent_runs mid (history_after k e t mid h) (stays_over k over e quiet.0 t mid s) es quiet.1 ts g l r

  -- when it goes, all its boards are over
  keyless : (one : Owner) → is_left_by who one ≡ true → (one.key ≡ None) × (who ≡ one.opener)
  keyless one now = by one.key refl (ap (λ (o : Option (List ℕ)). is_none o && nat_eq one.opener who) refl ∙ now)
    where
      by : (o : Option (List ℕ)) → one.key ≡ o → (is_none o && nat_eq one.opener who) ≡ true → (one.key ≡ None) × (who ≡ one.opener)
      by None z d = (z, sym (eqb-true one.opener who d))
      by (Some key) z d = absurd (true≢false (sym d))

  goes_by : (k : HallRecord) (one : ℕ) (key : Option (List ℕ)) → key ≡ None → who ≡ one → (l : HallRecord) → WentBy k one key l → AllOver l.floor
  goes_by k one None z same l l-is = λ q b at mine. after_sweep (is_left_by one) k.floor.boards q b (ap (λ (x : HallRecord). lookup (same_name q) x.floor.boards) (sym l-is) ∙ at)
      (λ x was m. subst (λ (n : ℕ). is_some (swept_board (is_left_by n) x).game.outcome ≡ true) same (swept_mine x m)) mine
  goes_by k one (Some key) z same l s = absurd (none-some key (sym z))

  goes : (k : HallRecord) (e : HallEvent) → goes_now who e ≡ true → (t : HallTold) (l : HallRecord) → HallStep k e t l → AllOver l.floor
  goes k (Goes one) now Silent l s = let m = keyless one now in goes_by k one.opener one.key m.0 m.1 l s
  goes k (Goes one) now (Replied reply handed) l s = absurd s
  goes k (Comes key) now t l s = absurd (true≢false (sym now))
  goes k (Says speaker step) now t l s = absurd (true≢false (sym now))
  goes k (Time n) now t l s = absurd (true≢false (sym now))
  goes k Shuts now t l s = absurd (true≢false (sym now))
  goes k Ends now t l s = absurd (true≢false (sym now))

  pub over_at_last : (k : HallRecord) (h : History) (es : List HallEvent) → IsOrderly es → has_gone who es ≡ true → (ts : List HallTold) (g : History) (l : HallRecord) → HallRuns k h es ts g l → AllOver l.floor
  over_at_last k h [] orderly gone ts g l r = absurd (true≢false (sym gone))
  over_at_last k h (e ∷ es) orderly gone [] g l r = absurd r
  over_at_last k h (e ∷ es) orderly gone (t ∷ ts) g l (mid, s, r) = by (goes_now who e) refl gone (λ d. over_at_last mid (history_after k e t mid h) es orderly.1 d ts g l r)
    where
      by : (now : Bool) → goes_now who e ≡ now → (now || has_gone who es) ≡ true → (has_gone who es ≡ true → AllOver l.floor) → AllOver l.floor
      by true z d later = silent_runs mid (history_after k e t mid h) (goes k e z t mid s) es (orderly.0 who z) ts g l r
      by false z d later = later d
