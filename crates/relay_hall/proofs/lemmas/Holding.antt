-- A game of a key goes on only while the key is held or waits; no game is ended early; and whom a follower follows.
use Rattle.std.proofs.Common.{◌≡◌, ℕ, Bool, true, false, true≢false, cond, ◌&&◌, is_some, is_none, List, [], ◌∷◌, Option, None, Some, Result, Ok, Err, option_map, inl, inr, refl, sym, ap, ◌∙◌, subst}
use Rattle.std.proofs.lemmas.Option.{none-some, same_Some}
use Rattle.std.proofs.lemmas.Cmp.{nat_list_eq_equiv}
use Rattle.std.specs.Cmp.Lexicographic.{same_text}
use Rattle.std.specs.Map.{lookup}
use Rattle.c960_board.specs.declared.parts.Parts.{Parts}
use Rattle.c960_board.specs.Moves.{Triple}
use Rattle.c960_game.specs.declared.ending.Ending.{Ending}
use Rattle.c960_game.specs.declared.outcome.Outcome.{Outcome}
use Rattle.c960_game.specs.declared.outcome.Outcome.TheVariants.{Abandoned as AbandonedOutcome}
use Rattle.c960_game.specs.declared.refusal.Refusal.{Refusal}
use Rattle.c960_game.specs.GameRecord.{GameRecord}
use Rattle.c960_game.specs.Record.{with_move, with_outcome}
use Rattle.relay_core.proofs.lemmas.Lists.{first_some, lookup-map, lookup-push}
use Rattle.relay_core.specs.BoardAnswers.{ended_by}
use Rattle.relay_core.specs.declared.reply.Reply.{Reply}
use Rattle.relay_core.specs.declared.reply.Reply.TheVariants.{Following}
use Rattle.c960_game.specs.Positions.{position_at}
use Rattle.live_board.specs.declared.view.Part.{Part}
use Rattle.relay_core.specs.declared.step.Step.{Step}
use Rattle.relay_core.specs.declared.step.Step.TheVariants.{Open, Submit, End, Follow, Take, Leave}
use Rattle.relay_core.specs.History.{History}
use Rattle.relay_core.specs.Name.{same_name}
use Rattle.relay_hall.specs.declared.handed.Handed.{Handed}
use Rattle.relay_hall.specs.declared.holders.Holder.{Holder}
use Rattle.relay_hall.specs.declared.owner.Owner.{Owner}
use Rattle.relay_hall.specs.Holders.{has_run_out, presence_of}
use Rattle.relay_hall.specs.Keys.{is_owner, same_key}
use Rattle.relay_hall.specs.declared.presence.Presence.{Presence}
use Rattle.relay_hall.specs.Owning.{is_left_by}
use Rattle.relay_hall.specs.Record.{FloorRecord, HallBoard, HallRecord, games_of}
use Rattle.relay_hall.specs.Steps.{FollowsAs, Makes, OpensAs, after_end, after_submit, answer_to_end, answer_to_open, answer_to_submit, board_limits, change_value, new_board, newcomer_at, with_game}
use Rattle.relay_hall.specs.Times.{WentBy, has_waited, is_left_all, swept_board, swept_floor}
use Rattle.relay_hall.proofs.Lists.{change_lookup}
use Rattle.relay_hall.specs.Runs.{HallEvent, Comes, Says, Goes, Time, Shuts, Ends, HallTold, Replied, Silent, HallRuns, HallStep, IsForsaken, IsHandedOf, Passes, goes_left, history_after}
use Rattle.relay_hall.proofs.lemmas.Leaving.{played_at}
use Rattle.relay_hall.proofs.lemmas.Sweeping.{swept_rows}

-- whoever says something with a key holds it, or its boards wait
abbrev pub MayHappen : HallRecord → HallEvent → Type 0
MayHappen k (Says speaker step) = (key : List ℕ) → speaker.key ≡ Some key → is_some (presence_of key k.keys) ≡ true
MayHappen k _ = Unit {0}

abbrev pub AllMay : (k : HallRecord) (h : History) (es : List HallEvent) (ts : List HallTold) (g : History) (l : HallRecord) → HallRuns k h es ts g l → Type 0
AllMay k h [] [] g l r = Unit {0}
AllMay k h [] (t ∷ ts) g l r = Unit {0}
AllMay k h (e ∷ es) [] g l r = Unit {0}
AllMay k h (e ∷ es) (t ∷ ts) g l r = MayHappen k e × AllMay r.0 (history_after k e t r.0 h) es ts g l r.2

-- each game of a key that goes on has a key that is held or waits
abbrev pub AllHeld : FloorRecord → List Holder → Type 0
AllHeld f keys = (q : List ℕ) (b : HallBoard) → lookup (same_name q) f.boards ≡ Some b → (key : List ℕ) → b.owner.key ≡ Some key → is_some b.game.outcome ≡ false → is_some (presence_of key keys) ≡ true

-- ---- What goes on after a sweep was not swept.

going_on : (gone : Owner → Bool) (b : HallBoard) → is_some (swept_board gone b).game.outcome ≡ false → (gone b.owner ≡ false) × (is_some b.game.outcome ≡ false)
going_on gone b on = by (gone b.owner) (is_some b.game.outcome) refl on
  where
    by : (left done : Bool) → is_some b.game.outcome ≡ done → is_some (cond left (record b { game = cond done b.game (with_outcome b.game AbandonedOutcome) }) b).game.outcome ≡ false → (left ≡ false) × (done ≡ false)
    by false done z d = (refl, sym z ∙ d)
    by true true z d = absurd (true≢false (sym z ∙ d))
    by true false z d = absurd (true≢false d)

same_owner : (gone : Owner → Bool) (b : HallBoard) → (swept_board gone b).owner ≡ b.owner
same_owner gone b = by (gone b.owner)
  where
    by : (t : Bool) → (cond t (with_game (λ g. cond (is_some g.outcome) g (with_outcome g AbandonedOutcome)) b) b).owner ≡ b.owner
    by true = refl
    by false = refl

-- what holds of each board that goes on after a sweep, if it holds of each that went on and was not swept
after_sweep : (P : List ℕ → Type 0) (gone : Owner → Bool) (bs : List (List ℕ × HallBoard)) → ((q : List ℕ) (b : HallBoard) → lookup (same_name q) bs ≡ Some b → (key : List ℕ) → b.owner.key ≡ Some key → gone b.owner ≡ false → is_some b.game.outcome ≡ false → P key)
    → (q : List ℕ) (b : HallBoard) → lookup (same_name q) (swept_rows gone bs) ≡ Some b → (key : List ℕ) → b.owner.key ≡ Some key → is_some b.game.outcome ≡ false → P key
after_sweep P gone bs each q b at key has on = by (lookup (same_name q) bs) refl (sym (lookup-map (same_name q) (swept_board gone) bs) ∙ at)
  where
    by : (o : Option HallBoard) → lookup (same_name q) bs ≡ o → option_map (swept_board gone) o ≡ Some b → P key
    by None was e = absurd (none-some b e)
    by (Some x) was e =
        let same : swept_board gone x ≡ b = same_Some _ _ e in
        let m = going_on gone x (ap (λ (y : HallBoard). is_some y.game.outcome) same ∙ on) in
        each q x was key (ap (λ (o : Owner). o.key) (sym (same_owner gone x)) ∙ ap (λ (y : HallBoard). y.owner.key) same ∙ has) m.0 m.1

-- ---- Keys.

-- another key, or this one
by_key : (P : List ℕ → Type 0) (one key : List ℕ) → P one → (same_key key one ≡ false → P key) → P key
by_key P one key here others = by (same_key key one) refl
  where
    by : (t : Bool) → same_key key one ≡ t → P key
    by true z = subst P (sym (same_text key one (sym z))) here
    by false z = others z

module _ (k l : HallRecord) (held : AllHeld k.floor k.keys) where
  -- the boards are these, and the keys
  these_held : (f : FloorRecord) (keys : List Holder) → AllHeld f keys → l.floor ≡ f → l.keys ≡ keys → AllHeld l.floor l.keys
  these_held f keys all floor is = λ q b at key has on. ap (λ ks. is_some (presence_of key ks)) is ∙ all q b (ap (λ (x : FloorRecord). lookup (same_name q) x.boards) (sym floor) ∙ at) key has on

  swept_held : (gone : Owner → Bool) → l.floor ≡ swept_floor k.floor gone → ((key : List ℕ) (o : Owner) → o.key ≡ Some key → gone o ≡ false → is_some (presence_of key k.keys) ≡ true → is_some (presence_of key l.keys) ≡ true) → AllHeld l.floor l.keys
  swept_held gone floor stays q b at =
      after_sweep (λ key. is_some (presence_of key l.keys) ≡ true) gone k.floor.boards (λ r x was key has left on. stays key x.owner has left (held r x was key has on)) q b
      (ap (λ (x : FloorRecord). lookup (same_name q) x.boards) (sym floor) ∙ at)

  -- a connection goes
  not_left : (one : List ℕ) (o : Owner) → o.key ≡ Some one → is_left_all l.keys one o ≡ false → is_some (presence_of one l.keys) ≡ true
  not_left one o has left = by (presence_of one l.keys) (sym (ap (λ (x : Option (List ℕ)). is_none (presence_of one l.keys) && is_owner (Some one) x) has) ∙ left)
    where
      by : (p : Option Presence) → (is_none p && same_key one one) ≡ false → is_some p ≡ true
      by (Some p) d = refl
      by None d = absurd (true≢false (sym (nat_list_eq_equiv.refl one) ∙ d))

  gone_held : (who : ℕ) (key : Option (List ℕ)) → WentBy k who key l → AllHeld l.floor l.keys
  gone_held who None l-is = swept_held (is_left_by who) (ap (λ (x : HallRecord). x.floor) l-is) (λ key o has left was. ap (λ (x : HallRecord). is_some (presence_of key x.keys)) l-is ∙ was)
  gone_held who (Some one) (here, others, l-is) = swept_held (is_left_all l.keys one) (ap (λ (x : HallRecord). x.floor) l-is) (λ key o has left was.
      by_key (λ n. o.key ≡ Some n → is_some (presence_of n l.keys) ≡ true) one key (λ mine. not_left one o mine left) (λ ne mine. ap is_some (others key ne) ∙ was) has)

  -- time comes
  ran_out : (now : Option ℕ) → ((key : List ℕ) → presence_of key l.keys ≡ cond (has_run_out now (presence_of key k.keys)) None (presence_of key k.keys)) → l.floor ≡ swept_floor k.floor (λ o. has_waited now k.keys o.key) → AllHeld l.floor l.keys
  ran_out now all floor = swept_held (λ o. has_waited now k.keys o.key) floor (λ key o has left was.
      let still : has_run_out now (presence_of key k.keys) ≡ false = sym (ap (has_waited now k.keys) has) ∙ left in
      ap is_some (all key ∙ ap (λ (t : Bool). cond t None (presence_of key k.keys)) still) ∙ was)

  passes_held : (e : HallEvent) → Passes k e l → AllHeld l.floor l.keys
  passes_held (Comes one) (there, here, others, l-is) = λ q b at key has on.
      by_key (λ n. is_some (presence_of n k.keys) ≡ true → is_some (presence_of n l.keys) ≡ true) one key (λ was. there) (λ ne was. ap is_some (others key ne) ∙ was)
      (held q b (ap (λ (x : HallRecord). lookup (same_name q) x.floor.boards) (sym l-is) ∙ at) key has on)
  passes_held (Says speaker step) s = absurd s
  passes_held (Goes who) s = gone_held who.opener who.key s
  passes_held (Time t) (all, l-is) = ran_out (Some t) all (ap (λ (x : HallRecord). x.floor) l-is)
  passes_held Shuts (all, l-is) = ran_out None all (ap (λ (x : HallRecord). x.floor) l-is)
  passes_held Ends l-is = swept_held (λ _. true) (ap (λ (x : HallRecord). x.floor) l-is) (λ key o has left was. absurd (true≢false left))

-- ---- A step of a connection.

module _ (k : FloorRecord) (keys : List Holder) (held : AllHeld k keys) (speaker : Owner) where
  changed_held : (name : List ℕ) (f : GameRecord → GameRecord) → ((b : HallBoard) → lookup (same_name name) k.boards ≡ Some b → is_some (f b.game).outcome ≡ false → is_some b.game.outcome ≡ false)
      → AllHeld (record k { boards = change_value (same_name name) (with_game f) k.boards }) keys
  changed_held name f went q b at key has on = by (same_name name q) (sym (change_lookup name (with_game f) q k.boards) ∙ at)
    where
      here : (o : Option HallBoard) → lookup (same_name name) k.boards ≡ o → option_map (with_game f) o ≡ Some b → is_some (presence_of key keys) ≡ true
      here None was e = absurd (none-some b e)
      here (Some x) was e =
          let same : with_game f x ≡ b = same_Some _ _ e in
          held name x was key (ap (λ (y : HallBoard). y.owner.key) same ∙ has) (went x was (ap (λ (y : HallBoard). is_some y.game.outcome) same ∙ on))

      by : (t : Bool) → cond t (option_map (with_game f) (lookup (same_name name) k.boards)) (lookup (same_name q) k.boards) ≡ Some b → is_some (presence_of key keys) ≡ true
      by true e = here (lookup (same_name name) k.boards) refl e
      by false e = held q b e key has on

  opened_held : ((key : List ℕ) → speaker.key ≡ Some key → is_some (presence_of key keys) ≡ true) → (name : List ℕ) (start : ℕ) (a : Result Unit Refusal) (reply : Reply) (l : FloorRecord) → OpensAs k speaker name start a reply l → AllHeld l keys
  opened_held here name start (Err refusal) reply l (reply-is, l-is) = subst (λ (x : FloorRecord). AllHeld x keys) (sym l-is) held
  opened_held here name start (Ok u) reply l (inr (reply-is, l-is)) = subst (λ (x : FloorRecord). AllHeld x keys) (sym l-is) held
  opened_held here name start (Ok u) reply l (inl (table, reply-is, l-is)) = subst (λ (x : FloorRecord). AllHeld x keys) (sym l-is) (λ q b at key has on.
      by q b key has on (lookup (same_name q) k.boards) refl (same_name q name) (sym (lookup-push (same_name q) k.boards name (new_board k table speaker start)) ∙ at))
    where
      by : (q : List ℕ) (b : HallBoard) (key : List ℕ) → b.owner.key ≡ Some key → is_some b.game.outcome ≡ false → (o : Option HallBoard) → lookup (same_name q) k.boards ≡ o → (t : Bool) → first_some o (cond t (Some (new_board k table speaker start)) None) ≡ Some b → is_some (presence_of key keys) ≡ true
      by q b key has on (Some x) was t e = held q b (was ∙ e) key has on
      by q b key has on None was false e = absurd (none-some b e)
      by q b key has on None was true e = here key (ap (λ (x : HallBoard). x.owner.key) (same_Some _ _ e) ∙ has)

  played_held : (name : List ℕ) (m : Triple) (a : Result (ℕ × Option Outcome) Refusal) → a ≡ answer_to_submit k name m → AllHeld (after_submit k name m a) keys
  played_held name m (Ok played) is = changed_held name (λ g. with_move g m) (λ b at on. by b at (is_some b.game.outcome) refl)
    where
      by : (b : HallBoard) → lookup (same_name name) k.boards ≡ Some b → (t : Bool) → is_some b.game.outcome ≡ t → is_some b.game.outcome ≡ false
      by b at false z = z
      by b at true z = absurd (played_at (lookup (same_name name) (games_of k)) m played is b.game (lookup-map (same_name name) (λ (x : HallBoard). x.game) k.boards ∙ ap (option_map (λ (x : HallBoard). x.game)) at) z)
  played_held name m (Err refusal) is = held

  ended_held : (name : List ℕ) (ending : Ending) (a : Result Outcome Refusal) → AllHeld (after_end k name ending a) keys
  ended_held name ending (Ok outcome) = changed_held name (ended_by ending) (λ b at on. absurd (true≢false on))
  ended_held name ending (Err refusal) = held

  made_held : ((key : List ℕ) → speaker.key ≡ Some key → is_some (presence_of key keys) ≡ true) → (step : Step) (reply : Reply) (handed : Option Handed) (l : FloorRecord) → Makes k speaker step reply handed l → AllHeld l keys
  made_held here (Open name start) reply handed l m = opened_held here name start (answer_to_open k name start) reply l m.0
  made_held here (Submit name x) reply handed l (reply-is, l-is, none) = subst (λ (x : FloorRecord). AllHeld x keys) (sym l-is) (played_held name x (answer_to_submit k name x) refl)
  made_held here (End name x) reply handed l (reply-is, l-is, none) = subst (λ (x : FloorRecord). AllHeld x keys) (sym l-is) (ended_held name x (answer_to_end k name x))
  made_held here (Follow who name from) reply handed l (follows, l-is) = subst (λ (x : FloorRecord). AllHeld x keys) (sym l-is) held
  made_held here (Take who) reply handed l (reply-is, l-is, none) = subst (λ (x : FloorRecord). AllHeld x keys) (sym l-is) held
  made_held here (Leave who) reply handed l (reply-is, l-is, none) = subst (λ (x : FloorRecord). AllHeld x keys) (sym l-is) held

step_held : (k : HallRecord) → AllHeld k.floor k.keys → (e : HallEvent) → MayHappen k e → (t : HallTold) (l : HallRecord) → HallStep k e t l → AllHeld l.floor l.keys
step_held k held e may Silent l s = passes_held k l held e s
step_held k held (Says speaker step) may (Replied reply handed) l s =
    subst (λ (keys : List Holder). AllHeld l.floor keys) (sym (ap (λ (x : HallRecord). x.keys) s.1)) (made_held k.floor k.keys held speaker may step reply handed l.floor s.0)
step_held k held (Comes key) may (Replied reply handed) l s = absurd s
step_held k held (Goes one) may (Replied reply handed) l s = absurd s
step_held k held (Time t) may (Replied reply handed) l s = absurd s
step_held k held Shuts may (Replied reply handed) l s = absurd s
step_held k held Ends may (Replied reply handed) l s = absurd s

pub runs_held : (k : HallRecord) (h : History) → AllHeld k.floor k.keys → (es : List HallEvent) (ts : List HallTold) (g : History) (l : HallRecord) (r : HallRuns k h es ts g l) → AllMay k h es ts g l r → AllHeld l.floor l.keys
runs_held k h held [] [] g l r may = subst (λ (x : HallRecord). AllHeld x.floor x.keys) (sym r.1) held
runs_held k h held [] (t ∷ ts) g l r may = absurd r
runs_held k h held (e ∷ es) [] g l r may = absurd r
runs_held k h held (e ∷ es) (t ∷ ts) g l r may = runs_held r.0 (history_after k e t r.0 h) (step_held k held e may.0 t r.0 r.1) es ts g l r.2 may.1

-- ---- Never early.

-- an event ends games only of those that it leaves
was_left : (gone : Owner → Bool) (bs later : List (List ℕ × HallBoard)) → later ≡ swept_rows gone bs → (q : List ℕ) (b c : HallBoard) → lookup (same_name q) bs ≡ Some b → lookup (same_name q) later ≡ Some c
    → is_some b.game.outcome ≡ false → is_some c.game.outcome ≡ true → gone b.owner ≡ true
was_left gone bs later is q b c at at' on over = by (gone b.owner) refl
  where
    same : swept_board gone b ≡ c
    same = same_Some _ _ (sym (ap (option_map (swept_board gone)) at) ∙ sym (lookup-map (same_name q) (swept_board gone) bs) ∙ ap (lookup (same_name q)) (sym is) ∙ at')

    by : (t : Bool) → gone b.owner ≡ t → t ≡ true
    by true z = refl
    by false z = absurd (true≢false (sym over ∙ sym (ap (λ (x : HallBoard). is_some x.game.outcome) same) ∙ ap (λ (t : Bool). is_some (cond t (with_game (λ g. cond (is_some g.outcome) g (with_outcome g AbandonedOutcome)) b) b).game.outcome) z ∙ on))

never : (bs later : List (List ℕ × HallBoard)) → later ≡ bs → (q : List ℕ) (b c : HallBoard) → lookup (same_name q) bs ≡ Some b → lookup (same_name q) later ≡ Some c
    → is_some b.game.outcome ≡ false → is_some c.game.outcome ≡ true → ⊥
never bs later is q b c at at' on over =
    let same : b ≡ c = same_Some _ _ (sym at ∙ ap (lookup (same_name q)) (sym is) ∙ at') in
    true≢false (sym over ∙ ap (λ (x : HallBoard). is_some x.game.outcome) (sym same) ∙ on)

-- the boards of a hall
abbrev boards_of : HallRecord → List (List ℕ × HallBoard)
boards_of x = x.floor.boards

goes_early : (k : HallRecord) (who : ℕ) (key : Option (List ℕ)) (l : HallRecord) → WentBy k who key l → (q : List ℕ) (b c : HallBoard) → lookup (same_name q) k.floor.boards ≡ Some b → lookup (same_name q) l.floor.boards ≡ Some c
    → is_some b.game.outcome ≡ false → is_some c.game.outcome ≡ true → goes_left l who key b.owner ≡ true
goes_early k who None l l-is q b c at at' on over = was_left (is_left_by who) k.floor.boards l.floor.boards (ap boards_of l-is) q b c at at' on over
goes_early k who (Some key) l (one, others, l-is) q b c at at' on over = was_left (is_left_all l.keys key) k.floor.boards l.floor.boards (ap boards_of l-is) q b c at at' on over

pub left_only : (k : HallRecord) (e : HallEvent) (l : HallRecord) → Passes k e l → (q : List ℕ) (b c : HallBoard) → lookup (same_name q) k.floor.boards ≡ Some b → lookup (same_name q) l.floor.boards ≡ Some c
    → is_some b.game.outcome ≡ false → is_some c.game.outcome ≡ true → IsForsaken k e l b.owner
left_only k (Comes one) l (there, here, others, l-is) q b c at at' on over = never k.floor.boards l.floor.boards (ap boards_of l-is) q b c at at' on over
left_only k (Says speaker step) l s q b c at at' on over = absurd s
left_only k (Goes who) l s q b c at at' on over = goes_early k who.opener who.key l s q b c at at' on over
left_only k (Time t) l (all, l-is) q b c at at' on over = was_left (λ o. has_waited (Some t) k.keys o.key) k.floor.boards l.floor.boards (ap boards_of l-is) q b c at at' on over
left_only k Shuts l (all, l-is) q b c at at' on over = was_left (λ o. has_waited None k.keys o.key) k.floor.boards l.floor.boards (ap boards_of l-is) q b c at at' on over
left_only k Ends l l-is q b c at at' on over = tt

-- ---- Whom a follower follows.

pub handed_of : (f : FloorRecord) (name : List ℕ) (from : Option ℕ) (o : Option HallBoard) → lookup (same_name name) f.boards ≡ o → (joined : ℕ) (position : Parts) (handed : Option Handed)
    → FollowsAs f name from o (Following joined position) handed → IsHandedOf f name joined position handed
handed_of f name from None at joined position handed (reply-is, none) = cc
handed_of f name from (Some b) at joined position handed (Err refusal, hands, reply-is, is) = cc
handed_of f name from (Some b) at joined position handed (Ok r, hands, reply-is, is) =
    let place : joined ≡ r.0.part.joined = cc in
    let there : position ≡ r.1 = cc in
    record {
      board = b;
      found = at;
      follower = r.0;
      given = is;
      table = hands.table;
      part = hands.part ∙ ap (λ (n : ℕ). newcomer_at (board_limits f.limits) b.game r.0.part.slot n) (sym (ap (λ (p : Part). p.joined) hands.part) ∙ sym place);
      reached = ap (position_at b.game.start b.game.log) place ∙ hands.position ∙ ap Some (sym there);
    }
