-- What a hall has accepted fits its limits.
use Rattle.std.proofs.Common.{refl, ◌≡◌, ℕ, zero, suc, take, ◌+◌, Bool, true, false, cond, is_some, List, [], ◌∷◌, ◌++◌, map, length, Option, None, Some, Result, Ok, Err, inl, inr, ◌∙◌, sym, ap, subst, append_assoc}
use Rattle.std.specs.Prelude.{◌&&◌, not}
use Rattle.std.specs.Map.{lookup}
use Rattle.c960_board.specs.Moves.{Triple}
use Rattle.c960_game.specs.declared.ending.Ending.{Ending}
use Rattle.c960_game.specs.declared.ending.Ending.TheVariants.{Abandoned}
use Rattle.c960_game.specs.declared.outcome.Outcome.{Outcome}
use Rattle.c960_game.specs.declared.outcome.Outcome.TheVariants.{Abandoned as AbandonedOutcome}
use Rattle.c960_game.specs.declared.refusal.Refusal.{Refusal}
use Rattle.c960_game.specs.declared.refusal.Refusal.TheVariants.{GameOver}
use Rattle.c960_game.specs.GameRecord.{GameRecord}
use Rattle.c960_game.specs.Limits.{LimitNumbers}
use Rattle.c960_game.specs.Record.{end_answer, opened, with_move}
use Rattle.relay_core.proofs.lemmas.Lists.{shown-push}
use Rattle.relay_core.proofs.lemmas.Names.{is_same_name}
use Rattle.relay_core.specs.BoardAnswers.{end_answer_at, ended_by, play_answer_at}
use Rattle.relay_core.specs.declared.reply.Reply.{Reply}
use Rattle.relay_core.specs.declared.reply.Reply.TheVariants.{Opened}
use Rattle.relay_core.specs.declared.step.Step.{Step}
use Rattle.relay_core.specs.declared.step.Step.TheVariants.{Open, Submit, End, Follow, Take, Leave}
use Rattle.relay_core.specs.History.{is_accepted}
use Rattle.relay_core.specs.Name.{same_name}
use Rattle.relay_core.specs.Refusals.{first_refusal, open_grounds}
use Rattle.relay_hall.proofs.lemmas.Sweeping.{IsApart, flipped, missed}
use Rattle.relay_hall.specs.declared.handed.Handed.{Handed}
use Rattle.relay_hall.specs.declared.owner.Owner.{Owner}
use Rattle.relay_hall.specs.Owning.{is_left_by}
use Rattle.relay_hall.specs.Record.{FloorRecord, HallBoard, HallRecord, games_of}
use Rattle.relay_hall.specs.Steps.{Makes, OpensAs, after_end, after_submit, answer_to_end, answer_to_open, answer_to_submit, change_value, changed, new_board, reply_to_end, reply_to_play, with_board, with_game}
use Rattle.relay_hall.specs.Times.{WentBy, has_waited, is_left_all, swept_board, swept_floor}
use Rattle.relay_hall.specs.Runs.{HallEvent, Comes, Says, Goes, Time, Shuts, Ends, HallTold, Replied, Silent, HallStep, goes_left}
use Rattle.relay_journal.specs.declared.entry.Entry.{Entry}
use Rattle.relay_journal.specs.declared.entry.Entry.TheVariants.{Opens, Plays, Ends as EndsGame}
use Rattle.relay_journal.specs.Entries.{Journals, ends_in, entries_at, entry_of}
use Rattle.relay_journal.specs.Fitting.{AllFit, Fits, FitsOn, Games}
use Rattle.relay_journal.proofs.Changes.{Rows}
use Rattle.relay_journal.proofs.Steps.{steps}

abbrev pub games_in : Rows → Games
games_in es = map (λ (e : List ℕ × HallBoard). (e.0, e.1.game)) es

fit_one : (limits : LimitNumbers) (gs hs : Games) (j : Entry) → Fits limits gs j hs → AllFit limits gs (j ∷ []) hs
fit_one limits gs hs j fits = (hs, fits, refl)

pub fit_append : (limits : LimitNumbers) (gs hs is : Games) (js ks : List Entry) → AllFit limits gs js hs → AllFit limits hs ks is → AllFit limits gs (js ++ ks) is
fit_append limits gs hs is [] ks first then = subst (λ (x : Games). AllFit limits x ks is) first then
fit_append limits gs hs is (j ∷ js) ks (mid, one, rest) then = (mid, one, fit_append limits mid hs is js ks rest then)

-- ---- What was accepted fits.

pub games_changed : (n : List ℕ) (f : GameRecord → GameRecord) (es : Rows) → games_in (change_value (same_name n) (with_game f) es) ≡ change_value (same_name n) f (games_in es)
games_changed n f [] = refl
games_changed n f (e ∷ es) = by (same_name n e.0) (games_changed n f es)
  where
    by : (t : Bool) → games_in (change_value (same_name n) (with_game f) es) ≡ change_value (same_name n) f (games_in es)
        → games_in (cond t ((e.0, with_game f e.1) ∷ es) (e ∷ change_value (same_name n) (with_game f) es)) ≡ cond t ((e.0, f e.1.game) ∷ games_in es) ((e.0, e.1.game) ∷ change_value (same_name n) f (games_in es))
    by true rest = refl
    by false rest = ap (λ (l : Games). (e.0, e.1.game) ∷ l) rest

pub nothing_new : (f l : FloorRecord) → l ≡ f → FitsOn f [] l
nothing_new f l is = subst (λ (x : FloorRecord). FitsOn f [] x) (sym is) (record { fits = refl; limits = refl })

module _ (f : FloorRecord) (speaker : Owner) where
  abbrev told : Step → Reply → List Entry
  told step reply = cond (is_accepted reply) (entry_of speaker step) []

  opens : (name : List ℕ) (start : ℕ) (a : Result Unit Refusal) → a ≡ answer_to_open f name start → (reply : Reply) (l : FloorRecord)
      → OpensAs f speaker name start a reply l → FitsOn f (told (Open name start) reply) l
  opens name start (Err refusal) is reply l (reply-is, l-is) = subst (λ (r : Reply). FitsOn f (told (Open name start) r) l) (sym reply-is) (nothing_new f l l-is)
  opens name start (Ok u) is reply l (inl (table, reply-is, l-is)) =
      subst (λ (r : Reply). FitsOn f (told (Open name start) r) l) (sym reply-is)
      (subst (λ (x : FloorRecord). FitsOn f (told (Open name start) Opened) x) (sym l-is) (record {
        fits = fit_one f.limits (games_of f) (games_of (with_board f name (new_board f table speaker start))) (Opens name start speaker.key)
            (sym is, shown-push (λ (x : HallBoard). x.game) f.boards name (new_board f table speaker start));
        limits = refl;
      }))
  opens name start (Ok u) is reply l (inr (reply-is, l-is)) = subst (λ (r : Reply). FitsOn f (told (Open name start) r) l) (sym reply-is) (nothing_new f l l-is)

  submits : (name : List ℕ) (m : Triple) (a : Result (ℕ × Option Outcome) Refusal) → a ≡ answer_to_submit f name m → FitsOn f (told (Submit name m) (reply_to_play a)) (after_submit f name m a)
  submits name m (Ok played) is = record {
    fits = fit_one f.limits (games_of f) (games_of (changed f name (λ g. with_move g m))) (Plays name m) (played, sym is, games_changed name (λ g. with_move g m) f.boards);
    limits = refl;
  }
  submits name m (Err refusal) is = nothing_new f f refl

  ends : (name : List ℕ) (ending : Ending) (a : Result Outcome Refusal) → a ≡ answer_to_end f name ending → FitsOn f (told (End name ending) (reply_to_end a)) (after_end f name ending a)
  ends name ending (Ok outcome) is = record {
    fits = fit_one f.limits (games_of f) (games_of (changed f name (ended_by ending))) (EndsGame name ending) (outcome, sym is, games_changed name (ended_by ending) f.boards);
    limits = refl;
  }
  ends name ending (Err refusal) is = nothing_new f f refl

  silent : (reply : Reply) (l : FloorRecord) → l ≡ f → FitsOn f (cond (is_accepted reply) [] []) l
  silent reply l is = by (is_accepted reply)
    where
      by : (t : Bool) → FitsOn f (cond t [] []) l
      by true = nothing_new f l is
      by false = nothing_new f l is

  makes : (step : Step) (reply : Reply) (handed : Option Handed) (l : FloorRecord) → Makes f speaker step reply handed l → FitsOn f (told step reply) l
  makes (Open name start) reply handed l m = opens name start (answer_to_open f name start) refl reply l m.0
  makes (Submit name x) reply handed l (reply-is, l-is, none) =
      subst (λ (r : Reply). FitsOn f (told (Submit name x) r) l) (sym reply-is)
      (subst (λ (y : FloorRecord). FitsOn f (told (Submit name x) (reply_to_play (answer_to_submit f name x))) y) (sym l-is) (submits name x (answer_to_submit f name x) refl))
  makes (End name x) reply handed l (reply-is, l-is, none) =
      subst (λ (r : Reply). FitsOn f (told (End name x) r) l) (sym reply-is)
      (subst (λ (y : FloorRecord). FitsOn f (told (End name x) (reply_to_end (answer_to_end f name x))) y) (sym l-is) (ends name x (answer_to_end f name x) refl))
  makes (Follow who name from) reply handed l (follows, l-is) = silent reply l l-is
  makes (Take who) reply handed l (reply-is, l-is, none) = silent reply l l-is
  makes (Leave who) reply handed l (reply-is, l-is, none) = silent reply l l-is

-- ---- Sweeps fit.

module _ {V : Type 0} (n : List ℕ) where
  lookup_behind : (pre rest : List (List ℕ × V)) → lookup (same_name n) pre ≡ None → lookup (same_name n) (pre ++ rest) ≡ lookup (same_name n) rest
  lookup_behind [] rest none = refl
  lookup_behind (e ∷ pre) rest none =
      let m = missed (same_name n) e pre none in
      ap (λ (t : Bool). cond t (Some e.1) (lookup (same_name n) (pre ++ rest))) m.0 ∙ lookup_behind pre rest m.1

  lookup_first : (v : V) (rest : List (List ℕ × V)) → lookup (same_name n) ((n, v) ∷ rest) ≡ Some v
  lookup_first v rest = ap (λ (t : Bool). cond t (Some v) (lookup (same_name n) rest)) (is_same_name n n refl)

  change_other : (f : V → V) (pre rest : List (List ℕ × V)) → lookup (same_name n) pre ≡ None → change_value (same_name n) f (pre ++ rest) ≡ pre ++ change_value (same_name n) f rest
  change_other f [] rest none = refl
  change_other f (e ∷ pre) rest none =
      let m = missed (same_name n) e pre none in
      ap (λ (t : Bool). cond t ((e.0, f e.1) ∷ (pre ++ rest)) (e ∷ change_value (same_name n) f (pre ++ rest))) m.0
      ∙ ap (λ (l : List (List ℕ × V)). e ∷ l) (change_other f pre rest m.1)

  change_this : (f : V → V) (v : V) (rest : List (List ℕ × V)) → change_value (same_name n) f ((n, v) ∷ rest) ≡ (n, f v) ∷ rest
  change_this f v rest = ap (λ (t : Bool). cond t ((n, f v) ∷ rest) ((n, v) ∷ change_value (same_name n) f rest)) (is_same_name n n refl)

  push_missed : (q : List ℕ) (v : V) (pre : List (List ℕ × V)) → lookup (same_name n) pre ≡ None → same_name n q ≡ false → lookup (same_name n) (pre ++ (q, v) ∷ []) ≡ None
  push_missed q v [] none other = ap (λ (t : Bool). cond t (Some v) None) other
  push_missed q v (e ∷ pre) none other =
      let m = missed (same_name n) e pre none in
      ap (λ (t : Bool). cond t (Some e.1) (lookup (same_name n) (pre ++ (q, v) ∷ []))) m.0 ∙ push_missed q v pre m.1 other

-- a game that is not over may be abandoned
may_abandon : (g : GameRecord) → is_some g.outcome ≡ false → end_answer g Abandoned ≡ Ok AbandonedOutcome
unfolding end_answer
may_abandon g on = ap (λ (t : Bool). cond t (Err GameOver) (Ok AbandonedOutcome)) on

abbrev AllNew : Games → Rows → Type 0
AllNew pre [] = Unit {0}
AllNew pre (e ∷ es) = (lookup (same_name e.0) pre ≡ None) × AllNew pre es

all_new : (es : Rows) → AllNew [] es
all_new [] = tt
all_new (e ∷ es) = (refl, all_new es)

new_push : (n : List ℕ) (g : GameRecord) (pre : Games) (es : Rows) → AllNew pre es → lookup (same_name n) es ≡ None → AllNew (pre ++ (n, g) ∷ []) es
new_push n g pre [] new none = tt
new_push n g pre (e ∷ es) new none =
    let m = missed (same_name n) e es none in
    (push_missed e.0 n g pre new.0 (flipped n e.0 m.0), new_push n g pre es new.1 m.1)

module _ (limits : LimitNumbers) (gone : Owner → Bool) where
  abbrev swept_rows : Rows → Rows
  swept_rows es = map (λ (e : List ℕ × HallBoard). (e.0, swept_board gone e.1)) es

  one : (pre rest : Games) (e : List ℕ × HallBoard) → lookup (same_name e.0) pre ≡ None
      → AllFit limits (pre ++ (e.0, e.1.game) ∷ rest) (cond (gone e.1.owner && not (is_some e.1.game.outcome)) (EndsGame e.0 Abandoned ∷ []) []) (pre ++ (e.0, (swept_board gone e.1).game) ∷ rest)
  one pre rest e none = by (gone e.1.owner) (is_some e.1.game.outcome) refl
    where
      ended : GameRecord
      ended = record e.1.game { outcome = Some AbandonedOutcome }

      fits : is_some e.1.game.outcome ≡ false → Fits limits (pre ++ (e.0, e.1.game) ∷ rest) (EndsGame e.0 Abandoned) (pre ++ (e.0, record e.1.game { outcome = Some AbandonedOutcome }) ∷ rest)
      fits on = (
        AbandonedOutcome,
        ap (λ (o : Option GameRecord). end_answer_at Abandoned o) (lookup_behind e.0 pre ((e.0, e.1.game) ∷ rest) none ∙ lookup_first e.0 e.1.game rest) ∙ may_abandon e.1.game on,
        sym (change_other e.0 (ended_by Abandoned) pre ((e.0, e.1.game) ∷ rest) none ∙ ap (λ (l : Games). pre ++ l) (change_this e.0 (ended_by Abandoned) e.1.game rest)),
      )

      by : (left over : Bool) → is_some e.1.game.outcome ≡ over
          → AllFit limits (pre ++ (e.0, e.1.game) ∷ rest) (cond (left && not over) (EndsGame e.0 Abandoned ∷ []) [])
          (pre ++ (e.0, (cond left (record e.1 { game = cond over e.1.game (record e.1.game { outcome = Some AbandonedOutcome }) }) e.1).game) ∷ rest)
      by false over is = refl
      by true true is = refl
      by true false is = fit_one limits (pre ++ (e.0, e.1.game) ∷ rest) (pre ++ (e.0, record e.1.game { outcome = Some AbandonedOutcome }) ∷ rest) (EndsGame e.0 Abandoned) (fits is)

  all : (pre : Games) (es : Rows) → AllNew pre es → IsApart es → AllFit limits (pre ++ games_in es) (ends_in gone es) (pre ++ games_in (swept_rows es))
  all pre [] new apart = refl
  all pre (e ∷ es) new apart =
      let g = (swept_board gone e.1).game in
      let rest = all (pre ++ (e.0, g) ∷ []) es (new_push e.0 g pre es new.1 apart.0) apart.1 in
      fit_append limits (pre ++ (e.0, e.1.game) ∷ games_in es) (pre ++ (e.0, g) ∷ games_in es) (pre ++ (e.0, g) ∷ games_in (swept_rows es))
      (cond (gone e.1.owner && not (is_some e.1.game.outcome)) (EndsGame e.0 Abandoned ∷ []) []) (ends_in gone es)
      (one pre (games_in es) e new.0)
      (subst (λ (x : Games). AllFit limits (pre ++ (e.0, g) ∷ games_in es) (ends_in gone es) x) (append_assoc pre ((e.0, g) ∷ []) (games_in (swept_rows es)))
      (subst (λ (x : Games). AllFit limits x (ends_in gone es) (pre ++ (e.0, g) ∷ [] ++ games_in (swept_rows es))) (append_assoc pre ((e.0, g) ∷ []) (games_in es)) rest))

module _ (k : HallRecord) (apart : IsApart k.floor.boards) where
  swept_to : (gone : Owner → Bool) (l : HallRecord) → l.floor ≡ swept_floor k.floor gone → FitsOn k.floor (ends_in gone k.floor.boards) l.floor
  swept_to gone l is = subst (λ (x : FloorRecord). FitsOn k.floor (ends_in gone k.floor.boards) x) (sym is) (record {
    fits = all k.floor.limits gone [] k.floor.boards (all_new k.floor.boards) apart;
    limits = refl;
  })

  gone_to : (who : ℕ) (key : Option (List ℕ)) (l : HallRecord) → WentBy k who key l → FitsOn k.floor (ends_in (goes_left l who key) k.floor.boards) l.floor
  gone_to who None l l-is = swept_to (is_left_by who) l (ap (λ (x : HallRecord). x.floor) l-is)
  gone_to who (Some key) l (one, others, l-is) = swept_to (is_left_all l.keys key) l (ap (λ (x : HallRecord). x.floor) l-is)

  pub fits_on : (e : HallEvent) (t : HallTold) (l : HallRecord) → HallStep k e t l → FitsOn k.floor (entries_at k e t l) l.floor
  fits_on (Comes key) Silent l (a, b, c, l-is) = nothing_new k.floor l.floor (ap (λ (x : HallRecord). x.floor) l-is)
  fits_on (Says speaker step) Silent l s = absurd s
  fits_on (Goes who) Silent l s = gone_to who.opener who.key l s
  fits_on (Time t) Silent l (a, l-is) = swept_to (λ o. has_waited (Some t) k.keys o.key) l (ap (λ (x : HallRecord). x.floor) l-is)
  fits_on Shuts Silent l (a, l-is) = swept_to (λ o. has_waited None k.keys o.key) l (ap (λ (x : HallRecord). x.floor) l-is)
  fits_on Ends Silent l s = swept_to (λ _. true) l (ap (λ (x : HallRecord). x.floor) s)
  fits_on (Comes key) (Replied reply handed) l s = absurd s
  fits_on (Says speaker step) (Replied reply handed) l s = makes k.floor speaker step reply handed l.floor s.0
  fits_on (Goes who) (Replied reply handed) l s = absurd s
  fits_on (Time t) (Replied reply handed) l s = absurd s
  fits_on Shuts (Replied reply handed) l s = absurd s
  fits_on Ends (Replied reply handed) l s = absurd s

-- one after another
pub fits_then : (f g h : FloorRecord) (js ks : List Entry) → FitsOn f js g → FitsOn g ks h → FitsOn f (js ++ ks) h
fits_then f g h js ks first then = record {
  fits = fit_append f.limits (games_of f) (games_of g) (games_of h) js ks first.fits
      (subst (λ (x : LimitNumbers). AllFit x (games_of g) ks (games_of h)) first.limits then.fits);
  limits = then.limits ∙ first.limits;
}

pub all_of_run : (k : HallRecord) → IsApart k.floor.boards → (es : List HallEvent) (ts : List HallTold) (js : List Entry) (l : HallRecord)
    → Journals k es ts js l → AllFit k.floor.limits (games_of k.floor) js (games_of l.floor)
all_of_run k apart [] [] js l (js-is, l-is) = subst (λ (x : List Entry). AllFit k.floor.limits (games_of k.floor) x (games_of l.floor)) (sym js-is) (ap (λ (x : HallRecord). games_of x.floor) l-is)
all_of_run k apart [] (t ∷ ts) js l j = absurd j
all_of_run k apart (e ∷ es) [] js l j = absurd j
all_of_run k apart (e ∷ es) (t ∷ ts) js l (mid, rest, step, js-is, others) =
    let first = fits_on k apart e t mid step in
    let then = all_of_run mid ((steps k apart e t mid step).apart) es ts rest l others in
    subst (λ (x : List Entry). AllFit k.floor.limits (games_of k.floor) x (games_of l.floor)) (sym js-is)
    (fit_append k.floor.limits (games_of k.floor) (games_of mid.floor) (games_of l.floor) (entries_at k e t mid) rest first.fits
    (subst (λ (x : LimitNumbers). AllFit x (games_of mid.floor) rest (games_of l.floor)) first.limits then))

-- a front of what fits does
pub fit_front : (limits : LimitNumbers) (n : ℕ) (js : List Entry) (gs hs : Games) → AllFit limits gs js hs → (mid : Games) × AllFit limits gs (take n js) mid
fit_front limits zero js gs hs fit = (gs, refl)
fit_front limits (suc n) [] gs hs fit = (gs, refl)
fit_front limits (suc n) (j ∷ js) gs hs (next, one, rest) =
    let front = fit_front limits n js next hs rest in
    (front.0, (next, one, front.1))
