-- A sweep, as the ends of one board after another.
use Rattle.std.proofs.Common.{◌≡◌, ℕ, Bool, true, false, true≢false, cond, not, ◌&&◌, is_some, List, [], ◌∷◌, ◌++◌, length, map, None, Some, option_map, refl, sym, ap, ◌∙◌, subst, append_assoc}
use Rattle.std.proofs.lemmas.Option.{none-some}
use Rattle.std.specs.Map.{lookup}
use Rattle.c960_game.specs.declared.ending.Ending.TheVariants.{Abandoned}
use Rattle.c960_game.specs.declared.outcome.Outcome.TheVariants.{Abandoned as AbandonedOutcome}
use Rattle.c960_game.specs.GameRecord.{GameRecord}
use Rattle.c960_game.specs.Limits.{LimitNumbers}
use Rattle.c960_game.specs.Record.{with_outcome}
use Rattle.relay_core.proofs.lemmas.Ended.{end_goes}
use Rattle.relay_core.proofs.lemmas.Lists.{first_some, lookup-map, lookup-push}
use Rattle.relay_core.proofs.lemmas.Names.{same_name_is, is_same_name}
use Rattle.relay_core.specs.BoardAnswers.{end_answer_at, ended_by}
use Rattle.relay_core.specs.declared.reply.Reply.TheVariants.{Ended}
use Rattle.relay_core.specs.declared.step.Step.TheVariants.{End}
use Rattle.relay_core.specs.Held.{Held}
use Rattle.relay_core.specs.Held.Stands.{HeldStands}
use Rattle.relay_core.specs.History.{History}
use Rattle.relay_core.specs.Name.{same_name}
use Rattle.relay_hall.specs.declared.owner.Owner.{Owner}
use Rattle.relay_hall.specs.Record.{HallBoard}
use Rattle.relay_hall.specs.Steps.{change_value}
use Rattle.relay_hall.specs.Times.{swept_board}
use Rattle.relay_hall.proofs.Lists.{change_length, change_lookup}
use Rattle.relay_hall.proofs.Sweeps.{may_end}
use Rattle.relay_hall.specs.Runs.{end_of_one, ends_of}

abbrev pub Rows : Type 0
Rows = List (List ℕ × HallBoard)

abbrev pub games_in : Rows → List (List ℕ × GameRecord)
games_in es = map (λ e. (e.0, e.1.game)) es

abbrev pub swept_rows : (Owner → Bool) → Rows → Rows
swept_rows gone es = map (λ e. (e.0, swept_board gone e.1)) es

abbrev pub held : LimitNumbers → List (List ℕ × GameRecord) → Held
held limits gs = record { limits = limits; boards = gs; followers = [] }

-- no two boards have one name
abbrev pub IsApart : Rows → Type 0
IsApart [] = Unit {0}
IsApart (e ∷ es) = (lookup (same_name e.0) es ≡ None) × IsApart es

-- none of these is there
abbrev AllNew : List (List ℕ × GameRecord) → Rows → Type 0
AllNew pre [] = Unit {0}
AllNew pre (e ∷ es) = (lookup (same_name e.0) pre ≡ None) × AllNew pre es

pub flipped : (a b : List ℕ) → same_name a b ≡ false → same_name b a ≡ false
flipped a b ne = by (same_name b a) refl
  where
    by : (t : Bool) → same_name b a ≡ t → t ≡ false
    by false z = refl
    by true z = absurd (true≢false (sym (is_same_name a b (sym (same_name_is b a z))) ∙ ne))

pub missed : {V : Type 0} (test : List ℕ → Bool) (x : List ℕ × V) (xs : List (List ℕ × V)) → lookup test (x ∷ xs) ≡ None → (test x.0 ≡ false) × (lookup test xs ≡ None)
missed test x xs e = by (test x.0) refl e
  where
    by : (t : Bool) → test x.0 ≡ t → cond t (Some x.1) (lookup test xs) ≡ None → (test x.0 ≡ false) × (lookup test xs ≡ None)
    by true z e = absurd (none-some _ (sym e))
    by false z e = (z, e)

module _ (n : List ℕ) (f : GameRecord → GameRecord) (g : GameRecord) (qs : List (List ℕ × GameRecord)) where
  change_at : (pre : List (List ℕ × GameRecord)) → lookup (same_name n) pre ≡ None → change_value (same_name n) f (pre ++ (n, g) ∷ qs) ≡ pre ++ (n, f g) ∷ qs
  change_at [] new = ap (λ (t : Bool). cond t ((n, f g) ∷ qs) ((n, g) ∷ change_value (same_name n) f qs)) (is_same_name n n refl)
  change_at (x ∷ xs) new =
      let m = missed (same_name n) x xs new in
      ap (λ (t : Bool). cond t ((x.0, f x.1) ∷ (xs ++ (n, g) ∷ qs)) (x ∷ change_value (same_name n) f (xs ++ (n, g) ∷ qs))) m.0
      ∙ ap (λ (l : List (List ℕ × GameRecord)). x ∷ l) (change_at xs m.1)

  find_at : (pre : List (List ℕ × GameRecord)) → lookup (same_name n) pre ≡ None → lookup (same_name n) (pre ++ (n, g) ∷ qs) ≡ Some g
  find_at [] new = ap (λ (t : Bool). cond t (Some g) (lookup (same_name n) qs)) (is_same_name n n refl)
  find_at (x ∷ xs) new =
      let m = missed (same_name n) x xs new in
      ap (λ (t : Bool). cond t (Some x.1) (lookup (same_name n) (xs ++ (n, g) ∷ qs))) m.0 ∙ find_at xs m.1

module _ (limits lim : LimitNumbers) (gone : Owner → Bool) where
  -- one board
  one : (pre : List (List ℕ × GameRecord)) (e : List ℕ × HallBoard) (qs : List (List ℕ × GameRecord)) (h : History) → lookup (same_name e.0) pre ≡ None
      → HeldStands limits (held lim (pre ++ (e.0, e.1.game) ∷ qs)) h
      → HeldStands limits (held lim (pre ++ (e.0, (swept_board gone e.1).game) ∷ qs)) (end_of_one gone e ++ h)
  one pre e qs h new st = by (gone e.1.owner) (is_some e.1.game.outcome) refl
    where
      old : List (List ℕ × GameRecord)
      old = pre ++ (e.0, e.1.game) ∷ qs

      by : (left over : Bool) → is_some e.1.game.outcome ≡ over
          → HeldStands limits (held lim (pre ++ (e.0, (cond left (record e.1 { game = cond over e.1.game (with_outcome e.1.game AbandonedOutcome) }) e.1).game) ∷ qs)) (cond (left && not over) ((End e.0 Abandoned, Ended AbandonedOutcome) ∷ []) [] ++ h)
      by false over is = st
      by true true is = st
      by true false is =
          let f : GameRecord → GameRecord = ended_by Abandoned in
          let at = change_at e.0 f e.1.game qs pre new in
          end_goes (held lim (pre ++ (e.0, e.1.game) ∷ qs)) (pre ++ (e.0, f e.1.game) ∷ qs) e.0 Abandoned AbandonedOutcome
          (may_end e.1.game is ∙ ap (end_answer_at Abandoned) (sym (find_at e.0 f e.1.game qs pre new)))
          (λ q. ap (lookup (same_name q)) (sym at) ∙ change_lookup e.0 f q (pre ++ (e.0, e.1.game) ∷ qs))
          (ap length (sym at) ∙ change_length (same_name e.0) f (pre ++ (e.0, e.1.game) ∷ qs))
          limits h st

  next_new : (pre : List (List ℕ × GameRecord)) (n : List ℕ) (g : GameRecord) (es : Rows) → lookup (same_name n) es ≡ None → AllNew pre es → AllNew (pre ++ (n, g) ∷ []) es
  next_new pre n g [] apart all = tt
  next_new pre n g (e ∷ es) apart all =
      let m = missed (same_name n) e es apart in (
        lookup-push (same_name e.0) pre n g ∙ ap (λ o. first_some o (cond (same_name e.0 n) (Some g) None)) all.0 ∙ ap (λ (t : Bool). cond t (Some g) None) (flipped n e.0 m.0),
        next_new pre n g es m.1 all.1,
      )

  all_of : (pre : List (List ℕ × GameRecord)) (es : Rows) (h : History) → IsApart es → AllNew pre es → HeldStands limits (held lim (pre ++ games_in es)) h
      → HeldStands limits (held lim (pre ++ games_in (swept_rows gone es))) (ends_of gone es ++ h)
  all_of pre [] h apart new st = st
  all_of pre (e ∷ es) h apart new st =
      let g = (swept_board gone e.1).game in
      let mine = one pre e (games_in es) h new.0 st in
      let moved = subst (λ (gs : List (List ℕ × GameRecord)). HeldStands limits (held lim gs) (end_of_one gone e ++ h)) (sym (append_assoc pre ((e.0, g) ∷ []) (games_in es))) mine in
      let rest = all_of (pre ++ (e.0, g) ∷ []) es (end_of_one gone e ++ h) apart.1 (next_new pre e.0 g es apart.0 new.1) moved in
      subst (λ (gs : List (List ℕ × GameRecord)). HeldStands limits (held lim gs) ((ends_of gone es ++ end_of_one gone e) ++ h)) (append_assoc pre ((e.0, g) ∷ []) (games_in (swept_rows gone es)))
      (subst (λ (x : History). HeldStands limits (held lim ((pre ++ (e.0, g) ∷ []) ++ games_in (swept_rows gone es))) x) (sym (append_assoc (ends_of gone es) (end_of_one gone e) h)) rest)

  all_new : (es : Rows) → AllNew [] es
  all_new [] = tt
  all_new (e ∷ es) = (refl, all_new es)

  pub sweeps : (es : Rows) (h : History) → IsApart es → HeldStands limits (held lim (games_in es)) h → HeldStands limits (held lim (games_in (swept_rows gone es))) (ends_of gone es ++ h)
  sweeps es h apart st = all_of [] es h apart (all_new es) st

-- ---- The names stay apart.

pub apart_swept : (gone : Owner → Bool) (es : Rows) → IsApart es → IsApart (swept_rows gone es)
apart_swept gone [] apart = tt
apart_swept gone (e ∷ es) apart = (lookup-map (same_name e.0) (swept_board gone) es ∙ ap (option_map (swept_board gone)) apart.0, apart_swept gone es apart.1)

pub apart_push : (es : Rows) (n : List ℕ) (b : HallBoard) → IsApart es → lookup (same_name n) es ≡ None → IsApart (es ++ (n, b) ∷ [])
apart_push [] n b apart new = (refl, tt)
apart_push (e ∷ es) n b apart new =
    let m = missed (same_name n) e es new in (
      lookup-push (same_name e.0) es n b ∙ ap (λ o. first_some o (cond (same_name e.0 n) (Some b) None)) apart.0 ∙ ap (λ (t : Bool). cond t (Some b) None) (flipped n e.0 m.0),
      apart_push es n b apart.1 m.1,
    )

-- a name that is not there is not there after a change
still_none : (n q : List ℕ) (f : HallBoard → HallBoard) (es : Rows) → lookup (same_name q) es ≡ None → lookup (same_name q) (change_value (same_name n) f es) ≡ None
still_none n q f es none = change_lookup n f q es ∙ by (same_name n q) refl
  where
    by : (t : Bool) → same_name n q ≡ t → cond t (option_map f (lookup (same_name n) es)) (lookup (same_name q) es) ≡ None
    by true z = ap (λ (x : List ℕ). option_map f (lookup (same_name x) es)) (same_name_is n q z) ∙ ap (option_map f) none
    by false z = none

pub apart_changed : (n : List ℕ) (f : HallBoard → HallBoard) (es : Rows) → IsApart es → IsApart (change_value (same_name n) f es)
apart_changed n f [] apart = tt
apart_changed n f (e ∷ es) apart = by (same_name n e.0) (apart_changed n f es apart.1)
  where
    by : (t : Bool) → IsApart (change_value (same_name n) f es) → IsApart (cond t ((e.0, f e.1) ∷ es) (e ∷ change_value (same_name n) f es))
    by true rest = apart
    by false rest = (still_none n e.0 f es apart.0, rest)
