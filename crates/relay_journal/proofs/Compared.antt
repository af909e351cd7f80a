-- What is missing after an event is exactly its entries.
use Rattle.std.proofs.Common.{refl, ◌≡◌, ℕ, nat_lt, Bool, true, false, cond, is_some, List, [], ◌∷◌, ◌++◌, map, length, Option, None, Some, Result, Ok, Err, option_map, inl, inr, ◌∙◌, sym, ap, subst, arith, length-append}
use Rattle.std.specs.Prelude.{◌&&◌, not}
use Rattle.std.specs.Map.{lookup}
use Rattle.std.proofs.lemmas.List.{append-nil, drop_all, drop_at}
use Rattle.c960_board.specs.declared.piece.Colour.{Colour}
use Rattle.c960_board.specs.declared.piece.Colour.TheVariants.{White, Black}
use Rattle.c960_board.specs.Moves.{Triple}
use Rattle.c960_board.specs.Pieces.{same_colour}
use Rattle.c960_game.specs.declared.ending.Ending.{Ending}
use Rattle.c960_game.specs.declared.ending.Ending.TheVariants as by
use Rattle.c960_game.specs.declared.outcome.Outcome.{Outcome}
use Rattle.c960_game.specs.declared.outcome.Outcome.TheVariants.{Abandoned as AbandonedOutcome}
use Rattle.c960_game.specs.declared.refusal.Refusal.{Refusal}
use Rattle.c960_game.specs.declared.refusal.Refusal.TheVariants.{ClaimRefused, GameOver, NoSuchBoard}
use Rattle.c960_game.specs.Ending.{named_outcome}
use Rattle.c960_game.specs.Ends.{own_outcome}
use Rattle.c960_game.specs.GameRecord.{GameRecord}
use Rattle.c960_game.specs.Positions.{last_position}
use Rattle.c960_game.specs.Record.{end_answer, with_move}
use Rattle.c960_game.specs.Tests.Ground.{has_ground}
use Rattle.relay_core.proofs.lemmas.Lists.{lookup-map}
use Rattle.relay_core.proofs.lemmas.Names.{same_name_is}
use Rattle.relay_core.specs.BoardAnswers.{end_answer_at, ended_by, play_answer_at}
use Rattle.relay_core.specs.declared.reply.Reply.{Reply}
use Rattle.relay_core.specs.declared.reply.Reply.TheVariants.{Opened}
use Rattle.relay_core.specs.declared.step.Step.{Step}
use Rattle.relay_core.specs.declared.step.Step.TheVariants.{Open, Submit, End, Follow, Take, Leave}
use Rattle.relay_core.specs.History.{is_accepted}
use Rattle.relay_core.specs.Name.{same_name}
use Rattle.relay_hall.specs.declared.handed.Handed.{Handed}
use Rattle.relay_hall.specs.declared.owner.Owner.{Owner}
use Rattle.relay_hall.specs.Owning.{is_left_by}
use Rattle.relay_hall.specs.Record.{FloorRecord, HallBoard, HallRecord, games_of}
use Rattle.relay_hall.specs.Steps.{Makes, OpensAs, after_end, after_submit, answer_to_end, answer_to_open, answer_to_submit, change_value, new_board, reply_to_end, reply_to_play, with_game}
use Rattle.relay_hall.specs.Times.{WentBy, has_waited, is_left_all, swept_board, swept_floor}
use Rattle.relay_hall.specs.Runs.{HallEvent, Comes, Says, Goes, Time, Shuts, Ends, HallTold, Replied, Silent, HallStep, goes_left}
use Rattle.relay_journal.specs.Differences.{end_entry, ending_for, ends_as, missing, missing_of, moved_outcome, turn_of}
use Rattle.relay_journal.specs.Entries.{ends_in, entries_at, entry_of}
use Rattle.relay_journal.specs.declared.entry.Entry.{Entry}
use Rattle.relay_journal.specs.declared.entry.Entry.TheVariants.{Opens, Plays, Ends as EndsGame}
use Rattle.relay_journal.specs.Kept.{KeptBoard, kept_board, kept_end, kept_move, kept_of, new_kept}
use Rattle.relay_journal.proofs.Changes.{KeptRows, Rows, kept_rows}
use Rattle.relay_journal.proofs.Going.{not_over}
use Rattle.relay_journal.proofs.Missing.{ends_none}

-- ---- One board.

same_moves : (b : KeptBoard) → nat_lt (length b.log) (length b.log) ≡ false
same_moves b = grind arith

nothing_of : (name : List ℕ) (b : KeptBoard) → missing_of name b b ≡ []
nothing_of name b =
    ap (λ (ms : List Triple). map (λ m. Plays name m) ms ++ ends_as name (turn_of b) (moved_outcome b b) b.outcome) (drop_all (length b.log) b.log (omega arith))
    ∙ ap (λ (t : Bool). ends_as name (turn_of b) (cond t (own_outcome b.start b.log) b.outcome) b.outcome) (same_moves b)
    ∙ ends_none name (turn_of b) b.outcome

move_of : (name : List ℕ) (m : Triple) (b : KeptBoard) → missing_of name b (kept_move m b) ≡ Plays name m ∷ []
move_of name m b =
    let size = length-append b.log (m ∷ []) in
    let some : nat_lt (length b.log) (length (b.log ++ m ∷ [])) ≡ true = grind (arith, size) in
    let own = own_outcome b.start (b.log ++ m ∷ []) in
    let turn = turn_of (kept_move m b) in
    ap (λ (ms : List Triple). map (λ x. Plays name x) ms ++ ends_as name turn (moved_outcome b (kept_move m b)) own) (drop_at b.log (m ∷ []) (length b.log) refl)
    ∙ ap (λ (t : Bool). Plays name m ∷ ends_as name turn (cond t own b.outcome) own) some
    ∙ ap (λ (js : List Entry). Plays name m ∷ js) (ends_none name turn own)

-- the claimant has the move
claimant : (a c : Colour) (rest : Bool) → (same_colour a c && rest) ≡ true → a ≡ c
claimant White White rest is = refl
claimant Black Black rest is = refl
claimant White Black rest is = absurd (grind (arith, is))
claimant Black White rest is = absurd (grind (arith, is))

named_back : (n : ℕ) (l : List Triple) (ending : Ending) → has_ground n l ending ≡ true → ending_for ((last_position n l).turn) (named_outcome ending) ≡ Some ending
named_back n l (by.Resigns side) ground = refl
named_back n l (by.LosesOnTime side) ground = refl
named_back n l (by.Decided result) ground = refl
named_back n l by.Agreed ground = refl
named_back n l by.Abandoned ground = refl
named_back n l (by.ClaimThreefold side) ground = ap (λ (c : Colour). Some (by.ClaimThreefold c)) (claimant ((last_position n l).turn) side _ ground)
named_back n l (by.ClaimFifty side) ground = ap (λ (c : Colour). Some (by.ClaimFifty c)) (claimant ((last_position n l).turn) side _ ground)

end_of : (name : List ℕ) (ending : Ending) (b : KeptBoard) → b.outcome ≡ None → has_ground b.start b.log ending ≡ true → missing_of name b (kept_end ending b) ≡ EndsGame name ending ∷ []
end_of name ending b goes ground =
    let turn = (last_position b.start b.log).turn in
    ap (λ (ms : List Triple). map (λ m. Plays name m) ms ++ ends_as name turn (moved_outcome b (kept_end ending b)) (Some (named_outcome ending))) (drop_all (length b.log) b.log (omega arith))
    ∙ ap (λ (t : Bool). ends_as name turn (cond t (own_outcome b.start b.log) b.outcome) (Some (named_outcome ending))) (same_moves b)
    ∙ ap (λ (o : Option Outcome). ends_as name turn o (Some (named_outcome ending))) goes
    ∙ ap (λ (o : Option Ending). end_entry name o) (named_back b.start b.log ending ground)

-- ---- All boards.

pub nothing_of_all : (es : KeptRows) → missing es es ≡ []
nothing_of_all [] = refl
nothing_of_all (e ∷ es) = ap (λ (js : List Entry). js ++ missing es es) (nothing_of e.0 e.1) ∙ nothing_of_all es

one_changed : (n : List ℕ) (f : HallBoard → HallBoard) (js : List Entry) (es : Rows) (b : HallBoard) → lookup (same_name n) es ≡ Some b
    → ((c : HallBoard) → lookup (same_name n) es ≡ Some c → missing_of n (kept_board c) (kept_board (f c)) ≡ js)
    → missing (kept_rows es) (kept_rows (change_value (same_name n) f es)) ≡ js
one_changed n f js [] b at each = absurd (grind (arith, at))
one_changed n f js (e ∷ es) b at each = by_name (same_name n e.0) refl at each (one_changed n f js es b)
  where
    by_name : (t : Bool) → same_name n e.0 ≡ t → cond t (Some e.1) (lookup (same_name n) es) ≡ Some b
        → ((c : HallBoard) → cond t (Some e.1) (lookup (same_name n) es) ≡ Some c → missing_of n (kept_board c) (kept_board (f c)) ≡ js)
        → (lookup (same_name n) es ≡ Some b → ((c : HallBoard) → lookup (same_name n) es ≡ Some c → missing_of n (kept_board c) (kept_board (f c)) ≡ js)
        → missing (kept_rows es) (kept_rows (change_value (same_name n) f es)) ≡ js)
        → missing (kept_rows (e ∷ es)) (kept_rows (cond t ((e.0, f e.1) ∷ es) (e ∷ change_value (same_name n) f es))) ≡ js
    by_name true is at here rest =
        let name : n ≡ e.0 = same_name_is n e.0 is in
        ap (λ (ks : List Entry). missing_of e.0 (kept_board e.1) (kept_board (f e.1)) ++ ks) (nothing_of_all (kept_rows es))
        ∙ append-nil (missing_of e.0 (kept_board e.1) (kept_board (f e.1)))
        ∙ ap (λ (x : List ℕ). missing_of x (kept_board e.1) (kept_board (f e.1))) (sym name)
        ∙ here e.1 refl
    by_name false is at here rest =
        ap (λ (ks : List Entry). ks ++ missing (kept_rows es) (kept_rows (change_value (same_name n) f es))) (nothing_of e.0 (kept_board e.1)) ∙ rest at here

one_pushed : (es : Rows) (n : List ℕ) (b : HallBoard) → kept_board b ≡ new_kept b.game.start b.owner.key
    → missing (kept_rows es) (kept_rows (es ++ (n, b) ∷ [])) ≡ Opens n b.game.start b.owner.key ∷ []
one_pushed [] n b fresh =
    ap (λ (js : List Entry). Opens n b.game.start b.owner.key ∷ (js ++ []))
    (ap (λ (k : KeptBoard). missing_of n (new_kept b.game.start b.owner.key) k) fresh ∙ nothing_of n (new_kept b.game.start b.owner.key))
one_pushed (e ∷ es) n b fresh = ap (λ (js : List Entry). js ++ missing (kept_rows es) (kept_rows (es ++ (n, b) ∷ []))) (nothing_of e.0 (kept_board e.1)) ∙ one_pushed es n b fresh

module _ (gone : Owner → Bool) where
  one_swept : (e : List ℕ × HallBoard) → missing_of e.0 (kept_board e.1) (kept_board (swept_board gone e.1)) ≡ cond (gone e.1.owner && not (is_some e.1.game.outcome)) (EndsGame e.0 by.Abandoned ∷ []) []
  one_swept e = by_left (gone e.1.owner) e.1.game.outcome refl
    where
      b : HallBoard
      b = e.1

      by_left : (left : Bool) (o : Option Outcome) → e.1.game.outcome ≡ o
          → missing_of e.0 (kept_board e.1) (kept_board (cond left (record e.1 { game = cond (is_some e.1.game.outcome) e.1.game (record e.1.game { outcome = Some AbandonedOutcome }) }) e.1))
          ≡ cond (left && not (is_some e.1.game.outcome)) (EndsGame e.0 by.Abandoned ∷ []) []
      by_left false o is = nothing_of e.0 (kept_board e.1)
      by_left true None is =
          let over : is_some e.1.game.outcome ≡ false = ap (λ (x : Option Outcome). is_some x) is in
          ap (λ (t : Bool). missing_of e.0 (kept_board e.1) (kept_board (record e.1 { game = cond t e.1.game (record e.1.game { outcome = Some AbandonedOutcome }) }))) over
          ∙ end_of e.0 by.Abandoned (kept_board e.1) is refl
          ∙ sym (ap (λ (t : Bool). cond (not t) (EndsGame e.0 by.Abandoned ∷ []) []) over)
      by_left true (Some x) is =
          let over : is_some e.1.game.outcome ≡ true = ap (λ (y : Option Outcome). is_some y) is in
          ap (λ (t : Bool). missing_of e.0 (kept_board e.1) (kept_board (record e.1 { game = cond t e.1.game (record e.1.game { outcome = Some AbandonedOutcome }) }))) over
          ∙ nothing_of e.0 (kept_board e.1)
          ∙ sym (ap (λ (t : Bool). cond (not t) (EndsGame e.0 by.Abandoned ∷ []) []) over)

  all_swept : (es : Rows) → missing (kept_rows es) (kept_rows (map (λ (e : List ℕ × HallBoard). (e.0, swept_board gone e.1)) es)) ≡ ends_in gone es
  all_swept [] = refl
  all_swept (e ∷ es) =
      ap (λ (js : List Entry). js ++ missing (kept_rows es) (kept_rows (map (λ (x : List ℕ × HallBoard). (x.0, swept_board gone x.1)) es))) (one_swept e)
      ∙ ap (λ (js : List Entry). cond (gone e.1.owner && not (is_some e.1.game.outcome)) (EndsGame e.0 by.Abandoned ∷ []) [] ++ js) (all_swept es)

-- ---- Events.

-- an ending that is accepted has its ground
grounded : (g : GameRecord) (ending : Ending) (o : Outcome) → end_answer g ending ≡ Ok o → has_ground g.start g.log ending ≡ true
unfolding end_answer
grounded g ending o ok = by_ground (is_some g.outcome) (has_ground g.start g.log ending) ok
  where
    by_ground : (over ground : Bool) → cond over (Err GameOver) (cond ground (Ok (named_outcome ending)) (Err ClaimRefused)) ≡ Ok o → ground ≡ true
    by_ground true ground e = absurd (grind (arith, e))
    by_ground false true e = refl
    by_ground false false e = absurd (grind (arith, e))

not_both : {A : Type 0} (x : A) (refusal : Refusal) → Ok x ≡ Err refusal → ⊥
not_both x refusal e = grind (arith, e)

abbrev Missing : FloorRecord → List Entry → FloorRecord → Type 0
Missing f js l = missing (kept_of f) (kept_of l) ≡ js

same : (f l : FloorRecord) → l ≡ f → Missing f [] l
same f l is = subst (λ (x : FloorRecord). Missing f [] x) (sym is) (nothing_of_all (kept_of f))

module _ (f : FloorRecord) (speaker : Owner) where
  abbrev told : Step → Reply → List Entry
  told step reply = cond (is_accepted reply) (entry_of speaker step) []

  opens : (name : List ℕ) (start : ℕ) (a : Result Unit Refusal) (reply : Reply) (l : FloorRecord) → OpensAs f speaker name start a reply l → Missing f (told (Open name start) reply) l
  opens name start (Err refusal) reply l (reply-is, l-is) = subst (λ (r : Reply). Missing f (told (Open name start) r) l) (sym reply-is) (same f l l-is)
  opens name start (Ok u) reply l (inl (table, reply-is, l-is)) =
      subst (λ (r : Reply). Missing f (told (Open name start) r) l) (sym reply-is)
      (subst (λ (x : FloorRecord). Missing f (told (Open name start) Opened) x) (sym l-is) (one_pushed f.boards name (new_board f table speaker start) refl))
  opens name start (Ok u) reply l (inr (reply-is, l-is)) = subst (λ (r : Reply). Missing f (told (Open name start) r) l) (sym reply-is) (same f l l-is)

  -- the board of a name whose game there is
  there : (name : List ℕ) (o : Option HallBoard) → lookup (same_name name) f.boards ≡ o → lookup (same_name name) (games_of f) ≡ option_map (λ (x : HallBoard). x.game) o
  there name o is = lookup-map (same_name name) (λ (x : HallBoard). x.game) f.boards ∙ ap (λ (y : Option HallBoard). option_map (λ (x : HallBoard). x.game) y) is

  submits : (name : List ℕ) (m : Triple) (a : Result (ℕ × Option Outcome) Refusal) → a ≡ answer_to_submit f name m → Missing f (told (Submit name m) (reply_to_play a)) (after_submit f name m a)
  submits name m (Err refusal) is = same f f refl
  submits name m (Ok played) is = by_board (lookup (same_name name) f.boards) refl
    where
      by_board : (o : Option HallBoard) → lookup (same_name name) f.boards ≡ o → Missing f (Plays name m ∷ []) (after_submit f name m (Ok played))
      by_board None none = absurd (not_both played NoSuchBoard (is ∙ ap (λ (o : Option GameRecord). play_answer_at m o) (there name None none)))
      by_board (Some b) at = one_changed name (with_game (λ g. with_move g m)) (Plays name m ∷ []) f.boards b at (λ c is-c. move_of name m (kept_board c))

  ends : (name : List ℕ) (ending : Ending) (a : Result Outcome Refusal) → a ≡ answer_to_end f name ending → Missing f (told (End name ending) (reply_to_end a)) (after_end f name ending a)
  ends name ending (Err refusal) is = same f f refl
  ends name ending (Ok outcome) is = by_board (lookup (same_name name) f.boards) refl
    where
      by_board : (o : Option HallBoard) → lookup (same_name name) f.boards ≡ o → Missing f (EndsGame name ending ∷ []) (after_end f name ending (Ok outcome))
      by_board None none = absurd (not_both outcome NoSuchBoard (is ∙ ap (λ (o : Option GameRecord). end_answer_at ending o) (there name None none)))
      by_board (Some b) at = one_changed name (with_game (ended_by ending)) (EndsGame name ending ∷ []) f.boards b at each
        where
          each : (c : HallBoard) → lookup (same_name name) f.boards ≡ Some c → missing_of name (kept_board c) (kept_board (with_game (ended_by ending) c)) ≡ EndsGame name ending ∷ []
          each c at-c =
              let ok = sym (is ∙ ap (λ (o : Option GameRecord). end_answer_at ending o) (there name (Some c) at-c)) in
              end_of name ending (kept_board c) (not_over c.game ending outcome ok) (grounded c.game ending outcome ok)

  silent : (reply : Reply) (l : FloorRecord) → l ≡ f → Missing f (cond (is_accepted reply) [] []) l
  silent reply l is = by_reply (is_accepted reply)
    where
      by_reply : (t : Bool) → Missing f (cond t [] []) l
      by_reply true = same f l is
      by_reply false = same f l is

  makes : (step : Step) (reply : Reply) (handed : Option Handed) (l : FloorRecord) → Makes f speaker step reply handed l → Missing f (told step reply) l
  makes (Open name start) reply handed l m = opens name start (answer_to_open f name start) reply l m.0
  makes (Submit name x) reply handed l (reply-is, l-is, none) =
      subst (λ (r : Reply). Missing f (told (Submit name x) r) l) (sym reply-is)
      (subst (λ (y : FloorRecord). Missing f (told (Submit name x) (reply_to_play (answer_to_submit f name x))) y) (sym l-is) (submits name x (answer_to_submit f name x) refl))
  makes (End name x) reply handed l (reply-is, l-is, none) =
      subst (λ (r : Reply). Missing f (told (End name x) r) l) (sym reply-is)
      (subst (λ (y : FloorRecord). Missing f (told (End name x) (reply_to_end (answer_to_end f name x))) y) (sym l-is) (ends name x (answer_to_end f name x) refl))
  makes (Follow who name from) reply handed l (follows, l-is) = silent reply l l-is
  makes (Take who) reply handed l (reply-is, l-is, none) = silent reply l l-is
  makes (Leave who) reply handed l (reply-is, l-is, none) = silent reply l l-is

module _ (k : HallRecord) where
  swept_to : (gone : Owner → Bool) (l : HallRecord) → l.floor ≡ swept_floor k.floor gone → Missing k.floor (ends_in gone k.floor.boards) l.floor
  swept_to gone l is = subst (λ (x : FloorRecord). Missing k.floor (ends_in gone k.floor.boards) x) (sym is) (all_swept gone k.floor.boards)

  gone_to : (who : ℕ) (key : Option (List ℕ)) (l : HallRecord) → WentBy k who key l → Missing k.floor (ends_in (goes_left l who key) k.floor.boards) l.floor
  gone_to who None l l-is = swept_to (is_left_by who) l (ap (λ (x : HallRecord). x.floor) l-is)
  gone_to who (Some key) l (one, others, l-is) = swept_to (is_left_all l.keys key) l (ap (λ (x : HallRecord). x.floor) l-is)

  pub compared : (e : HallEvent) (t : HallTold) (l : HallRecord) → HallStep k e t l → Missing k.floor (entries_at k e t l) l.floor
  compared (Comes key) Silent l (a, b, c, l-is) = same k.floor l.floor (ap (λ (x : HallRecord). x.floor) l-is)
  compared (Says speaker step) Silent l s = absurd s
  compared (Goes who) Silent l s = gone_to who.opener who.key l s
  compared (Time t) Silent l (a, l-is) = swept_to (λ o. has_waited (Some t) k.keys o.key) l (ap (λ (x : HallRecord). x.floor) l-is)
  compared Shuts Silent l (a, l-is) = swept_to (λ o. has_waited None k.keys o.key) l (ap (λ (x : HallRecord). x.floor) l-is)
  compared Ends Silent l s = swept_to (λ _. true) l (ap (λ (x : HallRecord). x.floor) s)
  compared (Comes key) (Replied reply handed) l s = absurd s
  compared (Says speaker step) (Replied reply handed) l s = makes k.floor speaker step reply handed l.floor s.0
  compared (Goes who) (Replied reply handed) l s = absurd s
  compared (Time t) (Replied reply handed) l s = absurd s
  compared Shuts (Replied reply handed) l s = absurd s
  compared Ends (Replied reply handed) l s = absurd s
