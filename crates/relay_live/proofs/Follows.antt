-- A follow on a live relay.
use Rattle.std.proofs.Common.{◌≡◌, ◌≢◌, ◌+◌, ◌<◌, ◌≤◌, ℕ, zero, suc, nat_eq, add-zero, nat_le, is_some, Bool, true, false, not, List, [], ◌∷◌, ◌++◌, length, position, drop, take, unwrap_or, Option, Some, None, option_map, Ok, sym, refl, ap, ◌∙◌, subst, cond, arith, fold, inl, inr, ⊎_elim, ◌⊎◌}
use Rattle.std.specs.Prelude.{count_by, MatchOption}
use Rattle.std.proofs.lemmas.Bool.{le-leb, lt-leb}
use Rattle.std.proofs.Math.Seq.{take-length}
use Rattle.std.proofs.lemmas.Option.{same_Some}
use Rattle.std.specs.Map.{keys_of, lookup, set_value}
use mathlib.Core.Option.{some, some-injective, some-ne-none}
use mathlib.Core.Logic.{dite}
use native.Mathlib.Decide.{ℕ_discrete}
use lib.ListN.{get_elem?}
use Rattle.atomic_table.proofs.Lists.{set_here, set_else}
use Rattle.c960_board.specs.declared.parts.Parts.{Parts}
use Rattle.c960_game.specs.declared.refusal.Refusal.{Refusal}
use Rattle.c960_game.specs.declared.refusal.Refusal.TheVariants.{NoSuchBoard}
use Rattle.c960_game.specs.Limits.{LimitNumbers}
use Rattle.c960_game.specs.Positions.{position_at}
use Rattle.c960_game.specs.GameRecord.{GameRecord}
use Rattle.relay_core.specs.declared.step.Step.TheVariants.{Follow}
use Rattle.relay_core.specs.declared.reply.Reply.TheVariants.{Following, Refused}
use Rattle.relay_core.specs.Following.{place_of}
use Rattle.relay_core.specs.History.{start_of}
use Rattle.relay_core.specs.Held.Followers.{joining}
use Rattle.relay_core.specs.Held.{HeldFollower}
use Rattle.relay_core.specs.Name.{same_name}
use Rattle.relay_core.specs.Refusals.{first_refusal, follow_grounds}
use Rattle.relay_core.specs.Replies.{reply_to_follow}
use Rattle.relay_core.specs.Stands.{game_of as history_game}
use Rattle.relay_core.proofs.lemmas.Followed.{follow_goes}
use Rattle.relay_core.specs.BoardAnswers.{place_in}
use Rattle.relay_core.proofs.lemmas.Lists.{lookup-map, none_below, shown-push}
use Rattle.relay_core.proofs.lemmas.Names.{is_same_name}
use Rattle.relay_core.proofs.lemmas.Refused.{goes_refused}
use Rattle.relay_core.specs.Held.Stands.{Goes}
use Rattle.relay_core.proofs.lemmas.Standing.{keeps}
use Rattle.live_board.specs.declared.note.Note.{Note}
use Rattle.live_board.specs.declared.note.Note.TheVariants.{Vacant, Open}
use Rattle.live_board.specs.declared.view.View.{View}
use Rattle.live_board.specs.Shows.{total}
use Rattle.live_board.specs.Sound.{IsSound, IsSoundBoard}
use Rattle.live_board.specs.Views.{followed, newcomer}
use Rattle.live_board.proofs.lemmas.Totals.{total-set, term_le}
use Rattle.live_board.specs.Board.{game_of, setup_of}
use Rattle.live_board.specs.Carried.{Carries, closing_found}
use Rattle.live_board.specs.TableWriter.{NoneVacant}
use Rattle.live_board.specs.Seats.{BoardSeat}
use Rattle.relay_live.specs.declared.seated.Seated.{Seated}
use Rattle.relay_live.specs.Live.{Boards, held_at, held_in, view_in, held_by, game, games, holders, IsSeated, IsLive, Swapped, vacancy}
use Rattle.live_board.proofs.lemmas.Notes.{at_within}
use Rattle.relay_live.proofs.Entries.{crowd, one_if_true, crowd_push, none_vacant}
use Rattle.relay_live.proofs.Swaps.{Each, each_on, each_turned, flipped, held_still, holders_on, same_games, same_index, seated_still, sound_board, swapped_here}

-- how many spectators follow, as the record counts them
pub crowd_held : (q : List ℕ) (k : ℕ) (boards : Boards) (fs : List (ℕ × Seated)) → count_by (λ e. same_name q e.1.board) (holders k boards fs) ≡ crowd q fs
crowd_held q k boards fs = from 0 fs
  where
    from : (n : ℕ) (l : List (ℕ × Seated)) → fold (λ (a : ℕ) (e : ℕ × HeldFollower). a + cond (same_name q e.1.board) 1 0) n (holders k boards l) ≡ fold (λ (a : ℕ) (e : ℕ × Seated). a + cond (same_name q e.1.board) 1 0) n l
    from n [] = refl
    from n (x ∷ xs) = from (n + cond (same_name q x.1.board) 1 0) xs

-- no slot is vacant only if as many follow as there are slots
pub full : (limits : LimitNumbers) (boards : Boards) (fs : List (ℕ × Seated)) (name : List ℕ) (b : BoardSeat) → IsLive limits boards fs → lookup (same_name name) boards ≡ Some b → NoneVacant b.knows → crowd name fs ≡ limits.followers
full limits boards fs name b live there none =
    let all = live.counted name b there in
    let zero = none_vacant b.knows.notes none in omega (arith, all, zero)

-- and one is vacant only if fewer do
pub room : (limits : LimitNumbers) (boards : Boards) (fs : List (ℕ × Seated)) (name : List ℕ) (b : BoardSeat) (slot : ℕ) → IsLive limits boards fs → lookup (same_name name) boards ≡ Some b → get_elem? b.knows.notes slot ≡ some Vacant → crowd name fs < limits.followers
room limits boards fs name b slot live there vacant =
    let all = live.counted name b there in
    let one = term_le vacancy b.knows.notes slot Vacant vacant in omega (arith, all, one)

-- the slot that was found is vacant
pub found_vacant : (v : View) (vacant : Option ℕ) (slot : ℕ) → vacant ≡ Some slot
    → MatchOption vacant (NoneVacant v) (λ k. (k < v.setup.limits.followers) × (get_elem? v.notes k ≡ some Vacant))
    → (slot < v.setup.limits.followers) × (get_elem? v.notes slot ≡ some Vacant)
found_vacant v vacant slot is told =
    subst (λ (o : Option ℕ). MatchOption o (NoneVacant v) (λ k. (k < v.setup.limits.followers) × (get_elem? v.notes k ≡ some Vacant))) is told

-- ---- A follow that is refused.

module _ (limits : LimitNumbers) (boards : Boards) (fs : List (ℕ × Seated)) (who : ℕ) (name : List ℕ) (from : Option ℕ) where
  abbrev pub StaysBy : Refusal → Type 0
  StaysBy refusal = Goes (held_by limits boards fs) (held_by limits boards fs) (Follow who name from) (Refused refusal)

  pub nowhere : lookup (same_name name) boards ≡ None → StaysBy NoSuchBoard
  nowhere none = goes_refused (held_by limits boards fs) (games boards) (holders limits.capacity boards fs) (Follow who name from) NoSuchBoard refl refl
      (λ given h st. inl (sym (ap (reply_to_follow given h who name (place_of h name from))
      (none_below (history_game given h name) (start_of h name) (sym (st.boards name) ∙ lookup-map (same_name name) game boards ∙ ap (option_map game) none)))))

  module _ (b : BoardSeat) (there : lookup (same_name name) boards ≡ Some b) where
    pub game_found : lookup (same_name name) (games boards) ≡ Some (game b)
    game_found = lookup-map (same_name name) game boards ∙ ap (option_map game) there

    seen : is_some (lookup (nat_eq who) (holders limits.capacity boards fs)) ≡ is_some (lookup (nat_eq who) fs)
    seen = ap is_some (lookup-map (nat_eq who) (held_at limits.capacity boards) fs) ∙ by (lookup (nat_eq who) fs)
      where
        by : (o : Option Seated) → is_some (option_map (held_at limits.capacity boards) o) ≡ is_some o
        by None = refl
        by (Some x) = refl

    module _ (live : IsLive limits boards fs) where
      -- no slot is noted vacant exactly if as many follow as may
      full_is : (is_full : Bool) (vacant : Option ℕ) → is_some vacant ≡ not is_full
          → MatchOption vacant (NoneVacant b.knows) (λ k. (k < b.knows.setup.limits.followers) × (get_elem? b.knows.notes k ≡ some Vacant))
          → is_full ≡ nat_le limits.followers (count_by (λ e. same_name name e.1.board) (holders limits.capacity boards fs))
      full_is true None e none = sym (ap (nat_le limits.followers) (crowd_held name limits.capacity boards fs ∙ full limits boards fs name b live there none)
          ∙ le-leb limits.followers limits.followers (omega arith))
      full_is false (Some k) e vacant = sym (ap (nat_le limits.followers) (crowd_held name limits.capacity boards fs)
          ∙ lt-leb limits.followers (crowd name fs) (room limits boards fs name b k live there vacant.1))
      full_is true (Some k) e vacant = cc
      full_is false None e none = cc

      -- the grounds by what the relay keeps are those of its record
      pub told : (long joined capacity : ℕ) (is_full : Bool) (vacant : Option ℕ) → is_some vacant ≡ not is_full
          → MatchOption vacant (NoneVacant b.knows) (λ k. (k < b.knows.setup.limits.followers) × (get_elem? b.knows.notes k ≡ some Vacant))
          → long ≡ length b.knows.log → joined ≡ place_in from (game b) → capacity ≡ limits.capacity
          → first_refusal (follow_grounds (is_some (lookup (nat_eq who) fs)) long joined capacity is_full)
          ≡ first_refusal (follow_grounds (is_some (lookup (nat_eq who) (holders limits.capacity boards fs))) (length b.knows.log) (place_in from (game b)) limits.capacity
          (nat_le limits.followers (count_by (λ e. same_name name e.1.board) (holders limits.capacity boards fs))))
      told long joined capacity is_full vacant e v l j c =
          λ i. first_refusal (follow_grounds (sym seen i) (l i) (j i) (c i) (full_is is_full vacant e v i))

-- ---- A follow that is accepted.

-- what is known of the board that is there now, from the one that was there
pub joins : (name : List ℕ) (old new : Boards) (slot joined : ℕ) (b : BoardSeat) → lookup (same_name name) old ≡ Some b
    → Swapped (λ x y. (y.knows ≡ followed slot joined x.knows) × IsSound y.knows) name old new
    → (c : BoardSeat) × (c.knows ≡ followed slot joined b.knows) × IsSound c.knows × (new ≡ set_value (same_name name) old c)
joins name old new slot joined b there t =
    (t.1, t.3.0 ∙ ap (λ (h : BoardSeat). followed slot joined h.knows) (same_Some t.0 b (sym t.2 ∙ there)), t.3.1, t.4)

module _ (limits : LimitNumbers) (old new : Boards) (fs fs' : List (ℕ × Seated)) (who : ℕ) (name : List ℕ) (slot joined : ℕ) (live : IsLive limits old fs) (nobody : lookup (nat_eq who) fs ≡ None)
    (b c : BoardSeat) (there : lookup (same_name name) old ≡ Some b) (vacant : get_elem? b.knows.notes slot ≡ some Vacant) (within : joined ≤ length b.knows.log)
    (knows : c.knows ≡ followed slot joined b.knows) (sound' : IsSound c.knows) (new-is : new ≡ set_value (same_name name) old c)
    (s : Seated) (s-board : s.board ≡ name) (s-index : position (same_name name) (keys_of old) ≡ Some s.index) (s-slot : s.slot ≡ slot) (s-joined : s.joined ≡ joined) (s-taken : s.taken ≡ 0) (fs-is : fs' ≡ fs ++ (who, s) ∷ []) where
  here : lookup (same_name s.board) new ≡ Some c
  here = swapped_here old new name b c there new-is s.board (sym s-board)

  ok : IsSoundBoard b.knows
  ok = sound_board limits old fs live name b there

  low : slot < length b.knows.notes
  low = at_within b.knows.notes slot Vacant vacant

  notes_other : (k : ℕ) → k ≢ slot → get_elem? c.knows.notes k ≡ get_elem? b.knows.notes k
  notes_other k ne = ap (λ (x : View). get_elem? x.notes k) knows ∙ set_else b.knows.notes slot k (Open joined joined) ne

  note_here : get_elem? c.knows.notes slot ≡ some (Open joined joined)
  note_here = ap (λ (x : View). get_elem? x.notes slot) knows ∙ set_here b.knows.notes slot (Open joined joined) low

  -- nobody that sits at the board has the vacant slot
  far : (g : Seated) → IsSeated old g → name ≡ g.board → g.slot ≢ slot
  far g t same at =
      let is : t.board ≡ b = same_Some _ _ (sym t.there ∙ ap (λ (x : List ℕ). lookup (same_name x) old) (sym same) ∙ there) in
      ok.agree t.index t.part (ap (λ (x : BoardSeat). get_elem? x.knows.parts t.index) (sym is) ∙ t.carried) Vacant (ap (get_elem? b.knows.notes) (t.slot_is ∙ at) ∙ vacant)

  held_other : (g : Seated) → IsSeated old g → held_at limits.capacity new g ≡ held_at limits.capacity old g
  held_other g t = held_still old new name b c there new-is limits.capacity g (ap (λ (x : View). x.log) knows) (λ same. notes_other g.slot (far g t same))

  kept_holders : holders limits.capacity new fs ≡ holders limits.capacity old fs
  kept_holders = holders_on limits.capacity old new fs (λ i e d. held_other e.1 (live.seated i e d))

  -- the new follower
  held_new : held_at limits.capacity new s ≡ joining name joined b.knows.log limits.capacity
  held_new =
      let log : c.knows.log ≡ b.knows.log = ap (λ (x : View). x.log) knows in
      let queue : drop (joined + 0) (take (length b.knows.log) b.knows.log) ≡ drop joined b.knows.log = rw (add-zero, take-length b.knows.log) refl in
      ap (λ o. held_in limits.capacity (view_in o) s) here
      ∙ (λ i. record {
        board = s-board i;
        joined = s-joined i;
        taken = s-taken i;
        cut = closing_found (get_elem? c.knows.notes (s-slot i));
        queue = drop (s-joined i + s-taken i) (take (unwrap_or (closing_found (get_elem? c.knows.notes (s-slot i))) (length (log i))) (log i));
        capacity = limits.capacity;
      })
      ∙ (λ i. record {
        board = name;
        joined = joined;
        taken = 0;
        cut = closing_found (note_here i);
        queue = drop (joined + 0) (take (unwrap_or (closing_found (note_here i)) (length b.knows.log)) b.knows.log);
        capacity = limits.capacity;
      })
      ∙ (λ i. record { board = name; joined = joined; taken = 0; cut = None; queue = queue i; capacity = limits.capacity })

  holders-are : holders limits.capacity new fs' ≡ holders limits.capacity old fs ++ (who, joining name joined b.knows.log limits.capacity) ∷ []
  holders-are =
      ap (holders limits.capacity new) fs-is ∙ shown-push (held_at limits.capacity new) fs who s
      ∙ (λ i. kept_holders i ++ (who, held_new i) ∷ [])

  -- no ground against it holds, according to the record
  abbrev pub Fine : Option ℕ → Unit {0} → Type 0
  Fine from u = Ok u ≡ first_refusal (follow_grounds (is_some (lookup (nat_eq who) (holders limits.capacity old fs))) (length b.knows.log) (place_in from (game b)) limits.capacity
      (nat_le limits.followers (count_by (λ e. same_name name e.1.board) (holders limits.capacity old fs))))

  pub goes : (from : Option ℕ) (position : Parts) (u : Unit {0}) → Fine from u → joined ≡ place_in from (game b) → Some position ≡ position_at b.knows.setup.start b.knows.log joined
      → Goes (held_by limits old fs) (held_by limits new fs') (Follow who name from) (Following joined position)
  goes from position u fine at stood =
      let found : lookup (same_name name) (games old) ≡ Some (game b) = lookup-map (same_name name) game old ∙ ap (option_map game) there in
      subst (λ (x : List (List ℕ × GameRecord)). Goes (held_by limits old fs) record { limits = limits; boards = x; followers = holders limits.capacity new fs' } (Follow who name from) (Following joined position)) (sym (same_games old new name b c there new-is (ap game_of knows)))
      (follow_goes (held_by limits old fs) who name from (game b) found u fine (holders limits.capacity new fs') joined position at stood holders-are)

  -- ---- What is kept.

  seated_on : (g : Seated) → IsSeated old g → IsSeated new g
  seated_on g t = seated_still old new name b c there new-is g t (λ same e. (suc t.index, t.part, ap (λ (x : View). get_elem? x.parts (suc t.index)) knows ∙ e, refl))

  seated_new : IsSeated new s
  seated_new = record {
    board = c;
    there = here;
    at = same_index old new name b c there new-is s.board ∙ ap (λ (x : List ℕ). position (same_name x) (keys_of old)) s-board ∙ s-index;
    index = 0;
    part = newcomer slot joined b.knows;
    carried = ap (λ (x : View). get_elem? x.parts 0) knows;
    slot_is = sym s-slot;
    joined_is = sym s-joined;
    taken_is = sym s-taken;
  }

  -- an entry is an old one, or the new one, which is the last
  entry : (l : List (ℕ × Seated)) (i : ℕ) (e : ℕ × Seated) → get_elem? (l ++ (who, s) ∷ []) i ≡ some e → ((get_elem? l i ≡ some e) × (i < length l)) ⊎ ((e ≡ (who, s)) × (i ≡ length l))
  entry [] zero e d = inr (sym (some-injective _ _ d), refl)
  entry [] (suc i) e d = absurd (some-ne-none e (sym d))
  entry (x ∷ xs) zero e d = inl (d, omega arith)
  entry (x ∷ xs) (suc i) e d = ⊎_elim (λ (y : (get_elem? xs i ≡ some e) × (i < length xs)). let z = y.1 in inl (y.0, omega arith)) (λ (y : (e ≡ (who, s)) × (i ≡ length xs)). inr (y.0, ap suc y.1)) (entry xs i e d)

  at_entry : (i : ℕ) (e : ℕ × Seated) → get_elem? fs' i ≡ some e → ((get_elem? fs i ≡ some e) × (i < length fs)) ⊎ ((e ≡ (who, s)) × (i ≡ length fs))
  at_entry i e d = entry fs i e (ap (λ l. get_elem? l i) (sym fs-is) ∙ d)

  apart_now : (i j : ℕ) (e d : ℕ × Seated) → get_elem? fs' i ≡ some e → get_elem? fs' j ≡ some d → e.1.board ≡ d.1.board → e.1.slot ≡ d.1.slot → i ≡ j
  apart_now i j e d x y same at = ⊎_elim
      (λ (u : (get_elem? fs i ≡ some e) × (i < length fs)). ⊎_elim
      (λ (w : (get_elem? fs j ≡ some d) × (j < length fs)). live.apart i j e d u.0 w.0 same at)
      (λ (w : (d ≡ (who, s)) × (j ≡ length fs)). absurd (far e.1 (live.seated i e u.0) (sym s-board ∙ sym (ap (λ (z : ℕ × Seated). z.1.board) w.0) ∙ sym same) (at ∙ ap (λ (z : ℕ × Seated). z.1.slot) w.0 ∙ s-slot)))
      (at_entry j d y))
      (λ (u : (e ≡ (who, s)) × (i ≡ length fs)). ⊎_elim
      (λ (w : (get_elem? fs j ≡ some d) × (j < length fs)). absurd (far d.1 (live.seated j d w.0) (sym s-board ∙ sym (ap (λ (z : ℕ × Seated). z.1.board) u.0) ∙ same) (sym at ∙ ap (λ (z : ℕ × Seated). z.1.slot) u.0 ∙ s-slot)))
      (λ (w : (d ≡ (who, s)) × (j ≡ length fs)). u.1 ∙ sym w.1)
      (at_entry j d y))
      (at_entry i e x)

  carried_on : (k : ℕ) (n : Note) → get_elem? c.knows.notes k ≡ some n → n ≢ Vacant → Carries c.knows k
  carried_on k n e ne = dite (ℕ_discrete k slot)
      (λ (at : k ≡ slot). (0, newcomer slot joined b.knows, ap (λ (x : View). get_elem? x.parts 0) knows, sym at))
      (λ d.
      let p = live.carried name b there k n (sym (notes_other k d) ∙ e) ne in
      (suc p.0, p.1, ap (λ (x : View). get_elem? x.parts (suc p.0)) knows ∙ p.2, p.3))

  one_less : total vacancy c.knows.notes + 1 ≡ total vacancy b.knows.notes
  one_less =
      let put = total-set vacancy b.knows.notes slot Vacant (Open joined joined) vacant in
      let is = ap (λ (x : View). total vacancy x.notes) knows in
      omega (arith, put, is)

  more : (q : List ℕ) → crowd q fs' ≡ crowd q fs + cond (same_name q name) 1 0
  more q = ap (crowd q) fs-is ∙ crowd_push q fs (who, s) ∙ ap (λ (z : List ℕ). crowd q fs + one_if_true (same_name q z)) s-board

  counted_on : Each (λ q v. crowd q fs' + total vacancy v.notes ≡ limits.followers) new
  counted_on = each_turned old new name b c there new-is (λ q v. crowd q fs + total vacancy v.notes ≡ limits.followers) (λ q v. crowd q fs' + total vacancy v.notes ≡ limits.followers) live.counted
      (λ q same h. let one = ap one_if_true (is_same_name q name (sym same)) in let n = more q in let less = one_less in omega (arith, h, one, n, less))
      (λ q v ne h. let none = ap one_if_true (flipped name q false ne) in let n = more q in omega (arith, h, none, n))

  pub lives : (from : Option ℕ) (position : Parts) (u : Unit {0}) → Fine from u → joined ≡ place_in from (game b) → Some position ≡ position_at b.knows.setup.start b.knows.log joined → IsLive limits new fs'
  lives from position u fine at stood = record {
    kept = keeps (held_by limits old fs) (held_by limits new fs') (Follow who name from) (Following joined position) live.kept refl (goes from position u fine at stood);
    setups = each_on old new name b c there new-is (λ q v. v.setup ≡ setup_of v.setup.start limits) live.setups (λ q same h. subst (λ (v : View). v.setup ≡ setup_of v.setup.start limits) (sym knows) h);
    owns = each_on old new name b c there new-is (λ q v. v.owns ≡ true) live.owns (λ q same h. ap (λ (v : View). v.owns) knows ∙ h);
    sound = each_on old new name b c there new-is (λ q v. IsSound v) live.sound (λ q same h. sound');
    seated = λ i e d. ⊎_elim (λ (x : (get_elem? fs i ≡ some e) × (i < length fs)). seated_on e.1 (live.seated i e x.0)) (λ (x : (e ≡ (who, s)) × (i ≡ length fs)). subst (λ (y : ℕ × Seated). IsSeated new y.1) (sym x.0) seated_new) (at_entry i e d);
    apart = apart_now;
    carried = each_on old new name b c there new-is (λ q v. (k : ℕ) (n : Note) → get_elem? v.notes k ≡ some n → n ≢ Vacant → Carries v k) live.carried (λ q same h. carried_on);
    counted = counted_on;
  }
