-- A take on a live relay.
use Rattle.std.proofs.Common.{fold, ◌≡◌, ◌≢◌, ◌⊎◌, ℕ, ◌+◌, ◌<◌, nat_eq, eqb-true, eq-eqb, Bool, true, false, List, [], ◌∷◌, ◌++◌, map, length, length-append, drop, take, unwrap_or, Option, Some, None, option_map, sym, refl, ap, ◌∙◌, subst, ⊎_elim, arith, cond, eqb, ne_eqb}
use Rattle.std.proofs.lemmas.Option.{same_Some}
use Rattle.std.specs.Option.{IfSome}
use Rattle.std.proofs.lemmas.Map.Steps.{set_value_same}
use Rattle.std.specs.Map.{lookup, set_value}
use mathlib.Core.Option.{some}
use lib.ListN.{get_elem?}
use Rattle.atomic_table.proofs.Lists.{at_map}
use Rattle.c960_board.specs.Moves.{Triple}
use Rattle.c960_game.specs.declared.outcome.Outcome.{Outcome}
use Rattle.c960_game.specs.Limits.{LimitNumbers}
use Rattle.c960_game.specs.GameRecord.{GameRecord}
use Rattle.relay_core.specs.declared.step.Step.TheVariants.{Take}
use Rattle.relay_core.specs.declared.reply.Reply.TheVariants.{Took as Answered}
use Rattle.relay_core.specs.declared.reply.Taken.{Taken}
use Rattle.relay_core.specs.declared.reply.Taken.TheVariants.{Move, Nothing, Over, Cut}
use Rattle.relay_core.specs.BoardAnswers.{outcome_at}
use Rattle.relay_core.specs.Held.Followers.{popped, popped_from, boards_of}
use Rattle.relay_core.specs.Held.{HeldFollower}
use Rattle.relay_core.specs.Name.{same_name}
use Rattle.relay_core.specs.Replies.{taken_of}
use Rattle.relay_core.proofs.lemmas.Lists.{lookup-map, set_value-map, shown-shown, shown}
use Rattle.relay_core.specs.Held.Stands.{Goes}
use Rattle.relay_core.proofs.lemmas.Standing.{keeps}
use Rattle.relay_core.proofs.lemmas.Stretches.{drop_past}
use Rattle.relay_core.proofs.lemmas.Takes.{take_goes}
use Rattle.relay_live.specs.declared.seated.Seated.{Seated}
use Rattle.live_board.specs.declared.note.Note.{Note}
use Rattle.live_board.specs.declared.view.Part.{Part}
use Rattle.live_board.specs.declared.setup.BoardSetup.{BoardSetup}
use Rattle.live_board.specs.Board.{setup_of}
use Rattle.live_board.specs.Carried.{TookAt, Holding, with_items, items_of, closing_at, due_at, Carries, holding_of}
use Rattle.live_board.specs.Seats.{BoardSeat}
use Rattle.relay_live.specs.Live.{Boards, held_at, held_in, view_in, held_by, game, games, holders, with_one_more, IsSeated, IsLive, vacancy}
use Rattle.live_board.specs.Shows.{total}
use Rattle.live_board.specs.Sound.{IsSound}
use Rattle.std.specs.Prelude.{count_by}
use Rattle.live_board.proofs.lemmas.Cases.{pick}
use Rattle.live_board.specs.declared.note.Note.TheVariants.{Vacant}
use Rattle.relay_live.proofs.Maps.{seek_same, seek_other, written}
use Rattle.relay_live.proofs.Swaps.{Each, each_on, each_turned, held_still, same_games, same_index, seated_still, swapped_here}
use Rattle.live_board.proofs.lemmas.Totals.{at_map_back}

abbrev pub after : Taken → Seated → Seated
after a f = record { board = f.board; index = f.index; slot = f.slot; joined = f.joined; taken = f.taken + length (items_of a) }

abbrev queue_of : BoardSeat → Seated → List Triple
queue_of b f = due_at b.knows f.slot (f.joined + f.taken)

fold_shown : (F : ℕ → ℕ × List ℕ → ℕ) (n : ℕ) (l : List (ℕ × Seated)) → fold (λ a e. F a (e.0, e.1.board)) n l ≡ fold F n (shown (λ (g : Seated). g.board) l)
fold_shown F n [] = refl
fold_shown F n (x ∷ xs) = fold_shown F (F n (x.0, x.1.board)) xs

module _ (limits : LimitNumbers) (old new : Boards) (fs fs' : List (ℕ × Seated)) (who : ℕ) (f : Seated) (live : IsLive limits old fs) (mine : lookup (nat_eq who) fs ≡ Some f)
    (answer : Taken) (b c : BoardSeat) (there : lookup (same_name f.board) old ≡ Some b) (took : TookAt f.slot answer b.knows c.knows) (ok' : IsSound c.knows)
    (told : answer ≡ taken_of (f.joined + f.taken) b.knows.outcome (closing_at b.knows f.slot) (queue_of b f))
    (new-is : new ≡ set_value (same_name f.board) old c) (fs-is : fs' ≡ set_value (nat_eq who) fs (after answer f)) where
  same_game : game c ≡ game b
  same_game = λ i. record { start = (took.setup i).start; plies = (took.setup i).limits.plies; log = took.log i; outcome = took.outcome i }

  same_held : (g : Seated) → held_at limits.capacity new g ≡ held_at limits.capacity old g
  same_held g = held_still old new f.board b c there new-is limits.capacity g took.log (λ same. ap (λ (l : List Note). get_elem? l g.slot) took.notes)

  held-is : held_at limits.capacity old f ≡ held_in limits.capacity b.knows f
  held-is = ap (λ o. held_in limits.capacity (view_in o) f) there

  -- the follower after its take
  popped-is : held_in limits.capacity b.knows (after answer f) ≡ popped (held_in limits.capacity b.knows f)
  popped-is = by (queue_of b f) refl (closing_at b.knows f.slot) b.knows.outcome told
    where
      k : ℕ
      k = limits.capacity

      j : ℕ
      j = f.joined

      shape : ℕ → List Triple → HeldFollower
      shape t q = record { board = f.board; joined = f.joined; taken = t; cut = closing_at b.knows f.slot; queue = q; capacity = limits.capacity }

      all : List Triple
      all = take (unwrap_or (closing_at b.knows f.slot) (length b.knows.log)) b.knows.log

      idle : queue_of b f ≡ [] → items_of answer ≡ [] → held_in limits.capacity b.knows (after answer f) ≡ popped (held_in limits.capacity b.knows f)
      idle e none =
          let t : f.taken + length (items_of answer) ≡ f.taken = let x = ap length none in omega arith in
          (λ i. record { board = f.board; joined = f.joined; taken = t i; cut = closing_at b.knows f.slot; queue = drop (f.joined + t i) all; capacity = limits.capacity })
          ∙ sym (ap (λ (q : List Triple). popped_from q (held_in limits.capacity b.knows f)) e)

      by : (q : List Triple) → queue_of b f ≡ q → (o : Option ℕ) (x : Option Outcome) → answer ≡ taken_of (f.joined + f.taken) x o q → held_in limits.capacity b.knows (after answer f) ≡ popped (held_in limits.capacity b.knows f)
      by (m ∷ rest) e o x a =
          let t : f.taken + length (items_of answer) ≡ f.taken + 1 = ap (λ (y : Taken). f.taken + length (items_of y)) a in
          let n : f.joined + (f.taken + 1) ≡ f.joined + f.taken + 1 = omega arith in
          let queue : drop (f.joined + (f.taken + 1)) all ≡ rest = ap (λ (y : ℕ). drop y all) n ∙ drop_past (f.joined + f.taken) all rest m e in
          (λ i. record { board = f.board; joined = f.joined; taken = t i; cut = closing_at b.knows f.slot; queue = drop (f.joined + t i) all; capacity = limits.capacity })
          ∙ (λ i. record { board = f.board; joined = f.joined; taken = f.taken + 1; cut = closing_at b.knows f.slot; queue = queue i; capacity = limits.capacity })
          ∙ sym (ap (λ (q : List Triple). popped_from q (held_in limits.capacity b.knows f)) e)
      by [] e (Some c) x a = idle e (ap items_of a)
      by [] e None (Some x) a = idle e (ap items_of a)
      by [] e None None a = idle e (ap items_of a)

  -- what the take answers
  answered : taken_of ((held_at limits.capacity old f).joined + (held_at limits.capacity old f).taken)
      (outcome_at (lookup (same_name (held_at limits.capacity old f).board) (games old))) (held_at limits.capacity old f).cut (held_at limits.capacity old f).queue ≡ answer
  answered = ap (λ (h : HeldFollower). taken_of (h.joined + h.taken) (outcome_at (lookup (same_name h.board) (games old))) h.cut h.queue) held-is
      ∙ ap (λ o. taken_of (f.joined + f.taken) o (closing_at b.knows f.slot) (queue_of b f)) known ∙ sym told
    where
      known : outcome_at (lookup (same_name f.board) (games old)) ≡ b.knows.outcome
      known = ap outcome_at (lookup-map (same_name f.board) game old ∙ ap (option_map game) there)

  found : lookup (nat_eq who) (holders limits.capacity old fs) ≡ Some (held_at limits.capacity old f)
  found = lookup-map (nat_eq who) (held_at limits.capacity old) fs ∙ ap (option_map (held_at limits.capacity old)) mine

  updates : (q : ℕ) → lookup (nat_eq q) (holders limits.capacity new fs') ≡ cond (nat_eq who q) (option_map popped (lookup (nat_eq who) (holders limits.capacity old fs))) (lookup (nat_eq q) (holders limits.capacity old fs))
  updates q = lookup-map (nat_eq q) (held_at limits.capacity new) fs' ∙ by (nat_eq who q) refl
    where
      each : (o : Option Seated) → option_map (held_at limits.capacity new) o ≡ option_map (held_at limits.capacity old) o
      each None = refl
      each (Some g) = ap (λ (h : HeldFollower). Some h) (same_held g)

      by : (t : Bool) → nat_eq who q ≡ t → option_map (held_at limits.capacity new) (lookup (nat_eq q) fs') ≡ cond t (option_map popped (lookup (nat_eq who) (holders limits.capacity old fs))) (lookup (nat_eq q) (holders limits.capacity old fs))
      by true e =
          let same : who ≡ q = eqb-true who q e in
          let now : lookup (nat_eq q) fs' ≡ Some (after answer f) = ap (λ (x : ℕ). lookup (nat_eq x) fs') (sym same) ∙ ap (lookup (nat_eq who)) fs-is ∙ seek_same nat_eq (λ x y. eqb-true x y) (λ x y. eq-eqb x y) who fs f (after answer f) mine in
          ap (option_map (held_at limits.capacity new)) now
          ∙ ap (λ (h : HeldFollower). Some h) (same_held (after answer f) ∙ ap (λ o. held_in limits.capacity (view_in o) (after answer f)) there ∙ popped-is ∙ ap popped (sym held-is))
          ∙ sym (ap (option_map popped) (lookup-map (nat_eq who) (held_at limits.capacity old) fs ∙ ap (option_map (held_at limits.capacity old)) mine))
      by false e =
          each (lookup (nat_eq q) fs')
          ∙ ap (option_map (held_at limits.capacity old)) (ap (lookup (nat_eq q)) fs-is ∙ seek_other nat_eq (λ x y. eqb-true x y) (λ x y. eq-eqb x y) who q fs (after answer f) e)
          ∙ sym (lookup-map (nat_eq q) (held_at limits.capacity old) fs)

  boards : boards_of (holders limits.capacity new fs') ≡ boards_of (holders limits.capacity old fs)
  boards = shown-shown (λ (h : HeldFollower). h.board) (held_at limits.capacity new) fs'
      ∙ ap (shown (λ (g : Seated). g.board)) fs-is ∙ set_value-map (nat_eq who) (λ (g : Seated). g.board) fs f (after answer f) mine refl
      ∙ sym (shown-shown (λ (h : HeldFollower). h.board) (held_at limits.capacity old) fs)

  pub goes : Goes (held_by limits old fs) (held_by limits new fs') (Take who) (Answered answer)
  goes = subst (λ (x : List (List ℕ × GameRecord) × Taken). Goes (held_by limits old fs) record { limits = limits; boards = x.0; followers = holders limits.capacity new fs' } (Take who) (Answered x.1))
      (λ i. (sym (same_games old new f.board b c there new-is same_game) i, answered i))
      (take_goes (held_by limits old fs) (holders limits.capacity new fs') who (held_at limits.capacity old f) found updates boards)

  -- ---- The parts.

  setup : c.knows.setup ≡ b.knows.setup
  setup = took.setup

  -- what a part becomes
  part_now : (i : ℕ) (p : Part) → get_elem? b.knows.parts i ≡ some p → (q : Part) × (get_elem? c.knows.parts i ≡ some q) × (holding_of q ≡ with_items f.slot (items_of answer) (holding_of p))
  part_now i p e = at_map_back holding_of c.knows.parts i _ (ap (λ (l : List Holding). get_elem? l i) took.parts ∙ at_map (with_items f.slot (items_of answer)) (map holding_of b.knows.parts) i _ (at_map holding_of b.knows.parts i p e))

  seated_mine : IsSeated old f → IsSeated new (after answer f)
  seated_mine s =
      let at : s.board ≡ b = same_Some _ _ (sym s.there ∙ there) in
      let q = part_now s.index s.part (ap (λ (x : BoardSeat). get_elem? x.knows.parts s.index) (sym at) ∙ s.carried) in
      let is : holding_of q.0 ≡ (s.part.slot, s.part.joined, s.part.taken ++ items_of answer) = q.2 ∙ (λ i. cond (eq-eqb s.part.slot f.slot s.slot_is i) (s.part.slot, s.part.joined, s.part.taken ++ items_of answer) (holding_of s.part)) in
      let long = length-append s.part.taken (items_of answer) in
      let l = ap (λ (x : Holding). length x.2) is in
      let t = s.taken_is in
      record {
        board = c;
        there = swapped_here old new f.board b c there new-is f.board refl;
        at = same_index old new f.board b c there new-is f.board ∙ s.at;
        index = s.index;
        part = q.0;
        carried = q.1;
        slot_is = ap (λ (x : Holding). x.0) is ∙ s.slot_is;
        joined_is = ap (λ (x : Holding). x.1) is ∙ s.joined_is;
        taken_is = omega arith;
      }

  seated_other : (g : Seated) → IsSeated old g → (f.board ≡ g.board → g.slot ≢ f.slot) → IsSeated new g
  seated_other g s far = seated_still old new f.board b c there new-is g s (λ same e.
      let q = part_now s.index s.part e in
      (s.index, q.0, q.1, q.2 ∙ (λ i. cond (ne_eqb s.part.slot f.slot (λ z. far same (sym s.slot_is ∙ z)) i) (s.part.slot, s.part.joined, s.part.taken ++ items_of answer) (holding_of s.part))))

  carried_mine : (k : ℕ) (n : Note) → get_elem? c.knows.notes k ≡ some n → n ≢ Vacant → Carries c.knows k
  carried_mine k n e ne =
      let d = live.carried f.board b there k n (ap (λ (l : List Note). get_elem? l k) (sym took.notes) ∙ e) ne in
      let q = part_now d.0 d.1 d.2 in
      let kept : (with_items f.slot (items_of answer) (holding_of d.1)).0 ≡ d.1.slot = pick (λ (x : Holding). x.0 ≡ d.1.slot) (eqb d.1.slot f.slot) (d.1.slot, d.1.joined, d.1.taken ++ items_of answer) (holding_of d.1) (λ _. refl) (λ _. refl) in
      (d.0, q.0, q.1, ap (λ (x : Holding). x.0) q.2 ∙ kept ∙ d.3)

  same_count : (q : List ℕ) → count_by (λ e. same_name q e.1.board) fs' ≡ count_by (λ e. same_name q e.1.board) fs
  same_count q = count_shown q fs' ∙ ap (count_by (λ e. same_name q e.1)) (ap (shown (λ (g : Seated). g.board)) fs-is ∙ set_value-map (nat_eq who) (λ (g : Seated). g.board) fs f (after answer f) mine refl) ∙ sym (count_shown q fs)
    where
      count_shown : (q : List ℕ) (l : List (ℕ × Seated)) → count_by (λ e. same_name q e.1.board) l ≡ count_by (λ e. same_name q e.1) (shown (λ (g : Seated). g.board) l)
      count_shown q l = fold_shown (λ a e. a + cond (same_name q e.1) 1 0) 0 l

  counts_all : Each (λ q v. count_by (λ e. same_name q e.1.board) fs' + total vacancy v.notes ≡ limits.followers) new
  counts_all = each_turned old new f.board b c there new-is (λ q v. count_by (λ e. same_name q e.1.board) fs + total vacancy v.notes ≡ limits.followers) (λ q v. count_by (λ e. same_name q e.1.board) fs' + total vacancy v.notes ≡ limits.followers) live.counted
      (λ q same h. (λ i. same_count q i + total vacancy (took.notes i)) ∙ h)
      (λ q v ne h. ap (λ (n : ℕ). n + total vacancy v.notes) (same_count q) ∙ h)

  pub lives : IsLive limits new fs'
  lives =
      let w = written (nat_eq who) fs f (after answer f) mine in
      let at : (i : ℕ) (e : ℕ × Seated) → get_elem? fs' i ≡ some e → ((i ≡ w.0) × (e ≡ (w.1, after answer f))) ⊎ ((i ≢ w.0) × (get_elem? fs i ≡ some e)) = λ i e d. w.3 i e (ap (λ l. get_elem? l i) (sym fs-is) ∙ d) in
      -- the entry that was there
      let was : (i : ℕ) (e : ℕ × Seated) → get_elem? fs' i ≡ some e → (d : ℕ × Seated) × (get_elem? fs i ≡ some d) × (d.1.board ≡ e.1.board) × (d.1.slot ≡ e.1.slot) = λ i e d.
      ⊎_elim (λ (x : (i ≡ w.0) × (e ≡ (w.1, after answer f))). ((w.1, f), ap (get_elem? fs) x.0 ∙ w.2, ap (λ (y : ℕ × Seated). y.1.board) (sym x.1), ap (λ (y : ℕ × Seated). y.1.slot) (sym x.1)))
      (λ (x : (i ≢ w.0) × (get_elem? fs i ≡ some e)). (e, x.1, refl, refl)) (at i e d) in
      record {
        kept = keeps (held_by limits old fs) (held_by limits new fs') (Take who) (Answered answer) live.kept refl goes;
        setups = each_on old new f.board b c there new-is (λ q v. v.setup ≡ setup_of v.setup.start limits) live.setups
            (λ q same h. setup ∙ h ∙ ap (λ (z : BoardSetup). setup_of z.start limits) (sym setup));
        owns = each_on old new f.board b c there new-is (λ q v. v.owns ≡ true) live.owns (λ q same h. took.owns ∙ h);
        sound = each_on old new f.board b c there new-is (λ q v. IsSound v) live.sound (λ q same h. ok');
        seated = λ i e d. ⊎_elim
            (λ (x : (i ≡ w.0) × (e ≡ (w.1, after answer f))). subst (λ (y : ℕ × Seated). IsSeated new y.1) (sym x.1) (seated_mine (live.seated w.0 (w.1, f) w.2)))
            (λ (x : (i ≢ w.0) × (get_elem? fs i ≡ some e)). seated_other e.1 (live.seated i e x.1) (λ same slot. x.0 (live.apart i w.0 e (w.1, f) x.1 w.2 (sym same) slot)))
            (at i e d);
        apart = λ i j e d x y same slot. let p = was i e x in let q = was j d y in live.apart i j p.0 q.0 p.1 q.1 (p.2 ∙ same ∙ sym q.2) (p.3 ∙ slot ∙ sym q.3);
        carried = each_on old new f.board b c there new-is (λ q v. (k : ℕ) (n : Note) → get_elem? v.notes k ≡ some n → n ≢ Vacant → Carries v k) live.carried (λ q same h. carried_mine);
        counted = counts_all;
      }

-- ---- What a take of the program shows.

pub no_items : (a : Taken) → ((place : ℕ) (m : Triple) → a ≡ Move place m → ⊥) → items_of a ≡ []
no_items (Move place m) ne = absurd (ne place m refl)
no_items Nothing ne = refl
no_items (Over o) ne = refl
no_items Cut ne = refl

pub some_due : (next place : ℕ) (m : Triple) (x : Option Outcome) (o : Option ℕ) (q : List Triple) → Move place m ≡ taken_of next x o q → 0 < length q
some_due next place m x o (y ∷ ys) e = omega arith
some_due next place m x (Some c) [] e = cc
some_due next place m (Some x) None [] e = cc
some_due next place m None None [] e = cc

pub same_after : (a : Taken) (f : Seated) → items_of a ≡ [] → after a f ≡ f
same_after a f none = let t : f.taken + length (items_of a) ≡ f.taken = let x = ap length none in omega arith in
    λ i. record { board = f.board; index = f.index; slot = f.slot; joined = f.joined; taken = t i }

pub due_is : (k : ℕ) (boards : Boards) (f : Seated) (b : BoardSeat) → lookup (same_name f.board) boards ≡ Some b → (held_at k boards f).queue ≡ due_at b.knows f.slot (f.joined + f.taken)
due_is k boards f b there = ap (λ o. (held_in k (view_in o) f).queue) there

pub counted : (who : ℕ) (entry : Option (ℕ × Seated)) (fs fs' : List (ℕ × Seated)) (f : Seated) (a : Taken) (place : ℕ) (m : Triple) → entry ≡ Some (who, f) → a ≡ Move place m
    → IfSome entry (λ e. fs' ≡ set_value (nat_eq e.0) fs (with_one_more e.1)) → fs' ≡ set_value (nat_eq who) fs (after a f)
counted who entry fs fs' f a place m mine is told =
    subst (λ (o : Option (ℕ × Seated)). IfSome o (λ e. fs' ≡ set_value (nat_eq e.0) fs (with_one_more e.1))) mine told
    ∙ ap (λ (x : Taken). set_value (nat_eq who) fs (after x f)) (sym is)

pub uncounted : (who : ℕ) (fs : List (ℕ × Seated)) (f : Seated) (a : Taken) → lookup (nat_eq who) fs ≡ Some f → ((place : ℕ) (m : Triple) → a ≡ Move place m → ⊥) → fs ≡ set_value (nat_eq who) fs (after a f)
uncounted who fs f a mine ne =
    sym (set_value_same (nat_eq who) fs f mine) ∙ ap (set_value (nat_eq who) fs) (sym (same_after a f (no_items a ne)))
