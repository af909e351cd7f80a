-- A leave on a live relay.
use Rattle.std.proofs.Common.{◌≡◌, ◌≢◌, ◌+◌, ◌-◌, ◌<◌, ℕ, nat_eq, set, Bool, true, false, List, map, length, Some, None, option_map, sym, refl, ap, ◌∙◌, subst, cond, arith}
use Rattle.std.proofs.lemmas.Option.{same_Some, none-some}
use Rattle.std.specs.Map.{lookup, set_value, remove_entry}
use mathlib.Core.Option.{some, some-injective}
use mathlib.Core.Logic.{dite}
use native.Mathlib.Decide.{ℕ_discrete}
use lib.ListN.{get_elem?}
use Rattle.atomic_table.proofs.Lists.{at_map}
use Rattle.c960_game.specs.Limits.{LimitNumbers}
use Rattle.c960_game.specs.GameRecord.{GameRecord}
use Rattle.relay_core.specs.declared.reply.Account.{Account}
use Rattle.relay_core.specs.declared.step.Step.TheVariants.{Leave}
use Rattle.relay_core.specs.declared.reply.Reply.TheVariants.{Left}
use Rattle.relay_core.specs.BoardAnswers.{length_at}
use Rattle.relay_core.specs.Held.Followers.{account_of}
use Rattle.relay_core.specs.Name.{same_name}
use Rattle.relay_core.proofs.lemmas.Leaves.{leave_goes}
use Rattle.relay_core.proofs.lemmas.Lists.{lookup-map, remove-map}
use Rattle.relay_core.proofs.lemmas.Names.{is_same_name}
use Rattle.relay_core.specs.Held.Stands.{Goes}
use Rattle.relay_core.proofs.lemmas.Standing.{keeps}
use Rattle.live_board.specs.declared.note.Note.{Note}
use Rattle.live_board.specs.declared.note.Note.TheVariants.{Vacant, Open, Closed}
use Rattle.live_board.specs.declared.view.Part.{Part}
use Rattle.live_board.specs.declared.view.View.{View}
use Rattle.live_board.specs.Shows.{total}
use Rattle.live_board.specs.Sound.{IsSound, IsSoundBoard, Agrees}
use Rattle.live_board.specs.Views.{each_part, left_at, sees}
use Rattle.live_board.proofs.lemmas.Notes.{note_there, at_within, at_other, at_place}
use Rattle.live_board.proofs.lemmas.Totals.{total-set}
use Rattle.live_board.specs.Board.{game_of, setup_of}
use Rattle.live_board.specs.Carried.{Carries, closing_found, closing_at}
use Rattle.live_board.specs.Meeting.{closing_noted}
use Rattle.live_board.specs.Seats.{BoardSeat}
use Rattle.relay_live.specs.declared.seated.Seated.{Seated}
use Rattle.relay_live.specs.Live.{Boards, held_at, held_in, view_in, held_by, game, games, holders, IsSeated, IsLive, vacancy}
use Rattle.relay_live.proofs.Entries.{crowd, one_if_true, crowd_removed, removed, taken, up, up_apart, up_one, without_keeps}
use Rattle.relay_live.proofs.Swaps.{Each, each_on, each_turned, flipped, held_still, holders_on, same_games, seated_still, sound_board}

-- a closing is a length of the log, so it fits in 16 bits
pub closing_low : (v : View) (slot i : ℕ) (p : Part) (c : ℕ) → IsSoundBoard v → get_elem? v.parts i ≡ some p → p.slot ≡ slot → closing_at v slot ≡ Some c → c < 65536
closing_low v slot i p c ok carried at cut =
    let inside = (ok.inside i p carried).0 in
    let n = note_there v.notes slot (omega (arith, inside, at, ok.noted)) in
    by n.0 (ok.agree i p carried n.0 (ap (get_elem? v.notes) at ∙ n.1)) (sym (ap closing_found n.1) ∙ cut)
  where
    by : (n : Note) → Agrees v n p → closing_noted n ≡ Some c → c < 65536
    by Vacant agrees e = absurd agrees
    by (Open joined least) agrees e = absurd (none-some c e)
    by (Closed d) agrees e =
        let same = same_Some d c e in
        let within = agrees.1 in
        let room = ok.room in
        let most = ok.limits.most_plies in
        omega (arith, same, within, room, most)

module _ (limits : LimitNumbers) (old new : Boards) (fs fs' : List (ℕ × Seated)) (who : ℕ) (f : Seated) (live : IsLive limits old fs) (mine : lookup (nat_eq who) fs ≡ Some f)
    (b c : BoardSeat) (there : lookup (same_name f.board) old ≡ Some b) (status cursor : ℕ) (left : c.knows ≡ left_at (f.slot + 2) cursor (each_part (sees status) b.knows)) (sound' : IsSound c.knows)
    (new-is : new ≡ set_value (same_name f.board) old c) (fs-is : fs' ≡ remove_entry (nat_eq who) fs) (gone : (q : ℕ) → lookup (nat_eq q) fs' ≡ cond (nat_eq who q) None (lookup (nat_eq q) fs)) where
  ok : IsSoundBoard b.knows
  ok = sound_board limits old fs live f.board b there

  notes_other : (k : ℕ) → k ≢ f.slot → get_elem? c.knows.notes k ≡ get_elem? b.knows.notes k
  notes_other k ne = ap (λ (x : View). get_elem? x.notes k) left ∙ at_other b.knows.notes f.slot k Vacant ne

  abbrev pub apart_from : Seated → Type 0
  apart_from g = f.board ≡ g.board → g.slot ≢ f.slot

  held_other : (g : Seated) → apart_from g → held_at limits.capacity new g ≡ held_at limits.capacity old g
  held_other g far = held_still old new f.board b c there new-is limits.capacity g (ap (λ (x : View). x.log) left) (λ same. notes_other g.slot (far same))

  -- which entry is left, and where it was
  stays : (i : ℕ) (e : ℕ × Seated) → get_elem? fs' i ≡ some e → get_elem? fs (up (removed (nat_eq who) fs f mine).0 i) ≡ some e
  stays i e d = (removed (nat_eq who) fs f mine).3 i e (ap (λ l. get_elem? l i) (sym fs-is) ∙ d)

  far_away : (i : ℕ) (e : ℕ × Seated) → get_elem? fs' i ≡ some e → apart_from e.1
  far_away i e d same slot =
      let m = removed (nat_eq who) fs f mine in
      up_apart m.0 i (live.apart (up m.0 i) m.0 e (m.1, f) (stays i e d) m.2 (sym same) slot)

  kept_holders : holders limits.capacity new fs' ≡ holders limits.capacity old fs'
  kept_holders = holders_on limits.capacity old new fs' (λ i e d. held_other e.1 (far_away i e d))

  holders-are : holders limits.capacity new fs' ≡ remove_entry (nat_eq who) (holders limits.capacity old fs)
  holders-are = kept_holders ∙ ap (holders limits.capacity old) fs-is ∙ remove-map (nat_eq who) (held_at limits.capacity old) fs

  updates : (q : ℕ) → lookup (nat_eq q) (holders limits.capacity new fs') ≡ cond (nat_eq who q) None (lookup (nat_eq q) (holders limits.capacity old fs))
  updates q =
      ap (lookup (nat_eq q)) kept_holders ∙ lookup-map (nat_eq q) (held_at limits.capacity old) fs' ∙ ap (option_map (held_at limits.capacity old)) (gone q) ∙ by (nat_eq who q)
      ∙ ap (cond (nat_eq who q) None) (sym (lookup-map (nat_eq q) (held_at limits.capacity old) fs))
    where
      by : (t : Bool) → option_map (held_at limits.capacity old) (cond t None (lookup (nat_eq q) fs)) ≡ cond t None (option_map (held_at limits.capacity old) (lookup (nat_eq q) fs))
      by true = refl
      by false = refl

  -- the account that is returned
  abbrev pub told : Account
  told = account_of (length b.knows.log) (held_in limits.capacity b.knows f)

  pub goes : Goes (held_by limits old fs) (held_by limits new fs') (Leave who) (Left told)
  goes =
      let found : Some (held_at limits.capacity old f) ≡ lookup (nat_eq who) (holders limits.capacity old fs) =
      sym (lookup-map (nat_eq who) (held_at limits.capacity old) fs ∙ ap (option_map (held_at limits.capacity old)) mine) in
      let long : length_at (lookup (same_name f.board) (games old)) ≡ length b.knows.log = ap length_at (lookup-map (same_name f.board) game old ∙ ap (option_map game) there) in
      let held : held_at limits.capacity old f ≡ held_in limits.capacity b.knows f = ap (λ o. held_in limits.capacity (view_in o) f) there in
      subst (λ (x : List (List ℕ × GameRecord) × Account). Goes (held_by limits old fs) record { limits = limits; boards = x.0; followers = holders limits.capacity new fs' } (Leave who) (Left x.1))
      (λ i. (sym (same_games old new f.board b c there new-is (ap game_of left)) i, account_of (long i) (held i)))
      (leave_goes (held_by limits old fs) (holders limits.capacity new fs') who (held_at limits.capacity old f) found updates holders-are)

  -- ---- What is kept.

  owns' : c.knows.owns ≡ true
  owns' = ap (λ (x : View). x.owns) left ∙ live.owns f.board b there

  setup' : c.knows.setup ≡ b.knows.setup
  setup' = ap (λ (x : View). x.setup) left

  keeps_part : (i : ℕ) (p : Part) → get_elem? b.knows.parts i ≡ some p → p.slot ≢ f.slot → (j : ℕ) × (get_elem? c.knows.parts j ≡ some (sees status p))
  keeps_part i p e ne =
      let m = without_keeps (f.slot + 2) (map (sees status) b.knows.parts) i (sees status p) (at_map (sees status) b.knows.parts i p e) (λ z. ne (omega arith)) in
      (m.0, ap (λ (x : View). get_elem? x.parts m.0) left ∙ m.1)

  seated_on : (g : Seated) → IsSeated old g → apart_from g → IsSeated new g
  seated_on g s far = seated_still old new f.board b c there new-is g s
      (λ same e. let m = keeps_part s.index s.part e (λ z. far same (sym s.slot_is ∙ z)) in (m.0, sees status s.part, m.1, refl))

  mine_seated : IsSeated old f
  mine_seated = let m = removed (nat_eq who) fs f mine in live.seated m.0 (m.1, f) m.2

  -- the note of the slot that is given back
  given_back : (n : Note) × (get_elem? b.knows.notes f.slot ≡ some n) × (n ≢ Vacant)
  given_back =
      let s = mine_seated in
      let is : s.board ≡ b = same_Some _ _ (sym s.there ∙ there) in
      let e : get_elem? b.knows.parts s.index ≡ some s.part = ap (λ (x : BoardSeat). get_elem? x.knows.parts s.index) (sym is) ∙ s.carried in
      let inside = (ok.inside s.index s.part e).0 in
      let at = s.slot_is in
      let n = note_there b.knows.notes f.slot (omega (arith, inside, at, ok.noted)) in
      (n.0, n.1, λ z. ok.agree s.index s.part e Vacant (ap (get_elem? b.knows.notes) at ∙ n.1 ∙ ap some z))

  low : f.slot < length b.knows.notes
  low = at_within b.knows.notes f.slot given_back.0 given_back.1

  carried_on : (k : ℕ) (n : Note) → get_elem? c.knows.notes k ≡ some n → n ≢ Vacant → Carries c.knows k
  carried_on k n e ne = dite (ℕ_discrete k f.slot)
      (λ (at : k ≡ f.slot). absurd (ne (some-injective _ _ (sym e ∙ ap (get_elem? c.knows.notes) at ∙ ap (λ (x : View). get_elem? x.notes f.slot) left ∙ at_place b.knows.notes f.slot Vacant low))))
      (λ far.
      let d = live.carried f.board b there k n (sym (notes_other k far) ∙ e) ne in
      let m = keeps_part d.0 d.1 d.2 (λ z. far (sym d.3 ∙ z)) in
      (m.0, sees status d.1, m.1, d.3))

  one_more : total vacancy c.knows.notes ≡ total vacancy b.knows.notes + 1
  one_more =
      let put = total-set vacancy b.knows.notes f.slot given_back.0 Vacant given_back.1 in
      let none = taken given_back.0 given_back.2 in
      let at : f.slot + 2 - 2 ≡ f.slot = omega arith in
      let is : total vacancy c.knows.notes ≡ total vacancy (set b.knows.notes f.slot Vacant) =
      ap (λ (x : View). total vacancy x.notes) left ∙ ap (λ (k : ℕ). total vacancy (set b.knows.notes k Vacant)) at in
      omega (arith, put, none, is)

  fewer : (q : List ℕ) → crowd q fs' + cond (same_name q f.board) 1 0 ≡ crowd q fs
  fewer q = ap (λ (l : List (ℕ × Seated)). crowd q l + one_if_true (same_name q f.board)) fs-is ∙ crowd_removed q (nat_eq who) fs f mine

  counted_on : Each (λ q v. crowd q fs' + total vacancy v.notes ≡ limits.followers) new
  counted_on = each_turned old new f.board b c there new-is (λ q v. crowd q fs + total vacancy v.notes ≡ limits.followers) (λ q v. crowd q fs' + total vacancy v.notes ≡ limits.followers) live.counted
      (λ q same h. let one = ap one_if_true (is_same_name q f.board (sym same)) in let n = fewer q in let more = one_more in omega (arith, h, one, n, more))
      (λ q v ne h. let none = ap one_if_true (flipped f.board q false ne) in let n = fewer q in omega (arith, h, none, n))

  pub lives : IsLive limits new fs'
  lives = record {
    kept = keeps (held_by limits old fs) (held_by limits new fs') (Leave who) (Left told) live.kept refl goes;
    setups = each_on old new f.board b c there new-is (λ q v. v.setup ≡ setup_of v.setup.start limits) live.setups (λ q same h. subst (λ z. z ≡ setup_of z.start limits) (sym setup') h);
    owns = each_on old new f.board b c there new-is (λ q v. v.owns ≡ true) live.owns (λ q same h. owns');
    sound = each_on old new f.board b c there new-is (λ q v. IsSound v) live.sound (λ q same h. sound');
    seated = λ i e d. seated_on e.1 (live.seated (up (removed (nat_eq who) fs f mine).0 i) e (stays i e d)) (far_away i e d);
    apart = λ i j e d x y same slot. up_one (removed (nat_eq who) fs f mine).0 i j (live.apart _ _ e d (stays i e x) (stays j d y) same slot);
    carried = each_on old new f.board b c there new-is (λ q v. (k : ℕ) (n : Note) → get_elem? v.notes k ≡ some n → n ≢ Vacant → Carries v k) live.carried (λ q same h. carried_on);
    counted = counted_on;
  }
