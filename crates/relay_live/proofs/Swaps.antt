-- One board of the map has changed: what is at each name, who sits there, and what the record shows.
use Rattle.std.proofs.Common.{◌≡◌, ◌+◌, ℕ, suc, Bool, true, false, List, [], ◌∷◌, length, position, drop, take, unwrap_or, Some, option_map, sym, refl, ap, ◌∙◌, subst, cond}
use Rattle.std.proofs.lemmas.List.{length-map}
use Rattle.std.proofs.lemmas.Map.{keys-set_value, length-set_value}
use Rattle.std.proofs.lemmas.Option.{same_Some}
use Rattle.std.specs.Map.{keys_of, lookup, set_value}
use mathlib.Core.Option.{some}
use lib.ListN.{get_elem?}
use Rattle.c960_game.specs.GameRecord.{GameRecord}
use Rattle.c960_game.specs.Limits.{LimitNumbers}
use Rattle.relay_core.specs.Name.{same_name}
use Rattle.relay_core.proofs.lemmas.Lists.{lookup-map, set_value-map}
use Rattle.relay_core.proofs.lemmas.Names.{same_name_is, is_same_name}
use Rattle.live_board.specs.declared.view.Part.{Part}
use Rattle.live_board.specs.declared.view.View.{View}
use Rattle.live_board.specs.Carried.{Holding, closing_found, holding_of}
use Rattle.live_board.specs.Seats.{BoardSeat}
use Rattle.live_board.specs.Sound.{IsSoundBoard}
use Rattle.relay_live.specs.declared.seated.Seated.{Seated}
use Rattle.relay_live.specs.Live.{Boards, held_at, held_in, view_in, game, games, holders, IsSeated, IsLive}
use Rattle.relay_live.proofs.Maps.{seek_same, seek_other}

-- two names compare equal either way round
pub flipped : (a b : List ℕ) (t : Bool) → same_name a b ≡ t → same_name b a ≡ t
flipped a b true at = is_same_name b a (sym (same_name_is a b at))
flipped a b false at = back (same_name b a) refl
  where
    back : (t : Bool) → same_name b a ≡ t → t ≡ false
    back false z = refl
    back true z = sym (is_same_name a b (sym (same_name_is b a z))) ∙ at

-- what is true of each board's view, for the board's name
abbrev pub Each : (List ℕ → View → Type 0) → Boards → Type 0
Each P boards = (q : List ℕ) (x : BoardSeat) → lookup (same_name q) boards ≡ Some x → P q x.knows

-- the view of each board is sound, as its table's owner has it
pub sound_board : (limits : LimitNumbers) (boards : Boards) (fs : List (ℕ × Seated)) → IsLive limits boards fs → (name : List ℕ) (b : BoardSeat) → lookup (same_name name) boards ≡ Some b → IsSoundBoard b.knows
sound_board limits boards fs live name b there = (live.sound name b there).board (live.owns name b there)

-- if each follower shows the same, all do
pub holders_on : (capacity : ℕ) (old new : Boards) (l : List (ℕ × Seated)) → ((i : ℕ) (e : ℕ × Seated) → get_elem? l i ≡ some e → held_at capacity new e.1 ≡ held_at capacity old e.1) → holders capacity new l ≡ holders capacity old l
holders_on capacity old new [] all = refl
holders_on capacity old new (x ∷ xs) all = λ i. (x.0, all 0 x refl i) ∷ holders_on capacity old new xs (λ k e d. all (suc k) e d) i

module _ (old new : Boards) (name : List ℕ) (b c : BoardSeat) (there : lookup (same_name name) old ≡ Some b) (new-is : new ≡ set_value (same_name name) old c) where
  -- ---- What is at a name.

  pub swapped_elsewhere : (q : List ℕ) → same_name name q ≡ false → lookup (same_name q) new ≡ lookup (same_name q) old
  swapped_elsewhere q ne = ap (lookup (same_name q)) new-is ∙ seek_other same_name same_name_is is_same_name name q old c ne

  pub swapped_before : (q : List ℕ) → name ≡ q → lookup (same_name q) old ≡ Some b
  swapped_before q same = ap (λ (x : List ℕ). lookup (same_name x) old) (sym same) ∙ there

  pub swapped_here : (q : List ℕ) → name ≡ q → lookup (same_name q) new ≡ Some c
  swapped_here q same =
      ap (λ (x : List ℕ). lookup (same_name x) new) (sym same) ∙ ap (lookup (same_name name)) new-is
      ∙ seek_same same_name same_name_is is_same_name name old b c there

  -- every board keeps its index
  pub same_index : (q : List ℕ) → position (same_name q) (keys_of new) ≡ position (same_name q) (keys_of old)
  same_index q = ap (position (same_name q)) (ap keys_of new-is ∙ keys-set_value (same_name name) old c)

  -- what is true of each board now, from what was true of it and what has happened to the changed one
  pub each_turned : (P Q : List ℕ → View → Type 0) → Each P old → ((q : List ℕ) → name ≡ q → P q b.knows → Q q c.knows) → ((q : List ℕ) (v : View) → same_name name q ≡ false → P q v → Q q v) → Each Q new
  each_turned P Q was mine others q x e = by (same_name name q) refl
    where
      by : (t : Bool) → same_name name q ≡ t → Q q x.knows
      by true d =
          let same = same_name_is name q d in
          subst (λ (y : BoardSeat). Q q y.knows) (same_Some c x (sym (swapped_here q same) ∙ e)) (mine q same (was q b (swapped_before q same)))
      by false d = others q x.knows d (was q x (sym (swapped_elsewhere q d) ∙ e))

  pub each_on : (P : List ℕ → View → Type 0) → Each P old → ((q : List ℕ) → name ≡ q → P q b.knows → P q c.knows) → Each P new
  each_on P was mine = each_turned P P was mine (λ q v ne h. h)

  -- ---- Who sits at a board.

  -- a follower that sat at the board still does, if a part with the same slot, joining place and list is carried there now
  pub seated_still : (g : Seated) (s : IsSeated old g) → (name ≡ g.board → get_elem? b.knows.parts s.index ≡ some s.part → (j : ℕ) × (q : Part) × (get_elem? c.knows.parts j ≡ some q) × (holding_of q ≡ holding_of s.part)) → IsSeated new g
  seated_still g s carried = by (same_name name g.board) refl
    where
      by : (t : Bool) → same_name name g.board ≡ t → IsSeated new g
      by false e = record { board = s.board; there = swapped_elsewhere g.board e ∙ s.there; at = same_index g.board ∙ s.at; index = s.index; part = s.part; carried = s.carried; slot_is = s.slot_is; joined_is = s.joined_is; taken_is = s.taken_is }
      by true e =
          let same = same_name_is name g.board e in
          let is : s.board ≡ b = same_Some _ _ (sym s.there ∙ swapped_before g.board same) in
          let m = carried same (ap (λ (x : BoardSeat). get_elem? x.knows.parts s.index) (sym is) ∙ s.carried) in
          record {
            board = c;
            there = swapped_here g.board same;
            at = same_index g.board ∙ s.at;
            index = m.0;
            part = m.1;
            carried = m.2;
            slot_is = ap (λ (x : Holding). x.0) m.3 ∙ s.slot_is;
            joined_is = ap (λ (x : Holding). x.1) m.3 ∙ s.joined_is;
            taken_is = ap (λ (x : Holding). length x.2) m.3 ∙ s.taken_is;
          }

  -- a follower shows the same if the board's log and the note of its slot are as they were
  pub held_still : (capacity : ℕ) (g : Seated) → c.knows.log ≡ b.knows.log → (name ≡ g.board → get_elem? c.knows.notes g.slot ≡ get_elem? b.knows.notes g.slot) → held_at capacity new g ≡ held_at capacity old g
  held_still capacity g log noted = by (same_name name g.board) refl
    where
      by : (t : Bool) → same_name name g.board ≡ t → held_at capacity new g ≡ held_at capacity old g
      by false e = ap (λ o. held_in capacity (view_in o) g) (swapped_elsewhere g.board e)
      by true e =
          let same = same_name_is name g.board e in
          let note = noted same in
          ap (λ o. held_in capacity (view_in o) g) (swapped_here g.board same)
          ∙ (λ i. record {
            board = g.board;
            joined = g.joined;
            taken = g.taken;
            cut = closing_found (note i);
            queue = drop (g.joined + g.taken) (take (unwrap_or (closing_found (note i)) (length (log i))) (log i));
            capacity = capacity;
          })
          ∙ ap (λ o. held_in capacity (view_in o) g) (sym (swapped_before g.board same))

  -- ---- The games.

  pub same_games : game c ≡ game b → games new ≡ games old
  same_games same = ap games new-is ∙ set_value-map (same_name name) game old b c there same

  pub games_changed : (change : GameRecord → GameRecord) → game c ≡ change (game b) → (q : List ℕ) → lookup (same_name q) (games new) ≡ cond (same_name name q) (option_map change (lookup (same_name name) (games old))) (lookup (same_name q) (games old))
  games_changed change is q = lookup-map (same_name q) game new ∙ by (same_name name q) refl
    where
      by : (t : Bool) → same_name name q ≡ t → option_map game (lookup (same_name q) new) ≡ cond t (option_map change (lookup (same_name name) (games old))) (lookup (same_name q) (games old))
      by true e =
          ap (option_map game) (swapped_here q (same_name_is name q e)) ∙ ap (λ (g : GameRecord). Some g) is
          ∙ sym (ap (option_map change) (lookup-map (same_name name) game old ∙ ap (option_map game) there))
      by false e = ap (option_map game) (swapped_elsewhere q e) ∙ sym (lookup-map (same_name q) game old)

  pub boards_counted : length new ≡ length old
  boards_counted = ap length new-is ∙ length-set_value (same_name name) old c

  pub games_counted : length (games new) ≡ length (games old)
  games_counted = length-map new (λ e. (e.0, game e.1)) ∙ boards_counted ∙ sym (length-map old (λ e. (e.0, game e.1)))
