-- An open on a live relay.
use Rattle.std.proofs.Common.{◌≡◌, ◌≢◌, ◌+◌, ℕ, is_some, Bool, true, false, List, [], ◌∷◌, ◌++◌, length, position, Option, Some, None, option_map, Ok, sym, refl, ap, ◌∙◌, subst, cond, arith}
use Rattle.std.specs.Prelude.{count_by}
use Rattle.std.proofs.lemmas.List.{length-map}
use Rattle.std.proofs.lemmas.Option.{same_Some, none-some}
use Rattle.std.specs.Map.{keys_of, lookup}
use mathlib.Core.Option.{some}
use lib.ListN.{get_elem?}
use Rattle.c960_game.specs.Limits.{LimitNumbers}
use Rattle.relay_core.specs.declared.step.Step.TheVariants.{Open}
use Rattle.relay_core.specs.declared.reply.Reply.TheVariants.{Opened}
use Rattle.relay_core.specs.Held.{HeldFollower}
use Rattle.relay_core.specs.Name.{same_name}
use Rattle.relay_core.specs.Held.Stands.{Goes}
use Rattle.relay_core.specs.Refusals.{first_refusal, open_grounds}
use Rattle.relay_core.proofs.lemmas.Opened.{open_goes}
use Rattle.relay_core.proofs.lemmas.Lists.{lookup-map, lookup-push, first_some, shown-push}
use Rattle.relay_core.proofs.lemmas.Names.{same_name_is}
use Rattle.relay_core.proofs.lemmas.Standing.{keeps}
use Rattle.live_board.specs.declared.note.Note.{Note}
use Rattle.live_board.specs.declared.note.Note.TheVariants.{Vacant}
use Rattle.live_board.specs.declared.view.View.{View}
use Rattle.live_board.specs.Shows.{total}
use Rattle.live_board.specs.Sound.{IsSound}
use Rattle.live_board.specs.Views.{starting}
use Rattle.live_board.specs.Board.{game_of, setup_of}
use Rattle.live_board.specs.Carried.{Carries}
use Rattle.live_board.specs.Seats.{BoardSeat}
use Rattle.relay_live.specs.declared.seated.Seated.{Seated}
use Rattle.relay_live.specs.Live.{Boards, held_at, held_in, view_in, held_by, game, games, holders, IsSeated, IsLive, vacancy}
use Rattle.relay_live.proofs.Entries.{at_replicate, all_vacant, crowd_none}
use Rattle.relay_live.proofs.Maps.{index_pushed}
use Rattle.relay_live.proofs.Swaps.{holders_on}

-- ---- The grounds according to what the relay keeps are those of its record.

module _ (limits : LimitNumbers) (boards : Boards) (fs : List (ℕ × Seated)) (name : List ℕ) (start : ℕ) where
  counted_games : length (games boards) ≡ length boards
  counted_games = length-map boards (λ e. (e.0, game e.1))

  seen : is_some (lookup (same_name name) (games boards)) ≡ is_some (lookup (same_name name) boards)
  seen = ap is_some (lookup-map (same_name name) game boards) ∙ by (lookup (same_name name) boards)
    where
      by : (o : Option BoardSeat) → is_some (option_map game o) ≡ is_some o
      by None = refl
      by (Some x) = refl

  pub told : first_refusal (open_grounds (is_some (lookup (same_name name) boards)) start (length boards) limits.boards)
      ≡ first_refusal (open_grounds (is_some (lookup (same_name name) (games boards))) start (length (games boards)) limits.boards)
  told = λ i. first_refusal (open_grounds (sym seen i) start (sym counted_games i) limits.boards)

-- ---- An open that is accepted.

module _ (limits : LimitNumbers) (old new : Boards) (fs : List (ℕ × Seated)) (name : List ℕ) (start : ℕ) (live : IsLive limits old fs)
    (b : BoardSeat) (u : Unit {0}) (fine : Ok u ≡ first_refusal (open_grounds (is_some (lookup (same_name name) old)) start (length old) limits.boards)) (is : b.knows ≡ starting (setup_of start limits)) (sound : IsSound b.knows) (new-is : new ≡ old ++ (name, b) ∷ []) where
  found : (q : List ℕ) → lookup (same_name q) new ≡ first_some (lookup (same_name q) old) (cond (same_name q name) (Some b) None)
  found q = ap (lookup (same_name q)) new-is ∙ lookup-push (same_name q) old name b

  -- what is at a board of the name q
  at_name : (P : List ℕ → BoardSeat → Type 0) → ((q : List ℕ) → lookup (same_name q) old ≡ None → P q b) → ((q : List ℕ) (x : BoardSeat) → lookup (same_name q) old ≡ Some x → P q x) → (q : List ℕ) (x : BoardSeat) → lookup (same_name q) new ≡ Some x → P q x
  at_name P mine others q x e = by (lookup (same_name q) old) refl (same_name q name) (sym (found q) ∙ e)
    where
      by : (o : Option BoardSeat) → lookup (same_name q) old ≡ o → (t : Bool) → first_some o (cond t (Some b) None) ≡ Some x → P q x
      by (Some y) was t e = subst (P q) (same_Some y x e) (others q y was)
      by None was true e = subst (P q) (same_Some b x e) (mine q was)
      by None was false e = absurd (none-some x e)

  still : (q : List ℕ) (x : BoardSeat) → lookup (same_name q) old ≡ Some x → lookup (same_name q) new ≡ Some x
  still q x e = found q ∙ ap (λ o. first_some o (cond (same_name q name) (Some b) None)) e

  -- every board keeps its index
  same_index : (q : List ℕ) (i : ℕ) → position (same_name q) (keys_of old) ≡ Some i → position (same_name q) (keys_of new) ≡ Some i
  same_index q i at = ap (λ (l : Boards). position (same_name q) (keys_of l)) new-is ∙ index_pushed (same_name q) old name b i at

  seated_on : (f : Seated) → IsSeated old f → IsSeated new f
  seated_on f s = record { board = s.board; there = still f.board s.board s.there; at = same_index f.board f.index s.at; index = s.index; part = s.part; carried = s.carried; slot_is = s.slot_is; joined_is = s.joined_is; taken_is = s.taken_is }

  same_held : (f : Seated) → IsSeated old f → held_at limits.capacity new f ≡ held_at limits.capacity old f
  same_held f s = ap (λ o. held_in limits.capacity (view_in o) f) (still f.board s.board s.there ∙ sym s.there)

  same_holders : holders limits.capacity new fs ≡ holders limits.capacity old fs
  same_holders = holders_on limits.capacity old new fs (λ i e d. same_held e.1 (live.seated i e d))

  opened_game : game b ≡ game_of (starting (setup_of start limits))
  opened_game = ap game_of is

  pub goes : Goes (held_by limits old fs) (held_by limits new fs) (Open name start) Opened
  goes = subst (λ (l : List (ℕ × HeldFollower)). Goes (held_by limits old fs) record { limits = limits; boards = games new; followers = l } (Open name start) Opened) (sym same_holders)
      (open_goes (held_by limits old fs) name start u (fine ∙ told limits old fs name start) (games new)
      (ap games new-is ∙ shown-push game old name b ∙ ap (λ g. games old ++ (name, g) ∷ []) opened_game))

  pub lives : IsLive limits new fs
  lives = record {
    kept = keeps (held_by limits old fs) (held_by limits new fs) (Open name start) Opened live.kept refl goes;
    setups = at_name (λ q x. x.knows.setup ≡ setup_of x.knows.setup.start limits) (λ q e. subst (λ (v : View). v.setup ≡ setup_of v.setup.start limits) (sym is) refl) live.setups;
    owns = at_name (λ q x. x.knows.owns ≡ true) (λ q e. ap (λ (v : View). v.owns) is) live.owns;
    sound = at_name (λ q x. IsSound x.knows) (λ q e. sound) live.sound;
    seated = λ i e d. seated_on e.1 (live.seated i e d);
    apart = live.apart;
    carried = at_name (λ q x. (k : ℕ) (n : Note) → get_elem? x.knows.notes k ≡ some n → n ≢ Vacant → Carries x.knows k)
        (λ q e k n d ne. absurd (ne (at_replicate limits.followers k Vacant n (ap (λ (v : View). get_elem? v.notes k) (sym is) ∙ d)))) live.carried;
    counted = at_name (λ q x. count_by (λ e. same_name q e.1.board) fs + total vacancy x.knows.notes ≡ limits.followers)
        (λ q e. let z = nobody q e in let n = ap (λ (v : View). total vacancy v.notes) is in let all = all_vacant limits.followers in omega (arith, z, n, all)) live.counted;
  }
    where
      nobody : (q : List ℕ) → lookup (same_name q) old ≡ None → count_by (λ e. same_name q e.1.board) fs ≡ 0
      nobody q e = crowd_none q fs (λ i d h. by d (live.seated i d h) (same_name q d.1.board) refl)
        where
          by : (d : ℕ × Seated) → IsSeated old d.1 → (t : Bool) → same_name q d.1.board ≡ t → t ≡ false
          by d s false at = refl
          by d s true at = absurd (none-some s.board (sym e ∙ ap (λ (x : List ℕ). lookup (same_name x) old) (same_name_is q d.1.board at) ∙ s.there))
