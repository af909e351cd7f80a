use Rattle.std.proofs.Common.{◌≡◌, ◌+◌, ℕ, List, [], ◌∷◌, Option, Some, None, map, cond, fold, refl, ap, sym, ◌∙◌, subst, option_map, IfSome}
use Rattle.std.specs.Prelude.{count_by}
use Rattle.std.specs.Map.{lookup}
use Rattle.relay_core.specs.Held.{HeldFollower, plain_follower}
use Rattle.relay_core.specs.Name.{same_name}
use Rattle.relay_core.specs.State.{FollowerRecord, RelayRecord}
use Rattle.relay_core.proofs.lemmas.Lists.{lookup-map}
use Rattle.relay_core.proofs.lemmas.Standing.{shown_is}
use Rattle.live_board.specs.Shows.{total}
use Rattle.live_board.specs.Board.{setup_of}
use Rattle.live_board.specs.Seats.{BoardSeat}
use Rattle.relay_live.specs.Live.{SlotsLeft, game, holders, vacancy}
use Rattle.relay_live.proofs.Follows.{crowd_held}
use Rattle.relay_live.proofs.holdings.Holdings.into_board.Goals as goal

-- what holds for the one that is there
where_found : {P : BoardSeat → Type 0} (found looked : Option BoardSeat) → found ≡ looked → ((b : BoardSeat) → looked ≡ Some b → P b) → IfSome found P
where_found None looked e holds = tt
where_found (Some b) looked e holds = holds b (sym e)

-- the record's followers are counted as those held are
plain_count : (q : List ℕ) (l : List (ℕ × HeldFollower))
    → count_by (λ (e : ℕ × FollowerRecord). same_name q e.1.board) (map (λ e. (e.0, plain_follower e.1)) l)
    ≡ count_by (λ (e : ℕ × HeldFollower). same_name q e.1.board) l
plain_count q l = from 0 l
  where
    from : (n : ℕ) (l : List (ℕ × HeldFollower))
        → fold (λ (a : ℕ) (e : ℕ × FollowerRecord). a + cond (same_name q e.1.board) 1 0) n (map (λ e. (e.0, plain_follower e.1)) l)
        ≡ fold (λ (a : ℕ) (e : ℕ × HeldFollower). a + cond (same_name q e.1.board) 1 0) n l
    from n [] = refl
    from n (x ∷ xs) = from (n + cond (same_name q x.1.board) 1 0) xs

pub returns : goal.returns
returns c =
    let name : List ℕ = c.args.board.now in
    let a = c.self.inside in
    let found : c.swap_remove.result ≡ lookup (same_name name) a.boards.entries =
    c.swap_remove.ensures.value ∙ ap (λ (key : List ℕ). lookup (same_name key) a.boards.entries) c.of.ensures in
    let count = plain_count name (holders a.limits.capacity a.boards.entries a.followers.entries)
    ∙ crowd_held name a.limits.capacity a.boards.entries a.followers.entries in
    record {
      game =
          ap (option_map game) found
          ∙ sym (lookup-map (same_name name) game a.boards.entries)
          ∙ ap (λ (r : RelayRecord). lookup (same_name name) r.boards) (shown_is c.self.view_is);
      setup = subst (λ (r : RelayRecord). IfSome c.swap_remove.result (λ b. b.knows.setup ≡ setup_of b.knows.setup.start r.limits)) (shown_is c.self.view_is)
          (where_found _ _ found (λ b at. c.self.invariant.0.setups name b at));
      slots = subst (λ (r : RelayRecord). IfSome c.swap_remove.result (λ b. SlotsLeft r name b)) (shown_is c.self.view_is)
          (where_found _ _ found (λ b at.
          ap (λ (n : ℕ). n + total vacancy b.knows.notes) count ∙ c.self.invariant.0.counted name b at));
    }
