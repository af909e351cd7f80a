-- A relay that stands at a history, with its queues and without them.
use Rattle.std.proofs.Common.{◌≡◌, ℕ, ◌+◌, nat_eq, List, [], ◌∷◌, length, take, drop, unwrap_or, Option, Some, None, option_map, refl, sym, ap, subst, ◌∙◌}
use Rattle.std.specs.Map.{lookup}
use Rattle.c960_board.specs.Moves.{Triple}
use Rattle.c960_game.specs.Limits.{LimitNumbers}
use Rattle.c960_game.specs.GameRecord.{GameRecord}
use Rattle.relay_core.specs.declared.step.Step.{Step}
use Rattle.relay_core.specs.declared.reply.Reply.{Reply}
use Rattle.relay_core.specs.Following.{following, board_of}
use Rattle.relay_core.specs.Held.{HeldFollower, Held, plain_follower, plain}
use Rattle.relay_core.specs.History.{History, opened, start_of, log}
use Rattle.relay_core.specs.Held.Stands.{Goes, HeldStands, IsKept, held_follower_of}
use Rattle.relay_core.specs.Held.Room.{Holding}
use Rattle.relay_core.specs.Name.{same_name}
use Rattle.relay_core.specs.Replies.{LawfulHistory}
use Rattle.relay_core.specs.Stands.{Stands, game_of, follower_of}
use Rattle.relay_core.specs.State.{FollowerRecord, RelayRecord}
use Rattle.relay_core.proofs.Lawful.{facts}
use Rattle.relay_core.proofs.lemmas.Lists.{shown, lookup-map, shown-shown}

-- the facts of `HeldStands`, one after another
pub standing : (limits : LimitNumbers) (r : Held) (h : History) → r.limits ≡ limits → LawfulHistory limits h
    → ((b : List ℕ) → lookup (same_name b) r.boards ≡ option_map (game_of limits h b) (start_of h b))
    → ((who : ℕ) → lookup (nat_eq who) r.followers ≡ option_map (held_follower_of limits h who) (board_of h who))
    → length r.boards ≡ length (opened h) → shown (λ f. f.board) r.followers ≡ following h → HeldStands limits r h
standing limits r h given lawful boards followers count followed = record {
  given = given;
  lawful = lawful;
  boards = boards;
  followers = followers;
  board_count = count;
  followed = followed;
}

-- a relay with no board and no follower stands at the empty history
pub fresh : (limits : LimitNumbers) (bs : List (List ℕ × GameRecord)) (fs : List (ℕ × HeldFollower)) → bs ≡ [] → fs ≡ []
    → IsKept (record { limits = limits; boards = bs; followers = fs })
fresh limits bs fs none nobody = rw (none, nobody) (record {
  history = [];
  stands = record {
    given = refl;
    lawful = tt;
    boards = λ b. refl;
    followers = λ who. refl;
    board_count = refl;
    followed = refl;
  };
})

-- ---- Without the queues.

-- what the same holdings show
pub shown_is : {a b : Holding} → a ≡ b → a.shown ≡ b.shown
shown_is same = ap (λ (x : Holding). x.shown) same

pub shows : (limits : LimitNumbers) (r : Held) (h : History) → HeldStands limits r h → Stands limits (plain r) h
shows limits r h st = record {
  given = st.given;
  lawful = st.lawful;
  boards = st.boards;
  followers = λ who. lookup-map (nat_eq who) plain_follower r.followers ∙ ap (option_map plain_follower) (st.followers who)
      ∙ each who (board_of h who);
  board_count = st.board_count;
  followed = shown-shown (λ (f : FollowerRecord). f.board) plain_follower r.followers ∙ st.followed;
}
  where
    each : (who : ℕ) (o : Option (List ℕ)) → option_map plain_follower (option_map (held_follower_of limits h who) o)
        ≡ option_map (follower_of limits h who) o
    each who None = refl
    each who (Some b) = refl

-- ---- With them: they are determined by the rest.

-- the log of a board
abbrev pub log_at : Option GameRecord → List Triple
log_at None = []
log_at (Some game) = game.log

log_known : (limits : LimitNumbers) (h : History) (bs : List (List ℕ × GameRecord)) → LawfulHistory limits h
    → ((b : List ℕ) → lookup (same_name b) bs ≡ option_map (game_of limits h b) (start_of h b)) → (b : List ℕ)
    → log_at (lookup (same_name b) bs) ≡ log h b
log_known limits h bs law boards b = ap log_at (boards b) ∙ by (start_of h b) refl
  where
    by : (o : Option ℕ) → start_of h b ≡ o → log_at (option_map (game_of limits h b) o) ≡ log h b
    by None e = sym ((facts limits h law).silent b e)
    by (Some n) e = refl

-- a follower whose queue is read off its board's log
abbrev pub with_queue : LimitNumbers → List Triple → FollowerRecord → HeldFollower
with_queue limits l f = record {
  board = f.board;
  joined = f.joined;
  taken = f.taken;
  cut = f.cut;
  queue = drop (f.joined + f.taken) (take (unwrap_or f.cut (length l)) l);
  capacity = limits.capacity;
}

module _ (limits : LimitNumbers) (r : Held) (h0 h : History) (st0 : HeldStands limits r h0) (st : Stands limits (plain r) h) where
  same_log : (b : List ℕ) → log h0 b ≡ log h b
  same_log b = sym (log_known limits h0 r.boards st0.lawful st0.boards b) ∙ log_known limits h r.boards st.lawful st.boards b

  followed : shown (λ f. f.board) r.followers ≡ following h
  followed = sym (shown-shown (λ (f : FollowerRecord). f.board) plain_follower r.followers) ∙ st.followed

  same_board : (who : ℕ) → board_of h0 who ≡ board_of h who
  same_board who = ap (lookup (nat_eq who)) (sym st0.followed ∙ followed)

  known : (who : ℕ) (o : Option (List ℕ)) → board_of h0 who ≡ o → board_of h who ≡ o
      → lookup (nat_eq who) r.followers ≡ option_map (held_follower_of limits h who) o
  known who None e0 e = st0.followers who ∙ ap (option_map (held_follower_of limits h0 who)) e0
  known who (Some b) e0 e =
      let here = st0.followers who ∙ ap (option_map (held_follower_of limits h0 who)) e0 in
      let alike : Some (follower_of limits h0 who b) ≡ Some (follower_of limits h who b) =
      sym (lookup-map (nat_eq who) plain_follower r.followers ∙ ap (option_map plain_follower) here)
      ∙ st.followers who ∙ ap (option_map (follower_of limits h who)) e in
      here ∙ ap (option_map (with_queue limits (log h0 b))) alike
      ∙ ap (λ l. Some (with_queue limits l (follower_of limits h who b))) (same_log b)

  pub again : HeldStands limits r h
  again = record {
    given = st.given;
    lawful = st.lawful;
    boards = st.boards;
    followers = λ who. known who (board_of h who) (same_board who) refl;
    board_count = st.board_count;
    followed = followed;
  }

pub grounded : (limits : LimitNumbers) (r : Held) (h : History) → IsKept r → Stands limits (plain r) h → HeldStands limits r h
grounded limits r h kept st =
    again limits r kept.history h (subst (λ (l : LimitNumbers). HeldStands l r kept.history) st.given kept.stands) st

-- ---- Steps.

pub keeps : (r later : Held) (s : Step) (reply : Reply) → IsKept r → later.limits ≡ r.limits → Goes r later s reply → IsKept later
keeps r later s reply kept same goes = record {
  history = (s, reply) ∷ kept.history;
  stands = subst (λ (l : LimitNumbers). HeldStands l later ((s, reply) ∷ kept.history)) (sym same)
      (goes r.limits kept.history kept.stands);
}

pub stands : (r later : Held) (s : Step) (reply : Reply) → IsKept r → (old : RelayRecord) → plain r ≡ old → Goes r later s reply
    → (limits : LimitNumbers) (h : History) → Stands limits old h → Stands limits (plain later) ((s, reply) ∷ h)
stands r later s reply kept old same goes limits h was =
    shows limits later ((s, reply) ∷ h) (goes limits h
    (grounded limits r h kept (subst (λ (x : RelayRecord). Stands limits x h) (sym same) was)))

-- the same for a step that leaves the relay as it is
pub stays : (r : Held) (s : Step) (reply : Reply) → IsKept r → (old : RelayRecord) → plain r ≡ old → Goes r r s reply
    → (limits : LimitNumbers) (h : History) → Stands limits old h → Stands limits old ((s, reply) ∷ h)
stays r s reply kept old same goes limits h was =
    subst (λ (x : RelayRecord). Stands limits x ((s, reply) ∷ h)) same (stands r r s reply kept old same goes limits h was)
