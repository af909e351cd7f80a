-- What is kept true of what a connection has been sent, by each call.
use Rattle.std.proofs.Common.{◌≡◌, ◌+◌, ℕ, Bool, true, false, cond, List, [], ◌∷◌, ◌++◌, length, take, drop, Option, Result, Ok, Err, inl, inr, refl, sym, ap, ◌∙◌, subst, append_assoc, append-nil, arith}
use Rattle.std.specs.Prelude.{IfOk, OnErr, OnOk}
use Rattle.std.specs.declared.alloc.AllocError.{AllocError}
use Rattle.std.proofs.lemmas.List.{take-append-drop}
use Rattle.c960_board.specs.Moves.{Triple}
use Rattle.c960_game.specs.Positions.{last_position}
use Rattle.relay_core.proofs.lemmas.Stretches.{placed-append}
use Rattle.relay_core.specs.Stretch.{placed}
use Rattle.relay_core.specs.declared.reply.Reply.TheVariants.{Following}
use Rattle.relay_frames.specs.Frames.{text_frame}
use Rattle.relay_messages.specs.Answers.{answer_text}
use Rattle.relay_messages.specs.declared.answer.Answer.TheVariants.{Reply}
use Rattle.live_board.specs.declared.view.Part.{Part}
use Rattle.live_board.specs.Views.{next_of}
use Rattle.relay_hall.specs.Record.{FloorRecord}
use Rattle.relay_service.specs.declared.following.stage.Stage.{Stage}
use Rattle.relay_service.specs.declared.following.stage.Stage.TheVariants.{Follows, Over, Cut, Left, Failed}
use Rattle.relay_service.specs.Following.Calls.{closes, left, puts, wrote}
use Rattle.relay_service.specs.Following.Pieces.{AllGoOn, Piece, a_close, frames_in, frames_of, move_pieces, moves_in}
use Rattle.relay_service.specs.Following.Pushing.{Delivers, HasNoEnd, PushFails, Pushes, end_pieces}
use Rattle.relay_service.specs.Following.Record.{DeliveryRecord, follows}
use Rattle.relay_service.specs.Following.Served.{IsLast, IsLost, IsOpening, IsServed}
use Rattle.relay_service.proofs.FollowingFacts.Pieces.{frames_append, go_on_append, moves_append, moves_go_on, moves_of_moves}

still_told : (bytes : List ℕ) (p q : Part) → IsOpening bytes p → q.setup ≡ p.setup → q.joined ≡ p.joined → q.before ≡ p.before → IsOpening bytes q
still_told bytes p q t setup joined before = record {
  earlier = t.earlier;
  told = t.told ∙ (λ i. t.earlier ++ text_frame (answer_text (Reply (Following (sym joined i) (last_position (sym setup i).start (sym before i))))));
}

-- an end or a close is no move
last_moves : (stage : Stage) (last : List Piece) → IsLast stage last → moves_in last ≡ []
last_moves Follows last is = ap moves_in is
last_moves (Over outcome) last (code, one, is) = ap moves_in is
last_moves Cut last is = ap moves_in is
last_moves Left last (inl is) = ap moves_in is
last_moves Left last (inr (number, is)) = ap moves_in is
last_moves Failed last is = ap moves_in is

module _ (c d : DeliveryRecord) (s : IsServed c) (follows : c.stage ≡ Follows) where
  none_lost : s.lost ≡ []
  none_lost = subst (λ (x : Stage). IsLost x s.lost) follows s.few

  no_last : s.last ≡ []
  no_last = subst (λ (x : Stage). IsLast x s.last) follows s.ended

  all_put : c.follower.part.taken ≡ s.moves
  all_put = s.taken ∙ ap (λ l. s.moves ++ l) none_lost ∙ append-nil s.moves

  all_before : c.pieces ≡ s.before
  all_before = s.pieces_are ∙ ap (λ l. s.before ++ l) no_last ∙ append-nil s.before

  -- More was put behind all pieces of one that follows: some that go on, and a last one or none. The moves among them are those that it
  -- took, but for those lost.
  pub served_on : (plain last : List Piece) (ms lost : List Triple)
      → d.follower.part.setup ≡ c.follower.part.setup → d.follower.part.joined ≡ c.follower.part.joined → d.follower.part.before ≡ c.follower.part.before
      → d.opening ≡ c.opening → d.sent ≡ c.sent
      → d.follower.part.taken ≡ c.follower.part.taken ++ (ms ++ lost) → IsLost d.stage lost
      → AllGoOn plain → moves_in plain ≡ placed (next_of c.follower.part) ms → IsLast d.stage last
      → d.pieces ≡ c.pieces ++ (plain ++ last) → d.due ≡ c.due ++ frames_of (plain ++ last)
      → IsServed d
  served_on plain last ms lost setup joined before opening sent taken few go_on moves ended pieces due = record {
    told = subst (λ (l : List ℕ). IsOpening l d.follower.part) (sym opening) (still_told c.opening c.follower.part d.follower.part s.told setup joined before);
    bytes =
        let more = frames_of (plain ++ last) in
        (λ i. sent i ++ due i) ∙ sym (append_assoc c.sent c.due more) ∙ ap (λ l. l ++ more) s.bytes ∙ append_assoc c.opening (frames_of c.pieces) more
        ∙ ap (λ l. c.opening ++ l) (sym (frames_append c.pieces (plain ++ last))) ∙ (λ i. sym opening i ++ frames_of (sym pieces i));
    moves = s.moves ++ ms;
    lost = lost;
    taken = taken ∙ ap (λ l. l ++ (ms ++ lost)) all_put ∙ sym (append_assoc s.moves ms lost);
    few = few;
    moves_are =
        let place : next_of c.follower.part ≡ c.follower.part.joined + length s.moves = ap (λ l. c.follower.part.joined + length l) all_put in
        ap moves_in pieces ∙ moves_append c.pieces (plain ++ last) ∙ ap (λ l. moves_in c.pieces ++ l) (moves_append plain last)
        ∙ (λ i. s.moves_are i ++ ((moves ∙ ap (λ n. placed n ms) place) i ++ last_moves d.stage last ended i))
        ∙ ap (λ l. placed c.follower.part.joined s.moves ++ l) (append-nil (placed (c.follower.part.joined + length s.moves) ms))
        ∙ sym (placed-append c.follower.part.joined s.moves ms) ∙ ap (λ n. placed n (s.moves ++ ms)) (sym joined);
    before = s.before ++ plain;
    last = last;
    pieces_are = pieces ∙ ap (λ l. l ++ (plain ++ last)) all_before ∙ sym (append_assoc s.before plain last);
    go_on = go_on_append s.before plain s.go_on go_on;
    ended = ended;
  }

  -- a push
  pub served_by : (most : ℕ) (lost : List Triple) (ends : List Piece) → Delivers most c d lost ends → IsLost d.stage lost → IsLast d.stage ends → IsServed d
  served_by most lost ends x few ended =
      let place = next_of c.follower.part in
      served_on (move_pieces place x.moves) ends x.moves lost x.stays.setup x.stays.joined x.stays.before x.stays.opening x.stays.sent x.taken few
      (moves_go_on place x.moves) (moves_of_moves place x.moves) ended x.pieces x.due

module _ (c : DeliveryRecord) (s : IsServed c) (follows : c.stage ≡ Follows) where
  same_taken : c.follower.part.taken ≡ c.follower.part.taken ++ ([] ++ [])
  same_taken = sym (append-nil c.follower.part.taken)

  -- a piece that goes on and is no move
  pub served_piece : (p : Piece) → AllGoOn (p ∷ []) → moves_in (p ∷ []) ≡ [] → IsServed (puts c p)
  served_piece p go_on none =
      served_on c (puts c p) s follows (p ∷ []) [] [] [] refl refl refl refl refl same_taken (subst (λ (x : Stage). IsLost x []) (sym follows) refl) go_on none
      (subst (λ (x : Stage). IsLast x []) (sym follows) refl) refl (ap (λ l. c.due ++ l) (sym (append-nil (frames_in p))))

  -- a last one
  pub served_last : (p : Piece) (stage : Stage) → IsLost stage [] → IsLast stage (p ∷ []) → IsServed (left (puts c p) stage)
  served_last p stage few ended =
      served_on c (left (puts c p) stage) s follows [] (p ∷ []) [] [] refl refl refl refl refl same_taken few tt refl ended refl
      (ap (λ l. c.due ++ l) (sym (append-nil (frames_in p))))

  pub served_close : (number : Option ℕ) → IsServed (closes c number)
  served_close number = served_last (a_close number) Left refl (inr (number, refl))

  -- none
  pub served_left : IsServed (left c Left)
  served_left =
      served_on c (left c Left) s follows [] [] [] [] refl refl refl refl refl same_taken refl tt refl (inl refl) (sym (append-nil c.pieces)) (sym (append-nil c.due))

pub served_wrote : (c : DeliveryRecord) (n : ℕ) → IsServed c → IsServed (wrote c n)
served_wrote c n s = record {
  told = s.told;
  bytes = append_assoc c.sent (take n c.due) (drop n c.due) ∙ ap (λ l. c.sent ++ l) (take-append-drop n c.due) ∙ s.bytes;
  moves = s.moves;
  lost = s.lost;
  taken = s.taken;
  few = s.few;
  moves_are = s.moves_are;
  before = s.before;
  last = s.last;
  pieces_are = s.pieces_are;
  go_on = s.go_on;
  ended = s.ended;
}

-- ---- A push.

ends_last : (is_ending : Bool) (stage : Stage) → IsLast stage (end_pieces is_ending stage)
ends_last is_ending Follows = refl
ends_last true (Over outcome) = (1001, inr refl, refl)
ends_last false (Over outcome) = (1000, inl refl, refl)
ends_last is_ending Cut = refl
ends_last is_ending Left = inl refl
ends_last is_ending Failed = refl

none_lost_at : (stage : Stage) → IsLost stage []
none_lost_at Follows = refl
none_lost_at (Over outcome) = refl
none_lost_at Cut = refl
none_lost_at Left = refl
none_lost_at Failed = omega arith

no_end_last : (stage : Stage) → HasNoEnd stage → IsLast stage []
no_end_last Follows x = refl
no_end_last (Over outcome) x = absurd x
no_end_last Cut x = absurd x
no_end_last Left x = absurd x
no_end_last Failed x = refl

pub served_push : (f : FloorRecord) (most : ℕ) (is_ending : Bool) (c d : DeliveryRecord) → IsServed c → c.stage ≡ Follows
    → (r : Result Bool AllocError) → IfOk r (λ more. Pushes f most is_ending c d more) → OnErr r (PushFails most c d) → IsServed d
served_push f most is_ending c d s follows (Ok more) ok err = served_by c d s follows most [] (end_pieces is_ending d.stage) ok.delivers (none_lost_at d.stage) (ends_last is_ending d.stage)
served_push f most is_ending c d s follows (Err error) ok err = served_by c d s follows most err.lost [] err.delivers err.few (no_end_last d.stage err.stands)

-- ---- The other calls.

pub follows_is : (s : Stage) → follows s ≡ true → s ≡ Follows
follows_is Follows z = refl
follows_is (Over outcome) z = cc
follows_is Cut z = cc
follows_is Left z = cc
follows_is Failed z = cc

-- it became this if there was memory, and is as before if not
pub served_either : (c d e : DeliveryRecord) (r : Result Unit AllocError) → OnOk r (d ≡ e) → OnErr r (d ≡ c) → IsServed c → IsServed e → IsServed d
served_either c d e (Ok u) ok err s t = subst IsServed (sym ok) t
served_either c d e (Err error) ok err s t = subst IsServed (sym err) s

pub served_gone : (c d : DeliveryRecord) → IsServed c → (b : Bool) → follows c.stage ≡ b → d ≡ cond b (left c Left) c → IsServed d
served_gone c d s true z is = subst IsServed (sym is) (served_left c s (follows_is c.stage z))
served_gone c d s false z is = subst IsServed (sym is) s

-- a newcomer
pub served_new : (c : DeliveryRecord) → IsOpening c.opening c.follower.part → c.follower.part.taken ≡ [] → c.stage ≡ Follows → c.sent ≡ [] → c.due ≡ c.opening → c.pieces ≡ []
    → IsServed c
served_new c told untaken stage sent due pieces = record {
  told = told;
  bytes = (λ i. sent i ++ due i) ∙ sym (append-nil c.opening) ∙ ap (λ ps. c.opening ++ frames_of ps) (sym pieces);
  moves = [];
  lost = [];
  taken = untaken;
  few = subst (λ (x : Stage). IsLost x []) (sym stage) refl;
  moves_are = ap moves_in pieces;
  before = [];
  last = [];
  pieces_are = pieces;
  go_on = tt;
  ended = subst (λ (x : Stage). IsLast x []) (sym stage) refl;
}
