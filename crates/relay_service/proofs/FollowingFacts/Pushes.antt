-- What a push puts: takes one behind another, meetings between them, and the end.
use Rattle.std.proofs.Common.{◌≡◌, ◌+◌, ◌<◌, ◌≤◌, ◌==◌, nat_le, ℕ, Bool, true, false, true≢false, cond, not, ◌&&◌, List, [], ◌∷◌, ◌++◌, length, length-append, take, Option, None, Some, IfSome, is_some, Result, Ok, Err, inl, inr, refl, sym, ap, ◌∙◌, subst, append_assoc, append-nil, arith}
use Rattle.std.specs.Prelude.{IfOk, OnErr, OnOk, is_ok, unwrap_or, ◌⊎◌}
use Rattle.std.specs.declared.alloc.AllocError.{AllocError}
use Rattle.std.proofs.lemmas.Bool.{eqb-true}
use Rattle.std.proofs.lemmas.Bool.Decides.{leb_tells}
use Rattle.std.proofs.lemmas.Option.{same_Some}
use Rattle.std.specs.Map.{lookup}
use Rattle.c960_board.specs.Moves.{Triple}
use Rattle.c960_game.specs.declared.outcome.Outcome.{Outcome}
use Rattle.relay_core.specs.Name.{same_name}
use Rattle.relay_core.specs.declared.reply.Account.{Account}
use Rattle.relay_core.specs.declared.reply.Taken.{Taken}
use Rattle.relay_core.specs.declared.reply.Taken.TheVariants as takes
use Rattle.live_board.specs.Accounts.{account_of}
use Rattle.live_board.specs.declared.view.Part.{Part}
use Rattle.live_board.specs.Seats.{FollowerSeat}
use Rattle.live_board.specs.Takes.{HasSeenNoLess, Stays, Took}
use Rattle.live_board.specs.Views.{next_of}
use Rattle.relay_hall.specs.Meeting.{Meets}
use Rattle.relay_hall.specs.Record.{FloorRecord, HallBoard}
use Rattle.relay_service.specs.declared.following.delivery.pushing.Round.{Round}
use Rattle.relay_service.specs.declared.following.stage.Stage.{Stage}
use Rattle.relay_service.specs.declared.following.stage.Stage.TheVariants.{Follows, Over, Cut, Left, Failed}
use Rattle.relay_service.specs.Following.Boards.{IsEndOf, IsIn, IsOf, end_of}
use Rattle.relay_service.specs.Following.Calls.{left, puts}
use Rattle.relay_service.specs.Following.Pieces.{Piece, a_move, an_end, frames_in, frames_of, move_pieces}
use Rattle.relay_service.specs.Following.Pushing.{CatchesUp, CaughtUp, Delivers, DeliversLost, EndsBy, Finishes, FinishesNot, GoesOn, IsAt, HasNoEnd, IsMet, MeetsIn, PushFails, Pushes, PutAs, StaysWith, StopsAt, TakesOne, WhileLittle, end_pieces, is_through, stage_behind}
use Rattle.relay_service.specs.Following.Record.{DeliveryRecord}
use Rattle.relay_service.specs.Following.Served.{IsLost}
use Rattle.relay_service.proofs.FollowingFacts.Boards.{of_at}
use Rattle.relay_service.proofs.FollowingFacts.Pieces.{frames_append, more_moves}

-- ---- How much is due.

is_much : (a b : ℕ) → nat_le a b ≡ true → a ≤ b
is_much a b z = by (leb_tells a b)
  where
    by : ((nat_le a b ≡ true) × (a ≤ b)) ⊎ ((nat_le a b ≡ false) × (b < a)) → a ≤ b
    by (inl (y, low)) = low
    by (inr (n, high)) = absurd (true≢false (sym z ∙ n))

is_little : (a b : ℕ) → nat_le a b ≡ false → b < a
is_little a b z = by (leb_tells a b)
  where
    by : ((nat_le a b ≡ true) × (a ≤ b)) ⊎ ((nat_le a b ≡ false) × (b < a)) → b < a
    by (inl (y, low)) = absurd (true≢false (sym y ∙ z))
    by (inr (n, high)) = high

module _ (most : ℕ) where
  -- ---- One behind another.

  known_then : (p q r : Part) → HasSeenNoLess p q → HasSeenNoLess q r → HasSeenNoLess p r
  known_then p q r (a, b, d) (e, g, h) = (omega (arith, a, e), (λ x is. g x (b x is)), (λ x is. h x (d x is)))

  known_same : (p : Part) → HasSeenNoLess p p
  known_same p = (omega arith, (λ x is. is), (λ x is. is))

  stays_then : (c d e : DeliveryRecord) → StaysWith c d → StaysWith d e → StaysWith c e
  stays_then c d e a b = record {
    board = b.board ∙ a.board;
    table = b.table ∙ a.table;
    setup = b.setup ∙ a.setup;
    joined = b.joined ∙ a.joined;
    before = b.before ∙ a.before;
    seen = known_then c.follower.part d.follower.part e.follower.part a.seen b.seen;
    opening = b.opening ∙ a.opening;
    sent = b.sent ∙ a.sent;
  }

  pub delivers_none : (c : DeliveryRecord) → Delivers most c c [] []
  delivers_none c = record {
    stays = record { board = refl; table = refl; setup = refl; joined = refl; before = refl; seen = known_same c.follower.part; opening = refl; sent = refl };
    moves = [];
    little = inl refl;
    taken = sym (append-nil c.follower.part.taken);
    pieces = sym (append-nil c.pieces);
    due = sym (append-nil c.due);
  }

  pub next_behind : (c d : DeliveryRecord) (a : Delivers most c d [] []) → next_of d.follower.part ≡ next_of c.follower.part + length a.moves
  next_behind c d a =
      let n : length d.follower.part.taken ≡ length c.follower.part.taken + length a.moves = ap length (a.taken ∙ ap (λ l. c.follower.part.taken ++ l) (append-nil a.moves)) ∙ length-append c.follower.part.taken a.moves in
      let j = a.stays.joined in
      omega (arith, n, j)

  -- what is due then
  due_behind : (c d : DeliveryRecord) (a : Delivers most c d [] []) → d.due ≡ c.due ++ frames_of (move_pieces (next_of c.follower.part) a.moves)
  due_behind c d a = a.due ∙ ap (λ l. c.due ++ frames_of l) (append-nil (move_pieces (next_of c.follower.part) a.moves))

  due_then : (c d : DeliveryRecord) (a : Delivers most c d [] []) (ms : List Triple)
      → c.due ++ frames_of (move_pieces (next_of c.follower.part) (a.moves ++ ms)) ≡ d.due ++ frames_of (move_pieces (next_of d.follower.part) ms)
  due_then c d a ms =
      let place = next_of c.follower.part in
      let first = move_pieces place a.moves in
      let second = move_pieces (place + length a.moves) ms in
      ap (λ l. c.due ++ frames_of l) (more_moves place a.moves ms) ∙ ap (λ l. c.due ++ l) (frames_append first second)
      ∙ sym (append_assoc c.due (frames_of first) (frames_of second)) ∙ ap (λ l. l ++ frames_of second) (sym (due_behind c d a))
      ∙ ap (λ n. d.due ++ frames_of (move_pieces n ms)) (sym (next_behind c d a))

  little_then : (c d e : DeliveryRecord) (lost : List Triple) (ends : List Piece) (a : Delivers most c d [] []) (b : Delivers most d e lost ends)
      → WhileLittle most d.due (next_of d.follower.part) (b.moves ++ lost) → WhileLittle most c.due (next_of c.follower.part) ((a.moves ++ b.moves) ++ lost)
  little_then c d e lost ends a b (inl none) =
      subst (λ l. WhileLittle most c.due (next_of c.follower.part) l) (ap (λ l. a.moves ++ l) (sym none) ∙ sym (append_assoc a.moves b.moves lost)) a.little
  little_then c d e lost ends a b (inr (earlier, last, is, low)) =
      inr (
        a.moves ++ earlier,
        last,
        append_assoc a.moves b.moves lost ∙ ap (λ l. a.moves ++ l) is ∙ sym (append_assoc a.moves earlier (last ∷ [])),
        subst (λ n. n < most) (ap length (sym (due_then c d a earlier))) low,
      )

  pub delivers_then : (c d e : DeliveryRecord) (lost : List Triple) (ends : List Piece) → Delivers most c d [] [] → Delivers most d e lost ends → Delivers most c e lost ends
  delivers_then c d e lost ends a b =
      let place = next_of c.follower.part in
      let first = move_pieces place a.moves in
      let second = move_pieces (next_of d.follower.part) b.moves ++ ends in
      let all : first ++ second ≡ move_pieces place (a.moves ++ b.moves) ++ ends =
      ap (λ (n : ℕ). first ++ (move_pieces n b.moves ++ ends)) (next_behind c d a)
      ∙ sym (append_assoc first (move_pieces (place + length a.moves) b.moves) ends)
      ∙ ap (λ l. l ++ ends) (sym (more_moves place a.moves b.moves)) in
      record {
        stays = stays_then c d e a.stays b.stays;
        moves = a.moves ++ b.moves;
        little = little_then c d e lost ends a b b.little;
        taken =
            b.taken ∙ ap (λ l. l ++ (b.moves ++ lost)) (a.taken ∙ ap (λ l. c.follower.part.taken ++ l) (append-nil a.moves))
            ∙ append_assoc c.follower.part.taken a.moves (b.moves ++ lost) ∙ ap (λ l. c.follower.part.taken ++ l) (sym (append_assoc a.moves b.moves lost));
        pieces =
            b.pieces ∙ ap (λ l. l ++ second) (a.pieces ∙ ap (λ l. c.pieces ++ l) (append-nil first))
            ∙ append_assoc c.pieces first second ∙ ap (λ l. c.pieces ++ l) all;
        due =
            b.due ∙ ap (λ l. l ++ frames_of second) (a.due ∙ ap (λ l. c.due ++ frames_of l) (append-nil first))
            ∙ append_assoc c.due (frames_of first) (frames_of second) ∙ ap (λ l. c.due ++ l) (sym (frames_append first second) ∙ ap frames_of all);
      }

  -- ---- A take.

  module _ (c d : DeliveryRecord) (g : FollowerSeat) (stage : Stage) (stays : Stays c.follower g) (low : nat_le most (length c.due) ≡ false) where
    abbrev pub taken : DeliveryRecord
    taken = record c { follower = g; stage = stage }

    same_board : StaysWith c taken
    same_board = record {
      board = refl;
      table = stays.0;
      setup = stays.1;
      joined = stays.3;
      before = stays.4;
      seen = stays.5;
      opening = refl;
      sent = refl;
    }

    -- one was taken while little was due
    little_one : (m : Triple) → WhileLittle most c.due (next_of c.follower.part) (m ∷ [])
    little_one m = inr ([], m, refl, subst (λ n. n < most) (ap length (sym (append-nil c.due))) (is_little most (length c.due) low))

    -- these moves were taken, and nothing was put
    unput : (lost : List Triple) → WhileLittle most c.due (next_of c.follower.part) lost → g.part.taken ≡ c.follower.part.taken ++ lost → Delivers most c taken lost []
    unput lost little is = record {
      stays = same_board;
      moves = [];
      little = little;
      taken = is;
      pieces = sym (append-nil c.pieces);
      due = sym (append-nil c.due);
    }

    none_taken : g.part.taken ≡ c.follower.part.taken → Delivers most c taken [] []
    none_taken is = unput [] (inl refl) (is ∙ sym (append-nil c.follower.part.taken))

    put_one : (place : ℕ) (m : Triple) → place ≡ next_of c.follower.part → g.part.taken ≡ c.follower.part.taken ++ m ∷ [] → Delivers most c (puts taken (a_move place m)) [] []
    put_one place m at is =
        let piece : a_move place m ≡ a_move (next_of c.follower.part) m = ap (λ n. a_move n m) at in
        record {
          stays = record {
            board = refl;
            table = stays.0;
            setup = stays.1;
            joined = stays.3;
            before = stays.4;
            seen = stays.5;
            opening = refl;
            sent = refl;
          };
          moves = m ∷ [];
          little = little_one m;
          taken = is;
          pieces = ap (λ p. c.pieces ++ p ∷ []) piece;
          due = ap (λ p. c.due ++ frames_in p) piece ∙ ap (λ l. c.due ++ l) (sym (append-nil (frames_in (a_move (next_of c.follower.part) m))));
        }

    one_more : (m : Triple) → g.part.taken ≡ c.follower.part.taken ++ m ∷ [] → next_of g.part ≡ next_of c.follower.part + 1
    one_more m is =
        let n : length g.part.taken ≡ length c.follower.part.taken + 1 = ap length is ∙ length-append c.follower.part.taken (m ∷ []) in
        let j = stays.3 in
        omega (arith, n, j)

    takes_one : (t : Taken) (some : Bool) → Took c.follower g t → PutAs t some taken d → TakesOne most some c d
    takes_one (takes.Move place m) some took (some-is, d-is) =
        subst (λ (b : Bool). TakesOne most b c d) (sym some-is)
        (subst (λ (e : DeliveryRecord). TakesOne most true c e) (sym d-is) (put_one place m took.0 took.1, one_more m took.1))
    takes_one takes.Nothing some (found, none) (some-is, d-is) =
        subst (λ (b : Bool). TakesOne most b c d) (sym some-is)
        (subst (λ (e : DeliveryRecord). TakesOne most false c e) (sym d-is) (none_taken found.1, inr (inl (let s = stays.5.0 in let n = found.2 in omega (arith, s, n)))))
    takes_one (takes.Over outcome) some (found, is) (some-is, d-is) =
        subst (λ (b : Bool). TakesOne most b c d) (sym some-is)
        (subst (λ (e : DeliveryRecord). TakesOne most false c e) (sym d-is) (none_taken found.1, inr (inl (let s = stays.5.0 in let n = found.2 in omega (arith, s, n)))))
    takes_one takes.Cut some (same, closed) (some-is, d-is) =
        subst (λ (b : Bool). TakesOne most b c d) (sym some-is)
        (subst (λ (e : DeliveryRecord). TakesOne most false c e) (sym d-is)
        (none_taken (ap (λ (x : FollowerSeat). x.part.taken) same), inr (inr (subst (λ (x : FollowerSeat). x.part.closing ≡ Some (next_of x.part)) (sym same) closed))))

    loses_one : (t : Taken) → Took c.follower g t → d ≡ taken → DeliversLost most c d
    loses_one t took is = subst (λ (e : DeliveryRecord). DeliversLost most c e) (sym is) (by t took)
      where
        by : (t : Taken) → Took c.follower g t → DeliversLost most c taken
        by (takes.Move place m) took = (m ∷ [], omega arith, unput (m ∷ []) (little_one m) took.1)
        by takes.Nothing took = ([], omega arith, none_taken took.0.1)
        by (takes.Over outcome) took = ([], omega arith, none_taken took.0.1)
        by takes.Cut took = ([], omega arith, none_taken (ap (λ (x : FollowerSeat). x.part.taken) took.0))

    pub taken_ok : (t : Taken) (r : Result Bool AllocError) → Took c.follower g t → IfOk r (λ some. PutAs t some taken d) → IfOk r (λ some. TakesOne most some c d)
    taken_ok t (Ok some) took put = takes_one t some took put
    taken_ok t (Err error) took put = tt

    pub taken_err : (t : Taken) (r : Result Bool AllocError) → Took c.follower g t → OnErr r (d ≡ taken) → OnErr r (DeliversLost most c d)
    taken_err t (Ok some) took put = tt
    taken_err t (Err error) took put = loses_one t took put

  -- nothing was taken, since much is due
  pub much_due : (c : DeliveryRecord) → nat_le most (length c.due) ≡ true → TakesOne most false c c
  much_due c much = (delivers_none c, inl (is_much most (length c.due) much))

  -- ---- Takes to a place.

  pub err_of : {A E P : Type 0} → (r : Result A E) → P → OnErr r P
  err_of (Ok done) p = tt
  err_of (Err fault) p = p

  module _ (limit : ℕ) (c d e : DeliveryRecord) (a : Delivers most c d [] []) where
    pub lost_then : DeliversLost most d e → DeliversLost most c e
    lost_then (lost, few, b) = (lost, few, delivers_then c d e lost [] a b)

    stops_none : TakesOne most false d e → Delivers most c e [] [] × StopsAt most limit c e
    stops_none (b, inl much) = (delivers_then c d e [] [] a b, inl much)
    stops_none (b, inr (inl seen)) = (delivers_then c d e [] [] a b, inr (inr (inl (let s = a.stays.seen.0 in omega (arith, s, seen)))))
    stops_none (b, inr (inr closed)) = (delivers_then c d e [] [] a b, inr (inr (inr closed)))

    pub stops_then : (some : Bool) → TakesOne most some d e → some ≡ false → Delivers most c e [] [] × StopsAt most limit c e
    stops_then some one none = stops_none (subst (λ (b : Bool). TakesOne most b d e) none one)

    pub takes_then : (some : Bool) → TakesOne most some d e → some ≡ true → Delivers most c e [] [] × (next_of e.follower.part ≡ next_of d.follower.part + 1)
    takes_then some one is = let x = subst (λ (b : Bool). TakesOne most b d e) is one in (delivers_then c d e [] [] a x.0, x.1)

  -- ---- A meeting.

  module _ (b : HallBoard) (c d : DeliveryRecord) (of : IsOf b c.follower c.stage) (lost : List Triple) (went : Delivers most c d lost []) (h : FollowerSeat) (m : Meets b d.follower h) where
    closing : (o : Option ℕ) → h.part.closing ≡ o → IfSome o (λ n. (next_of h.part ≤ n) × (n ≤ length b.game.log))
    closing None is = tt
    closing (Some n) is = ((m.sound.closing n is).0, m.closed n is)

    same_joined : h.part.joined ≡ c.follower.part.joined
    same_joined = ap (λ (p : Part). p.joined) m.learned.2 ∙ went.stays.joined

    pub met_of : IsOf b h Follows
    met_of = record {
      table = m.table ∙ went.stays.table ∙ of.table;
      start = ap (λ (p : Part). p.setup.start) m.learned.2 ∙ ap (λ x. x.start) went.stays.setup ∙ of.start;
      before = ap (λ (p : Part). p.before) m.learned.2 ∙ went.stays.before ∙ of.before ∙ ap (λ n. take n b.game.log) (sym same_joined);
      within = m.within;
      moves = m.has_stretch;
      closing = closing h.part.closing refl;
      ended = tt;
    }

    pub met_delivers : Delivers most c (record d { follower = h }) lost []
    met_delivers = record {
      stays = record {
        board = went.stays.board;
        table = m.table ∙ went.stays.table;
        setup = ap (λ (p : Part). p.setup) m.learned.2 ∙ went.stays.setup;
        joined = same_joined;
        before = ap (λ (p : Part). p.before) m.learned.2 ∙ went.stays.before;
        seen = known_then c.follower.part d.follower.part h.part went.stays.seen m.no_less;
        opening = went.stays.opening;
        sent = went.stays.sent;
      };
      moves = went.moves;
      little = went.little;
      taken = ap (λ (p : Part). p.taken) m.learned.2 ∙ went.taken;
      pieces = went.pieces;
      due = went.due;
    }

    same_next : next_of h.part ≡ next_of d.follower.part
    same_next = let j = ap (λ (p : Part). p.joined) m.learned.2 in let n = ap (λ (p : Part). length p.taken) m.learned.2 in omega (arith, j, n)

    pub met_stops : (limit : ℕ) → StopsAt most limit c d → StopsAt most limit c (record d { follower = h })
    met_stops limit (inl much) = inl much
    met_stops limit (inr (inl here)) = inr (inl (let n = same_next in omega (arith, n, here)))
    met_stops limit (inr (inr (inl seen))) = inr (inr (inl (let n = same_next in omega (arith, n, seen))))
    met_stops limit (inr (inr (inr closed))) = inr (inr (inr (m.no_less.2 (next_of d.follower.part) closed ∙ ap (λ n. Some n) (sym same_next))))

  -- ---- A round.

  module _ (f : FloorRecord) (limit : ℕ) (c d e : DeliveryRecord) (is : IsIn f c) (round : Round) (follows : d.stage ≡ Follows) (met : MeetsIn f d e round.account round.outcome) where
    of_board : (board : d.board ≡ c.board) → IsOf met.0 c.follower c.stage
    of_board board =
        let same : Some is.board ≡ Some met.0 = sym is.found ∙ ap (λ n. lookup (same_name n) f.boards) (sym board) ∙ met.1 in
        subst (λ (b : HallBoard). IsOf b c.follower c.stage) (same_Some _ _ same) is.is_of

    gone_on : (lost : List Triple) (few : length lost ≤ 1) (went : Delivers most c d lost []) → (round.is_put ≡ true → (lost ≡ []) × StopsAt most limit c d) → GoesOn f most limit c e round
    gone_on lost few went whole =
        let of = of_board went.stays.board in
        let h = e.follower in
        let m = met.3 in
        subst (λ (x : DeliveryRecord). GoesOn f most limit c x round) (sym met.2) (record {
          met = record {
            board = met.0;
            found = met.1;
            is_of = met_of met.0 c d of lost went h m;
            follows = follows;
            seen = m.seen;
            account = met.4;
            outcome = met.5;
          };
          lost = lost;
          few = few;
          delivers = met_delivers met.0 c d of lost went h m;
          whole = λ put. ((whole put).0, met_stops met.0 c d of lost went h m limit (whole put).1);
        })

    pub goes_on : (r : Result Unit AllocError) → OnOk r (Delivers most c d [] [] × StopsAt most limit c d) → OnErr r (DeliversLost most c d) → round.is_put ≡ is_ok r → GoesOn f most limit c e round
    goes_on (Ok u) (went, stops) err put = gone_on [] (omega arith) went (λ x. (refl, stops))
    goes_on (Err error) ok (lost, few, went) put = gone_on lost few went (λ x. absurd (true≢false (sym x ∙ put)))

  -- it is at the table of its board still
  pub is_at : (f : FloorRecord) (c d : DeliveryRecord) → IsIn f c → (lost : List Triple) → Delivers most c d lost [] → IsAt f d
  is_at f c d is lost went = (is.board, ap (λ n. lookup (same_name n) f.boards) went.stays.board ∙ is.found, went.stays.table ∙ is.is_of.table)

  pub is_at_each : (f : FloorRecord) (limit : ℕ) (c d : DeliveryRecord) → IsIn f c → (r : Result Unit AllocError) → OnOk r (Delivers most c d [] [] × StopsAt most limit c d) → OnErr r (DeliversLost most c d) → IsAt f d
  is_at_each f limit c d is (Ok u) (went, stops) err = is_at f c d is [] went
  is_at_each f limit c d is (Err error) ok (lost, few, went) = is_at f c d is lost went

  pub met_in : (f : FloorRecord) (c : DeliveryRecord) (round : Round) → IsMet f c round → IsIn f c
  met_in f c round m = record { board = m.board; found = m.found; is_of = subst (λ (s : Stage). IsOf m.board c.follower s) (sym m.follows) m.is_of }

  -- ---- What was left.

  -- a follower that stands where its list ends, of one that met its board
  at_end : (b : HallBoard) (f : FollowerSeat) → IsOf b f Follows → length b.game.log ≤ next_of f.part → next_of f.part ≡ end_of b f.part
  at_end b f of all = by f.part.closing of.closing
    where
      by : (o : Option ℕ) → IfSome o (λ n. (next_of f.part ≤ n) × (n ≤ length b.game.log)) → next_of f.part ≡ unwrap_or o (length b.game.log)
      by None x = let w = of.within in omega (arith, w, all)
      by (Some n) (low, high) = omega (arith, low, high, all)

  at_closing : (b : HallBoard) (f : FollowerSeat) → f.part.closing ≡ Some (next_of f.part) → next_of f.part ≡ end_of b f.part
  at_closing b f closed = ap (λ (o : Option ℕ). unwrap_or o (length b.game.log)) (sym closed)

  module _ (b : HallBoard) (f g : FollowerSeat) (of : IsOf b g Follows) (seen : f.part.seen ≡ length b.game.log) (known : HasSeenNoLess f.part g.part) where
    at_limit : unwrap_or f.part.closing f.part.seen ≤ next_of g.part → next_of g.part ≡ end_of b g.part
    at_limit all = by f.part.closing refl all
      where
        by : (o : Option ℕ) → f.part.closing ≡ o → unwrap_or o f.part.seen ≤ next_of g.part → next_of g.part ≡ end_of b g.part
        by None is low = at_end b g of (omega (arith, seen, low))
        by (Some n) is low =
            let same : g.part.closing ≡ Some n = known.2 n is in
            let high = subst (λ (o : Option ℕ). IfSome o (λ k. (next_of g.part ≤ k) × (k ≤ length b.game.log))) same of.closing in
            (let e : next_of g.part ≡ n = let h = high.0 in omega (arith, low, h) in e) ∙ ap (λ (o : Option ℕ). unwrap_or o (length b.game.log)) (sym same)

  -- all is taken, by what a meeting told
  through : (b : HallBoard) (c : DeliveryRecord) (round : Round) → c.follower.part.seen ≡ length b.game.log → round.account ≡ account_of c.follower.part
      → is_through round ≡ true → next_of c.follower.part ≡ end_of b c.follower.part
  through b c round seen account is =
      let e = eqb-true (round.account.joined + round.account.taken) round.account.limit is in
      ap (λ (a : Account). a.joined + a.taken) (sym account) ∙ e ∙ ap (λ (a : Account). a.limit) account ∙ ap (λ n. unwrap_or c.follower.part.closing n) seen

  through_not : (b : HallBoard) (c : DeliveryRecord) (round : Round) → c.follower.part.seen ≡ length b.game.log → round.account ≡ account_of c.follower.part
      → is_through round ≡ false → next_of c.follower.part ≡ end_of b c.follower.part → ⊥
  through_not b c round seen account is all =
      let e : round.account.joined + round.account.taken ≡ round.account.limit = ap (λ (a : Account). a.joined + a.taken) account ∙ all ∙ ap (λ n. unwrap_or c.follower.part.closing n) (sym seen) ∙ ap (λ (a : Account). a.limit) (sym account) in
      true≢false (sym (eqb-same e) ∙ is)
    where
      eqb-same : {m n : ℕ} → m ≡ n → (m == n) ≡ true
      eqb-same {m} {n} e = grind (arith, e)

  module _ (f : FloorRecord) (before : Round) (c d : DeliveryRecord) (met : IsMet f c before) where
    -- it was not to go on
    stayed : (put all much : Bool) → before.is_put ≡ put → is_through before ≡ all → nat_le most (length c.due) ≡ much → (put && (not all && not much)) ≡ false → CatchesUp put f most before c c before
    stayed false all much p a n is = (refl, refl)
    stayed true true much p a n is = record {
      met = met;
      lost = [];
      few = omega arith;
      delivers = delivers_none c;
      whole = λ put. (refl, λ not_all. absurd (true≢false (sym a ∙ not_all)));
    }
    stayed true false true p a n is = record {
      met = met;
      lost = [];
      few = omega arith;
      delivers = delivers_none c;
      whole = λ put. (refl, λ not_all. is_much most (length c.due) n);
    }
    stayed true false false p a n is = absurd (true≢false is)

    pub stays_round : (before.is_put && (not (is_through before) && not (nat_le most (length c.due)))) ≡ false → CatchesUp before.is_put f most before c c before
    stays_round is = stayed before.is_put (is_through before) (nat_le most (length c.due)) refl refl refl is

    -- what was left is taken, or much is due
    more_or_all : (round : Round) (went : Delivers most c d [] []) (m : IsMet f d round) → StopsAt most before.account.limit c d → is_through round ≡ false → most ≤ length d.due
    more_or_all round went m (inl much) not_all = much
    more_or_all round went m (inr rest) not_all = absurd (through_not m.board d round m.seen m.account not_all (by rest))
      where
        same_log : c.follower.part.seen ≡ length m.board.game.log
        same_log = met.seen ∙ ap (λ (b : HallBoard). length b.game.log) (same_Some _ _ (sym met.found ∙ ap (λ n. lookup (same_name n) f.boards) (sym went.stays.board) ∙ m.found))

        by : (before.account.limit ≤ next_of d.follower.part) ⊎ ((c.follower.part.seen ≤ next_of d.follower.part) ⊎ (d.follower.part.closing ≡ Some (next_of d.follower.part))) → next_of d.follower.part ≡ end_of m.board d.follower.part
        by (inl here) = at_limit m.board c.follower d.follower m.is_of same_log went.stays.seen (subst (λ (a : Account). a.limit ≤ next_of d.follower.part) met.account here)
        by (inr (inl seen)) = at_end m.board d.follower m.is_of (omega (arith, same_log, seen))
        by (inr (inr closed)) = at_closing m.board d.follower closed

    caught : (put : Bool) (round : Round) → put ≡ true → GoesOn f most before.account.limit c d round → CatchesUp put f most before c d round
    caught true round p g = record {
      met = g.met;
      lost = g.lost;
      few = g.few;
      delivers = g.delivers;
      whole = λ put. ((g.whole put).0, more_or_all round (subst (λ (l : List Triple). Delivers most c d l []) (g.whole put).0 g.delivers) g.met (g.whole put).1);
    }
    caught false round p g = absurd (true≢false (sym p))

    pub catches_round : (round : Round) → (before.is_put && (not (is_through before) && not (nat_le most (length c.due)))) ≡ true → GoesOn f most before.account.limit c d round → CatchesUp before.is_put f most before c d round
    catches_round round is g = caught before.is_put round (and_first before.is_put _ is) g
      where
        and_first : (a b : Bool) → (a && b) ≡ true → a ≡ true
        and_first true b e = refl
        and_first false b e = e

  -- ---- The end.

  module _ (f : FloorRecord) (limit : ℕ) (c d e : DeliveryRecord) (before after : Round) (g : GoesOn f most limit c d before) where
    both : (put : Bool) → before.is_put ≡ put → CatchesUp put f most before d e after → CaughtUp f most c e after
    both true put u = record {
      met = u.met;
      lost = u.lost;
      few = u.few;
      delivers = delivers_then c d e u.lost [] (subst (λ (l : List Triple). Delivers most c d l []) (g.whole put).0 g.delivers) u.delivers;
      whole = u.whole;
    }
    both false put (d-is, after-is) = subst (λ (r : Round). CaughtUp f most c e r) (sym after-is) (subst (λ (x : DeliveryRecord). CaughtUp f most c x before) (sym d-is) (record {
      met = g.met;
      lost = g.lost;
      few = g.few;
      delivers = g.delivers;
      whole = λ yes. absurd (true≢false (sym yes ∙ put));
    }))

    pub in_all : CatchesUp before.is_put f most before d e after → CaughtUp f most c e after
    in_all u = both before.is_put refl u

  module _ (f : FloorRecord) (is_ending : Bool) (c d e : DeliveryRecord) (round : Round) (u : CaughtUp f most c d round) where
    found : lookup (same_name c.board) f.boards ≡ Some u.met.board
    found = ap (λ n. lookup (same_name n) f.boards) (sym u.delivers.stays.board) ∙ u.met.found

    all_put : round.is_put ≡ true → Delivers most c d [] []
    all_put put = subst (λ (l : List Triple). Delivers most c d l []) (u.whole put).0 u.delivers

    in_still : IsIn f d
    in_still = met_in f d round u.met

    -- an end was put
    one_end : (p : Piece) (stage : Stage) → Delivers most d (left (puts d p) stage) [] (p ∷ [])
    one_end p stage = record {
      stays = record {
        board = refl;
        table = refl;
        setup = refl;
        joined = refl;
        before = refl;
        seen = known_same d.follower.part;
        opening = refl;
        sent = refl;
      };
      moves = [];
      little = inl refl;
      taken = sym (append-nil d.follower.part.taken);
      pieces = refl;
      due = ap (λ l. d.due ++ l) (sym (append-nil (frames_in p)));
    }

    ends : (stage : Stage) → EndsBy is_ending stage d e → (e.stage ≡ stage) × Delivers most d e [] (end_pieces is_ending stage) × (e.follower ≡ d.follower)
    ends Follows is = (
      ap (λ (x : DeliveryRecord). x.stage) is ∙ u.met.follows,
      subst (λ (x : DeliveryRecord). Delivers most d x [] []) (sym is) (delivers_none d),
      ap (λ (x : DeliveryRecord). x.follower) is,
    )
    ends (Over outcome) is =
        let p = an_end (takes.Over outcome) (cond is_ending 1001 1000) in (
          ap (λ (x : DeliveryRecord). x.stage) is,
          subst (λ (x : DeliveryRecord). Delivers most d x [] (p ∷ [])) (sym is) (one_end p (Over outcome)),
          ap (λ (x : DeliveryRecord). x.follower) is,
        )
    ends Cut is =
        let p = an_end takes.Cut 4001 in (
          ap (λ (x : DeliveryRecord). x.stage) is,
          subst (λ (x : DeliveryRecord). Delivers most d x [] (p ∷ [])) (sym is) (one_end p Cut),
          ap (λ (x : DeliveryRecord). x.follower) is,
        )
    ends Left x = absurd x
    ends Failed x = absurd x

    -- the stage that the account and the outcome tell is the one by the closing and by the board
    same_stage : stage_behind round.account.cut round.outcome ≡ stage_behind (is_some d.follower.part.closing) u.met.board.game.outcome
    same_stage = λ i. stage_behind (u.met.account i).cut (u.met.outcome i)

    pub finished : (more : Bool) → Finishes more is_ending round d e → Pushes f most is_ending c e more
    finished true (put, not_all, is) = subst (λ (x : DeliveryRecord). Pushes f most is_ending c x true) (sym is) (record {
      board = u.met.board;
      found = found;
      delivers = subst (λ (s : Stage). Delivers most c d [] (end_pieces is_ending s)) (sym u.met.follows) (all_put put);
      reached = ((u.whole put).1 not_all, u.met.follows);
    })
    finished false (put, all, is) =
        let stage = stage_behind round.account.cut round.outcome in
        let x = ends stage is in
        record {
          board = u.met.board;
          found = found;
          delivers = subst (λ (s : Stage). Delivers most c e [] (end_pieces is_ending s)) (sym x.0) (delivers_then c d e [] (end_pieces is_ending stage) (all_put put) x.1);
          reached = subst (λ (h : FollowerSeat). (next_of h.part ≡ end_of u.met.board h.part) × (e.stage ≡ stage_behind (is_some h.part.closing) u.met.board.game.outcome)) (sym x.2)
              (through u.met.board d round u.met.seen u.met.account all, x.0 ∙ same_stage);
        }

    -- what an end tells is so of the board
    end_is : next_of d.follower.part ≡ end_of u.met.board d.follower.part
        → (o : Option ℕ) → d.follower.part.closing ≡ o → (outcome : Option Outcome) → u.met.board.game.outcome ≡ outcome → IsEndOf u.met.board d.follower.part (stage_behind (is_some o) outcome)
    end_is all (Some n) closed outcome over = closed ∙ ap (λ k. Some k) (sym (all ∙ ap (λ (x : Option ℕ). unwrap_or x (length u.met.board.game.log)) closed))
    end_is all None closed (Some outcome) over = (over, all ∙ ap (λ (x : Option ℕ). unwrap_or x (length u.met.board.game.log)) closed, closed)
    end_is all None closed None over = tt

    pub in_finished : (more : Bool) → Finishes more is_ending round d e → IsIn f e
    in_finished true (put, not_all, is) = subst (λ (x : DeliveryRecord). IsIn f x) (sym is) in_still
    in_finished false (put, all, is) =
        let x = ends (stage_behind round.account.cut round.outcome) is in
        let there = through u.met.board d round u.met.seen u.met.account all in
        record {
          board = u.met.board;
          found = ap (λ n. lookup (same_name n) f.boards) x.1.stays.board ∙ u.met.found;
          is_of = subst (λ (h : FollowerSeat). IsOf u.met.board h e.stage) (sym x.2) (subst (λ (s : Stage). IsOf u.met.board d.follower s) (sym (x.0 ∙ same_stage))
              (of_at u.met.board d.follower Follows _ u.met.is_of (end_is there d.follower.part.closing refl u.met.board.game.outcome refl)));
        }

    pub finished_not : FinishesNot round d e → PushFails most c e
    finished_not (inl (put, is)) = subst (λ (x : DeliveryRecord). PushFails most c x) (sym is) (record {
      lost = [];
      few = subst (λ (s : Stage). IsLost s []) (sym u.met.follows) refl;
      delivers = all_put put;
      stands = subst (λ (s : Stage). HasNoEnd s) (sym u.met.follows) tt;
    })
    finished_not (inr (put, is)) = subst (λ (x : DeliveryRecord). PushFails most c x) (sym is) (record {
      lost = u.lost;
      few = u.few;
      delivers = record {
        stays = record {
          board = u.delivers.stays.board;
          table = u.delivers.stays.table;
          setup = u.delivers.stays.setup;
          joined = u.delivers.stays.joined;
          before = u.delivers.stays.before;
          seen = u.delivers.stays.seen;
          opening = u.delivers.stays.opening;
          sent = u.delivers.stays.sent;
        };
        moves = u.delivers.moves;
        little = u.delivers.little;
        taken = u.delivers.taken;
        pieces = u.delivers.pieces;
        due = u.delivers.due;
      };
      stands = tt;
    })

    pub in_finished_not : FinishesNot round d e → IsIn f e
    in_finished_not (inl (put, is)) = subst (λ (x : DeliveryRecord). IsIn f x) (sym is) in_still
    in_finished_not (inr (put, is)) = subst (λ (x : DeliveryRecord). IsIn f x) (sym is) (record {
      board = u.met.board;
      found = u.met.found;
      is_of = of_at u.met.board d.follower Follows Failed u.met.is_of tt;
    })

    pub finished_in : (r : Result Bool AllocError) → IfOk r (λ more. Finishes more is_ending round d e) → OnErr r (FinishesNot round d e) → IsIn f e
    finished_in (Ok more) ok err = in_finished more ok
    finished_in (Err error) ok err = in_finished_not err

    pub finished_ok : (r : Result Bool AllocError) → IfOk r (λ more. Finishes more is_ending round d e) → IfOk r (λ more. Pushes f most is_ending c e more)
    finished_ok (Ok more) ok = finished more ok
    finished_ok (Err error) ok = tt

    pub finished_err : (r : Result Bool AllocError) → OnErr r (FinishesNot round d e) → OnErr r (PushFails most c e)
    finished_err (Ok more) err = tt
    finished_err (Err error) err = finished_not err
