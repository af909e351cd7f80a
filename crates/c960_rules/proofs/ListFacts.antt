-- The list of all legal moves, stretch by stretch.
use Rattle.std.proofs.Common.{◌≡◌, ℕ, ◌+◌, ◌++◌, List, [], ◌∷◌, map, zero, suc, refl, ap, sym, ◌∙◌, append_assoc, zero-add, Bool, true, false, not, ◌||◌, Option, Some, None, ◌⊎◌, inl, inr, arith}
use Rattle.std.specs.Prelude.{◌==◌, IsSome}
use Rattle.std.specs.List.{range_with_len, filter, flat_map}
use Rattle.std.proofs.lemmas.Bool.{both_ways, false_from_ne_true, and_parts, and_from, or_cases, eqb-true, eq-eqb}
use Rattle.std.proofs.lemmas.List.Elements.{filter-append}
use Rattle.std.proofs.lemmas.List.{append-nil}
use Rattle.std.proofs.lemmas.Grind.{flat_map-append}
use Rattle.c960_board.specs.declared.piece.Kind.{Kind}
use Rattle.c960_board.specs.declared.piece.Kind.TheVariants.{Pawn, Knight, Bishop, Rook, Queen, King}
use Rattle.c960_board.specs.declared.parts.Parts.{Parts}
use Rattle.c960_board.specs.Squares.{rank_of}
use Rattle.c960_board.specs.Pieces.{is_of, holds}
use Rattle.c960_board.specs.Moves.{Triple, IsMove}
use Rattle.c960_rules.specs.Reaches.{Reaches, last_rank}
use Rattle.c960_rules.specs.Tests.Reaches.{reaches}
use Rattle.c960_rules.specs.Castles.{Castles}
use Rattle.c960_rules.specs.Tests.Castles.{castles}
use Rattle.c960_rules.specs.Legal.{Legal}
use Rattle.c960_rules.specs.Tests.Legal.{is_legal, all_moves, promotions}
use Rattle.c960_rules.specs.Inner.Listing.{promotes, triple, moves_between, moves_to_below, moves_from, moves_from_below, legal_one, legal_promotions, legal_between, legal_to_below, legal_on}
use Rattle.c960_board.proofs.lemmas.Tests.{so_parts}
use Rattle.c960_rules.proofs.lemmas.PieceFacts.{piece_on, is_own, is_holds, holds_is, one_kind}
use Rattle.c960_rules.proofs.lemmas.MoveTests.{leaves_check, reaches_tells, castles_tells, legal_tells, legal_from}

-- ---- What a move that passes the test must be.

-- it goes by its piece's rules or is castling
pub goes_by_test : (p : Parts) (m : Triple) → is_legal p m ≡ true → Reaches p m ⊎ Castles p m
unfolding is_legal
goes_by_test p m h =
    let w = so_parts (reaches p m || castles p m) (not (leaves_check p m)) h in
    elim (or_cases (reaches p m) (castles p m) w.0) [
      | inl e ↦ inl (reaches_tells p m e)
      | inr e ↦ inr (castles_tells p m e)
    ]

-- it leaves a square with a piece of the side to move
pub goes_from_own : (p : Parts) (m : Triple) → Reaches p m ⊎ Castles p m → is_of p.turn (piece_on p m.from) ≡ true
goes_from_own p m (inl w) =
    elim w.goes [
      | inl v ↦ is_own p.turn v.kind (piece_on p m.from) v.mover
      | inr v ↦ is_own p.turn Pawn (piece_on p m.from) v.mover
    ]
goes_from_own p m (inr w) = is_own p.turn King (piece_on p m.from) w.king

-- so from another square no move passes the test
none_from_other : (p : Parts) (m : Triple) → is_of p.turn (piece_on p m.from) ≡ false → is_legal p m ≡ false
none_from_other p m h =
    false_from_ne_true (is_legal p m)
    (λ e. both_ways (is_of p.turn (piece_on p m.from)) h (goes_from_own p m (goes_by_test p m e)))

-- an option is not both none and some
pub none_or_some : {X : Type 0} (o : Option X) → o ≡ None → IsSome o → ⊥
none_or_some None e h = cc
none_or_some (Some x) e h = cc

-- a king is not a pawn
no_king_pawn : King ≡ Pawn → ⊥
no_king_pawn e = cc

-- the two parts of the test of a promotion
promoted_parts : (p : Parts) (s t : ℕ) → promotes p s t ≡ true
    → (holds p.turn Pawn (piece_on p s) ≡ true) × (rank_of t ≡ last_rank p.turn)
promoted_parts p s t h =
    let w = and_parts (holds p.turn Pawn (piece_on p s)) (rank_of t == last_rank p.turn) h in
    (w.0, eqb-true (rank_of t) (last_rank p.turn) w.1)

-- a pawn does not reach its last rank without a promotion
pub plain_on_last : (p : Parts) (s t : ℕ) → promotes p s t ≡ true
    → Reaches p (triple s t None) ⊎ Castles p (triple s t None) → ⊥
plain_on_last p s t h (inl w) =
    let v = promoted_parts p s t h in
    let pawn = holds_is p.turn Pawn (piece_on p s) v.0 in
    elim w.goes [
      | inl g ↦ g.officer (one_kind p.turn p.turn g.kind Pawn (sym g.mover ∙ pawn))
      | inr g ↦ none_or_some {X = Kind} None refl (g.promotion.last v.1)
    ]
plain_on_last p s t h (inr w) =
    let v = promoted_parts p s t h in
    let pawn = holds_is p.turn Pawn (piece_on p s) v.0 in
    no_king_pawn (one_kind p.turn p.turn King Pawn (sym w.king ∙ pawn))

-- only a pawn on its last rank is promoted
pub promoted_elsewhere : (p : Parts) (s t : ℕ) (k : Kind) → promotes p s t ≡ false
    → Reaches p (triple s t (Some k)) ⊎ Castles p (triple s t (Some k)) → ⊥
promoted_elsewhere p s t k h (inl w) =
    elim w.goes [
      | inl g ↦ none_or_some (Some k) g.no_promotion refl
      | inr g ↦
          let pawn = is_holds p.turn Pawn (piece_on p s) g.mover in
          none_or_some (Some k) (g.promotion.others (λ e.
          both_ways (promotes p s t) h
          (and_from (holds p.turn Pawn (piece_on p s)) (rank_of t == last_rank p.turn) pawn
          (eq-eqb (rank_of t) (last_rank p.turn) e)))) refl
    ]
promoted_elsewhere p s t k h (inr w) = none_or_some (Some k) w.no_promotion refl

-- ---- The move alone.

-- a legal move is listed
pub one_legal : (p : Parts) (m : Triple) → Legal p m → legal_one p m ≡ m ∷ []
unfolding legal_one
one_legal p m h = let e = legal_from p m h in rw e

-- a move that fails the test is not
one_fails : (p : Parts) (m : Triple) → is_legal p m ≡ false → legal_one p m ≡ []
unfolding legal_one
one_fails p m e = rw e

-- nor is a move that is not legal
one_illegal : (p : Parts) (m : Triple) → IsMove m → (Legal p m → ⊥) → legal_one p m ≡ []
one_illegal p m move h = one_fails p m (false_from_ne_true (is_legal p m) (λ e. h (legal_tells p m move e)))

-- after what was listed before, a legal move is added
pub after_legal : (xs : List Triple) (p : Parts) (m : Triple) → Legal p m → xs ++ m ∷ [] ≡ xs ++ legal_one p m
after_legal xs p m h = ap (λ (l : List Triple). xs ++ l) (sym (one_legal p m h))

-- and another is not
pub after_illegal : (xs : List Triple) (p : Parts) (m : Triple) → IsMove m → (Legal p m → ⊥) → xs ≡ xs ++ legal_one p m
after_illegal xs p m move h =
    sym (append-nil xs) ∙ ap (λ (l : List Triple). xs ++ l) (sym (one_illegal p m move h))

-- ---- The moves between two squares.

-- if no choice passes the test, nothing is listed
pub none_passes : (test : Triple → Bool) (s t : ℕ) (ks : List (Option Kind))
    → ((k : Option Kind) → test (triple s t k) ≡ false) → filter test (map (triple s t) ks) ≡ []
none_passes test s t [] h = refl
none_passes test s t (k ∷ ks) h = let e = h k in rw e (none_passes test s t ks h)

-- the four promotions, one after the other
promotions_are : (p : Parts) (s t : ℕ)
    → legal_promotions p s t ≡ legal_one p (triple s t (Some Knight)) ++ (legal_one p (triple s t (Some Bishop))
    ++ (legal_one p (triple s t (Some Rook)) ++ legal_one p (triple s t (Some Queen))))
unfolding legal_promotions legal_one
promotions_are p s t =
    let knight = triple s t (Some Knight) in
    let bishop = triple s t (Some Bishop) in
    let rook = triple s t (Some Rook) in
    let queen = triple s t (Some Queen) in
    filter-append (is_legal p) (knight ∷ []) (bishop ∷ rook ∷ queen ∷ [])
    ∙ ap (λ (l : List Triple). filter (is_legal p) (knight ∷ []) ++ l)
    (filter-append (is_legal p) (bishop ∷ []) (rook ∷ queen ∷ [])
    ∙ ap (λ (l : List Triple). filter (is_legal p) (bishop ∷ []) ++ l)
    (filter-append (is_legal p) (rook ∷ []) (queen ∷ [])))

-- four stretches, one after the other
four_more : (xs a b c d : List Triple) → (((xs ++ a) ++ b) ++ c) ++ d ≡ xs ++ (a ++ (b ++ (c ++ d)))
four_more xs a b c d = simp append_assoc

-- and after what was listed before
pub promotions_after : (xs a b c d : List Triple) (p : Parts) (s t : ℕ)
    → a ≡ xs ++ legal_one p (triple s t (Some Knight)) → b ≡ a ++ legal_one p (triple s t (Some Bishop))
    → c ≡ b ++ legal_one p (triple s t (Some Rook))
    → d ≡ c ++ legal_one p (triple s t (Some Queen)) → d ≡ xs ++ legal_promotions p s t
promotions_after xs a b c d p s t ea eb ec ed =
    let knight = legal_one p (triple s t (Some Knight)) in
    let bishop = legal_one p (triple s t (Some Bishop)) in
    let rook = legal_one p (triple s t (Some Rook)) in
    let queen = legal_one p (triple s t (Some Queen)) in
    let joined = four_more xs knight bishop rook queen in
    let all = promotions_are p s t in
    rw (ed, ec, eb, ea, all) joined

-- a pawn that reaches its last rank names a promotion
plain_fails : (p : Parts) (s t : ℕ) → promotes p s t ≡ true → is_legal p (triple s t None) ≡ false
plain_fails p s t h =
    let m = triple s t None in
    false_from_ne_true (is_legal p m) (λ e. plain_on_last p s t h (goes_by_test p m e))

-- so the four promotions are all
pub between_promoted : (p : Parts) (s t : ℕ) → promotes p s t ≡ true → legal_between p s t ≡ legal_promotions p s t
unfolding legal_between moves_between legal_promotions
between_promoted p s t h = let plain = plain_fails p s t h in rw plain

-- if no promotion passes the test, the move without one is all
pub between_one : (p : Parts) (s t : ℕ) → ((k : Kind) → is_legal p (triple s t (Some k)) ≡ false)
    → legal_between p s t ≡ legal_one p (triple s t None)
unfolding legal_between moves_between legal_one
between_one p s t h =
    let knight = h Knight in
    let bishop = h Bishop in
    let rook = h Rook in
    let queen = h Queen in
    rw (knight, bishop, rook, queen)

-- this is so if no pawn reaches its last rank
pub between_plain : (p : Parts) (s t : ℕ) → promotes p s t ≡ false → legal_between p s t ≡ legal_one p (triple s t None)
between_plain p s t h =
    between_one p s t (λ k.
    let m = triple s t (Some k) in
    false_from_ne_true (is_legal p m) (λ e. promoted_elsewhere p s t k h (goes_by_test p m e)))

-- nothing is listed from a square without a piece of the side to move
pub between_other : (p : Parts) (s t : ℕ) → is_of p.turn (piece_on p s) ≡ false → legal_between p s t ≡ []
unfolding legal_between moves_between
between_other p s t h = none_passes (is_legal p) s t promotions (λ k. none_from_other p (triple s t k) h)

-- ---- One number more.

-- a range, one number longer
range_more : (a n j : ℕ) → a + n ≡ j → range_with_len a (suc n) ≡ range_with_len a n ++ j ∷ []
range_more a zero j e = let same : a ≡ j = omega arith in ap (λ (x : ℕ). x ∷ []) same
range_more a (suc n) j e = ap (λ (l : List ℕ). a ∷ l) (range_more (a + 1) n j (omega arith))

-- and the stretches of its numbers
stretch_more : (f : ℕ → List Triple) (n : ℕ)
    → flat_map f (range_with_len 0 (n + 1)) ≡ flat_map f (range_with_len 0 n) ++ f n
stretch_more f n =
    let on : n + 1 ≡ suc n = omega arith in
    ap (λ (k : ℕ). flat_map f (range_with_len 0 k)) on
    ∙ (ap (flat_map f) (range_more 0 n n (zero-add n))
    ∙ (flat_map-append f (range_with_len 0 n) (n ∷ [])
    ∙ ap (λ (l : List Triple). flat_map f (range_with_len 0 n) ++ l) (append-nil (f n))))

-- ---- The moves from one square.

-- no goal, no move
pub to_none : (p : Parts) (s : ℕ) → legal_to_below p s 0 ≡ []
unfolding legal_to_below moves_to_below
to_none p s = refl

-- one goal more
to_more : (p : Parts) (s n : ℕ) → legal_to_below p s (n + 1) ≡ legal_to_below p s n ++ legal_between p s n
unfolding legal_to_below moves_to_below legal_between
to_more p s n =
    ap (filter (is_legal p)) (stretch_more (moves_between s) n)
    ∙ filter-append (is_legal p) (flat_map (moves_between s) (range_with_len 0 n)) (moves_between s n)

-- all goals
pub to_all : (p : Parts) (s n : ℕ) → n ≡ 64 → legal_to_below p s n ≡ legal_on p s
unfolding legal_on moves_from legal_to_below
to_all p s n e = ap (λ (k : ℕ). filter (is_legal p) (moves_to_below s k)) e

-- nothing is listed from a square without a piece of the side to move
to_other : (p : Parts) (s n : ℕ) → is_of p.turn (piece_on p s) ≡ false → legal_to_below p s n ≡ []
to_other p s zero h = to_none p s
to_other p s (suc n) h =
    let on : n + 1 ≡ suc n = omega arith in
    let more = to_more p s n in
    let before = to_other p s n h in
    let last = between_other p s n h in
    rw (← on, more, before, last)

-- whatever its goals
pub on_other : (p : Parts) (s : ℕ) → is_of p.turn (piece_on p s) ≡ false → legal_on p s ≡ []
on_other p s h = sym (to_all p s 64 refl) ∙ to_other p s 64 h

-- ---- All moves.

-- the squares' moves are all moves
pub all_are : moves_from_below 64 ≡ all_moves
unfolding moves_from_below moves_from moves_to_below moves_between all_moves
all_are = refl
