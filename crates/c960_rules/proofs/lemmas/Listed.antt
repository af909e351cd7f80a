-- The list of all legal moves contains the legal moves.
use Rattle.std.proofs.Common.{◌≡◌, ℕ, ◌<◌, ◌≤◌, arith, List, [], ◌∷◌, true, refl, sym, subst, Option, Some, None}
use Rattle.std.specs.List.{Contains, range_with_len}
use Rattle.c960_board.specs.declared.piece.Kind.{Kind}
use Rattle.c960_board.specs.declared.piece.Kind.TheVariants.{Pawn, Knight, Bishop, Rook, Queen, King}
use Rattle.c960_board.specs.declared.parts.Parts.{Parts}
use Rattle.c960_board.specs.Moves.{Triple, IsMove, is_promotion}
use Rattle.c960_rules.specs.Legal.{Legal}
use Rattle.c960_rules.specs.Tests.Legal.{is_legal, legal_list, all_moves, promotions}
use Rattle.c960_rules.specs.Inner.Listing.{triple, moves_between, moves_to_below, moves_from, moves_from_below}
use Rattle.c960_rules.proofs.lemmas.Contained.{in_none, in_first, kept, kept_only, passes, in_stretch, of_stretch, in_image, of_image, in_range, of_range}
use Rattle.c960_rules.proofs.lemmas.MoveTests.{legal_tells, legal_from}
use Rattle.c960_rules.proofs.ListFacts.{all_are}

-- every promotion is tried
every_promotion : (k : Option Kind) → is_promotion k ≡ true → Contains promotions k
every_promotion None h = (0, omega arith, refl)
every_promotion (Some Knight) h = (1, omega arith, refl)
every_promotion (Some Bishop) h = (2, omega arith, refl)
every_promotion (Some Rook) h = (3, omega arith, refl)
every_promotion (Some Queen) h = (4, omega arith, refl)
every_promotion (Some Pawn) h = cc
every_promotion (Some King) h = cc

-- the triples of two squares contain each move between them
in_between : (m : Triple) → IsMove m → Contains (moves_between m.from m.to) m
unfolding moves_between
in_between m h = in_image (triple m.from m.to) promotions m.promotion (every_promotion m.promotion h.promotion)

-- and no other
of_between : (s t : ℕ) (m : Triple) → s < 64 → t < 64 → Contains (moves_between s t) m → IsMove m
unfolding moves_between
of_between s t m on_board to_board h =
    let w = of_image (triple s t) promotions m h in
    let promotion = passes is_promotion promotions w.0 refl w.1 in
    subst (λ (n : Triple). IsMove n) w.2 (record { from = on_board; to = to_board; promotion = promotion })

-- the triples from a square contain each move from it
in_to : (m : Triple) (n : ℕ) → IsMove m → m.to < n → Contains (moves_to_below m.from n) m
unfolding moves_to_below
in_to m n h l = in_stretch (moves_between m.from) (range_with_len 0 n) m.to m (in_range n m.to l) (in_between m h)

-- and no other
of_to : (s n : ℕ) (m : Triple) → s < 64 → n ≤ 64 → Contains (moves_to_below s n) m → IsMove m
unfolding moves_to_below
of_to s n m on_board l h =
    let w = of_stretch (moves_between s) (range_with_len 0 n) m h in
    let below = of_range n w.0 w.1 in
    of_between s w.0 m on_board (omega arith) w.2

-- all triples contain each move
in_from : (m : Triple) (n : ℕ) → IsMove m → m.from < n → Contains (moves_from_below n) m
unfolding moves_from_below moves_from
in_from m n h l = in_stretch moves_from (range_with_len 0 n) m.from m (in_range n m.from l) (in_to m 64 h h.to)

-- and nothing else
of_from : (n : ℕ) (m : Triple) → n ≤ 64 → Contains (moves_from_below n) m → IsMove m
unfolding moves_from_below moves_from
of_from n m l h =
    let w = of_stretch moves_from (range_with_len 0 n) m h in
    let below = of_range n w.0 w.1 in
    of_to w.0 64 m (omega arith) (omega arith) w.2

-- a legal move is in the list
pub listed : (p : Parts) (m : Triple) → Legal p m → Contains (legal_list p) m
unfolding legal_list
listed p m h =
    let move = subst (λ (l : List Triple). Contains l m) all_are (in_from m 64 h.move h.move.from) in
    kept (is_legal p) all_moves m move (legal_from p m h)

-- and each move of the list is legal
pub listed_only : (p : Parts) (m : Triple) → Contains (legal_list p) m → Legal p m
unfolding legal_list
listed_only p m h =
    let w = kept_only (is_legal p) all_moves m h in
    let move = of_from 64 m (omega arith) (subst (λ (l : List Triple). Contains l m) (sym all_are) w.0) in
    legal_tells p m move w.1

-- an empty list has no legal move
pub empty_none : (p : Parts) → legal_list p ≡ [] → (m : Triple) × Legal p m → ⊥
empty_none p e w = in_none w.0 (subst (λ (l : List Triple). Contains l w.0) e (listed p w.0 w.1))

-- a list without elements is empty
no_element : (l : List Triple) → ((m : Triple) → Contains l m → ⊥) → l ≡ []
no_element [] none = refl
no_element (m ∷ l) none = absurd (none m (in_first m l))

-- without a legal move the list is empty
pub none_empty : (p : Parts) → ((m : Triple) × Legal p m → ⊥) → legal_list p ≡ []
none_empty p none = no_element (legal_list p) (λ m h. none (m, listed_only p m h))
