-- Where pieces go, as tests of the goal.
use Rattle.std.proofs.Common.{◌≡◌, ℕ, ◌+◌, ◌^◌, ◌<◌, Bool, true, false, not, ◌&&◌, ◌||◌, Option, Some, None, refl, ap, sym, ◌∙◌, inl, inr, arith, w64}
use Rattle.std.specs.Prelude.{◌==◌, is_none, is_some, bit_and, bit_or}
use Rattle.std.specs.Int.{bit_not}
use Rattle.std.proofs.Math.Bool.{and-false, and-true, and_assoc}
use Rattle.std.proofs.lemmas.Bool.Decides.{same_from_decides, Decides-and, Decides-eqb, Decides-like}
use Rattle.std.proofs.lemmas.Bool.{and_parts, both_ways, eqb-true, or_parts, false_from_ne_true}
use Rattle.c960_board.specs.declared.piece.Colour.{Colour}
use Rattle.c960_board.specs.declared.piece.Colour.TheVariants.{White, Black}
use Rattle.c960_board.specs.declared.piece.Kind.{Kind}
use Rattle.c960_board.specs.declared.piece.Kind.TheVariants.{Pawn, King}
use Rattle.c960_board.specs.declared.piece.Piece.{Piece}
use Rattle.c960_board.specs.declared.parts.Parts.{Parts}
use Rattle.c960_board.specs.Squares.{file_of, rank_of, ahead}
use Rattle.c960_board.specs.Pieces.{Cell, man, other, is_of, holds}
use Rattle.c960_board.specs.Position.{IsPosition}
use Rattle.c960_board.specs.Moves.{Triple}
use Rattle.c960_board.specs.Sets.{is_occupied, set_of, is_in}
use Rattle.c960_rules.specs.Lines.{same_file}
use Rattle.c960_rules.specs.Tests.Attacks.{attacks, is_forward}
use Rattle.c960_rules.specs.Reaches.{Reaches, pawn_rank, last_rank, is_target}
use Rattle.c960_rules.specs.Tests.Reaches.{is_empty, promotes_rightly, steps, steps_twice, takes, reaches}
use Rattle.c960_rules.specs.Castles.{Castles}
use Rattle.c960_rules.specs.Tests.Legal.{is_legal}
use Rattle.c960_rules.specs.Inner.Listing.{promotes, triple, legal_one, legal_between, pawn_goes, goes_to, NoneGoes}
use Rattle.c960_rules.specs.Inner.Wheres.{where_set, is_pawn_hit, attacks_over, attacks_over_as}
use Rattle.c960_rules.proofs.AttackAgree.{attacks_agree}
use Rattle.c960_rules.proofs.InnerRanks.{IsInner, pawn_inner}
use Rattle.c960_rules.proofs.lemmas.MoveTests.{reaches_tells, reaches_from}
use Rattle.c960_rules.proofs.ListFacts.{none_or_some, goes_by_test, between_one, plain_on_last, promoted_elsewhere}
use Rattle.c960_rules.proofs.lemmas.PieceFacts.{piece_on, is_holds, is_own}
use Rattle.c960_rules.proofs.WhereFacts.{in_where, where_agree, where_or, where_and, where_not, where_itself, only_at, occupied_where}

-- ---- Pawns.

-- a pawn is on neither end rank
pub pawn_in : (p : Parts) (s : ℕ) → IsPosition p → s < 64 → piece_on p s ≡ man p.turn Pawn → IsInner s
pawn_in p s valid l e = pawn_inner p s valid l (is_holds p.turn Pawn (piece_on p s) e)

-- two equations that hold exactly if a third does
two_equations : (a b c d t u : ℕ) → (a ≡ b → c ≡ d → t ≡ u) → (t ≡ u → (a ≡ b) × (c ≡ d)) → ((a == b) && (c == d)) ≡ (t == u)
two_equations a b c d t u there back =
    same_from_decides {P = t ≡ u} ((a == b) && (c == d)) (t == u)
    (Decides-like ((a == b) && (c == d)) (λ e. there e.0 e.1) back (Decides-and (a == b) (c == d) (Decides-eqb a b) (Decides-eqb c d)))
    (Decides-eqb t u)

-- one square forward is the square ahead
forward_one : (c : Colour) (s t : ℕ) → IsInner s → t < 64 → (same_file s t && is_forward c s t) ≡ (t == ahead c s)
forward_one White s t inner l =
    let low = inner.low in
    let high = inner.high in
    two_equations (file_of s) (file_of t) (rank_of t) (rank_of s + 1) t (ahead White s) (λ file rank. omega arith)
    (λ e. (omega arith, omega arith))
forward_one Black s t inner l =
    let low = inner.low in
    let high = inner.high in
    two_equations (file_of s) (file_of t) (rank_of s) (rank_of t + 1) t (ahead Black s) (λ file rank. omega arith)
    (λ e. (omega arith, omega arith))

empty_free : (o : Cell) → is_none o ≡ not (is_occupied o)
empty_free None = refl
empty_free (Some q) = refl

-- one step, by the square ahead
pub step_is : (p : Parts) (s t : ℕ) → IsInner s → t < 64
    → steps p.placement p.turn s t ≡ ((t == ahead p.turn s) && not (is_occupied (piece_on p t)))
unfolding steps
step_is p s t inner l =
    sym (and_assoc (same_file s t) (is_forward p.turn s t) (is_empty p.placement t))
    ∙ ap (λ (b : Bool). b && is_empty p.placement t) (forward_one p.turn s t inner l)
    ∙ ap (λ (b : Bool). (t == ahead p.turn s) && b) (empty_free (piece_on p t))

-- one square if it is empty, as sets that the code has read
pub only_free : {k one occupied : ℕ} (p : Parts) (goal : ℕ) → IsPosition p → k ≡ goal → one ≡ where_set (λ t. t == k)
    → occupied ≡ set_of is_occupied p.placement
    → bit_and one (bit_not w64 occupied) ≡ where_set (λ t. (t == goal) && not (is_occupied (piece_on p t)))
only_free p goal valid e is all =
    where_and (λ t. t == goal) (λ t. not (is_occupied (piece_on p t))) _ _ (only_at e is)
    (where_not (λ t. is_occupied (piece_on p t)) _ (occupied_where p valid all))

-- the square ahead of a pawn on its first rank
pub first_ahead : (c : Colour) (s : ℕ) → (rank_of s == pawn_rank c) ≡ true → IsInner (ahead c s)
first_ahead White s h = let e = eqb-true (rank_of s) 1 h in record { low = omega arith; high = omega arith }
first_ahead Black s h = let e = eqb-true (rank_of s) 6 h in record { low = omega arith; high = omega arith }

-- two steps: from no other rank
pub twice_elsewhere : (p : Parts) (s t : ℕ) → (rank_of s == pawn_rank p.turn) ≡ false → steps_twice p.placement p.turn s t ≡ false
unfolding steps_twice
twice_elsewhere p s t h = rw h refl

barred_bits : (a b : Bool) (o e : Cell) → is_occupied o ≡ true → (a && (b && (is_none o && is_none e))) ≡ false
barred_bits a b None e h = cc
barred_bits a b (Some q) e h = ap (λ (x : Bool). a && x) (and-false b) ∙ and-false a

-- over no piece
pub twice_barred : (p : Parts) (s t : ℕ) → is_occupied (piece_on p (ahead p.turn s)) ≡ true → steps_twice p.placement p.turn s t ≡ false
unfolding steps_twice
twice_barred p s t h =
    barred_bits (rank_of s == pawn_rank p.turn) (t == ahead p.turn (ahead p.turn s)) (piece_on p (ahead p.turn s)) (piece_on p t) h

open_bits : (a b : Bool) (o e : Cell) → a ≡ true → is_occupied o ≡ false → (a && (b && (is_none o && is_none e))) ≡ (b && not (is_occupied e))
open_bits true b None None h f = refl
open_bits true b None (Some q) h f = refl
open_bits true b (Some q) e h f = cc
open_bits false b o e h f = cc

-- otherwise to the square that is empty
pub twice_is : (p : Parts) (s t : ℕ) → (rank_of s == pawn_rank p.turn) ≡ true → is_occupied (piece_on p (ahead p.turn s)) ≡ false
    → steps_twice p.placement p.turn s t ≡ ((t == ahead p.turn (ahead p.turn s)) && not (is_occupied (piece_on p t)))
unfolding steps_twice
twice_is p s t h f =
    open_bits (rank_of s == pawn_rank p.turn) (t == ahead p.turn (ahead p.turn s)) (piece_on p (ahead p.turn s)) (piece_on p t) h f

-- a pawn's attack, by its table
pawn_attacks : (p : Parts) (s t : ℕ) → IsPosition p → piece_on p s ≡ man p.turn Pawn → attacks p.placement s t ≡ is_pawn_hit p.turn s t
pawn_attacks p s t valid e =
    let occupied = set_of is_occupied p.placement in
    attacks_agree p.placement occupied s t valid.placement.full refl ∙ ap (λ (o : Cell). attacks_over occupied o s t) e

-- taking, by the table
pub prey_is : (p : Parts) (s t : ℕ) → IsPosition p → piece_on p s ≡ man p.turn Pawn
    → takes p.placement p.turn p.target s t ≡ (is_pawn_hit p.turn s t && (is_of (other p.turn) (piece_on p t) || is_target p.target t))
unfolding takes
prey_is p s t valid e =
    ap (λ (b : Bool). b && (is_of (other p.turn) (piece_on p t) || is_target p.target t)) (pawn_attacks p s t valid e)

-- ---- All pieces.

-- the tests of a cell, for the side that the code has read
pub own_test : (b : Bool) (c d : Colour) (o : Cell) → b ≡ is_of c o → c ≡ d → b ≡ is_of d o
own_test b c d o e same = rw (← same) e

pub holds_test : (k : Kind) (b : Bool) (c d : Colour) (o : Cell) → b ≡ holds c k o → c ≡ d → b ≡ holds d k o
holds_test k b c d o e same = rw (← same) e

abbrev goes_by : Bool → Bool → Bool → Bool → Bool
goes_by a h x y = elim a as (λ _. Bool) [ false ↦ false | true ↦ elim h as (λ _. Bool) [ true ↦ x | false ↦ y ] ]

none_by : (a n h x y : Bool) → a ≡ false → goes_by (a && n) h x y ≡ false
none_by true n h x y e = cc
none_by false n h x y e = refl

-- what is not of the side goes nowhere
pub goes_none : (p : Parts) (s t : ℕ) → is_of p.turn (piece_on p s) ≡ false → goes_to p s t ≡ false
unfolding goes_to
goes_none p s t h =
    none_by (is_of p.turn (piece_on p s)) (not (is_of p.turn (piece_on p t))) (holds p.turn Pawn (piece_on p s)) (pawn_goes p s t)
    (attacks p.placement s t) h

own_by : (a n h x y : Bool) → a ≡ true → goes_by (a && n) h x y ≡ (goes_by true h x y && n)
own_by true true true x y e = sym (and-true x)
own_by true true false x y e = sym (and-true y)
own_by true false h x y e = sym (and-false (goes_by true h x y))
own_by false n h x y e = cc

-- a pawn
pub goes_pawn : (p : Parts) (s t : ℕ) → is_of p.turn (piece_on p s) ≡ true → holds p.turn Pawn (piece_on p s) ≡ true
    → goes_to p s t ≡ (pawn_goes p s t && not (is_of p.turn (piece_on p t)))
unfolding goes_to
goes_pawn p s t own pawn =
    own_by (is_of p.turn (piece_on p s)) (not (is_of p.turn (piece_on p t))) (holds p.turn Pawn (piece_on p s)) (pawn_goes p s t)
    (attacks p.placement s t) own
    ∙ rw pawn refl

-- another piece
pub goes_officer : (p : Parts) (s t : ℕ) → is_of p.turn (piece_on p s) ≡ true → holds p.turn Pawn (piece_on p s) ≡ false
    → goes_to p s t ≡ (attacks p.placement s t && not (is_of p.turn (piece_on p t)))
unfolding goes_to
goes_officer p s t own officer =
    own_by (is_of p.turn (piece_on p s)) (not (is_of p.turn (piece_on p t))) (holds p.turn Pawn (piece_on p s)) (pawn_goes p s t)
    (attacks p.placement s t) own
    ∙ rw officer refl

-- a piece of the side is its own
own_of : (p : Parts) (s : ℕ) (q : Piece) → piece_on p s ≡ Some q → q.colour ≡ p.turn → is_of p.turn (piece_on p s) ≡ true
own_of p s q e side = is_own p.turn q.kind (piece_on p s) (e ∙ rw (← side) refl)

-- another piece, over the occupied squares
pub officers_go : (p : Parts) (s set occupied : ℕ) (q : Piece) → IsPosition p → piece_on p s ≡ Some q
    → q.colour ≡ p.turn → holds p.turn Pawn (piece_on p s) ≡ false → occupied ≡ set_of is_occupied p.placement
    → set ≡ where_set (λ u. attacks_over_as occupied q.colour q.kind s u && not (is_of p.turn (piece_on p u)))
    → set ≡ where_set (λ u. goes_to p s u)
officers_go p s set occupied q valid e side officer eo es =
    let own = own_of p s q e side in
    es ∙ where_agree (λ u. attacks_over_as occupied q.colour q.kind s u && not (is_of p.turn (piece_on p u))) (λ u. goes_to p s u)
    (λ u l.
    let attack =
    attacks_agree p.placement occupied s u valid.placement.full eo ∙ ap (λ (o : Cell). attacks_over occupied o s u) e in
    ap (λ (b : Bool). b && not (is_of p.turn (piece_on p u))) (sym attack) ∙ sym (goes_officer p s u own officer))

-- a pawn
pub pawns_go : (p : Parts) (s result : ℕ) → piece_on p s ≡ man p.turn Pawn
    → result ≡ where_set (λ u. pawn_goes p s u && not (is_of p.turn (piece_on p u))) → result ≡ where_set (λ u. goes_to p s u)
pawns_go p s result there e =
    let own = is_own p.turn Pawn (piece_on p s) there in
    let pawn = is_holds p.turn Pawn (piece_on p s) there in
    e ∙ where_agree (λ u. pawn_goes p s u && not (is_of p.turn (piece_on p u))) (λ u. goes_to p s u)
    (λ u l. sym (goes_pawn p s u own pawn))

-- ---- From the test to the rule.

fits_by : (a n h l x y : Bool) (k : Option Kind) → goes_by (a && n) h x y ≡ true → (h && l) ≡ false → k ≡ None
    → goes_by (a && n) h (promotes_rightly l k && x) (is_none k && y) ≡ true
fits_by true true true true x y k g f e = cc
fits_by true true true false x y None g f e = g
fits_by true true true false x y (Some j) g f e = cc
fits_by true true false l x y None g f e = g
fits_by true true false l x y (Some j) g f e = cc
fits_by true false h l x y k g f e = cc
fits_by false n h l x y k g f e = cc

due_by : (a n h l x y : Bool) (j : Kind) → goes_by (a && n) h x y ≡ true → (h && l) ≡ true
    → goes_by (a && n) h (promotes_rightly l (Some j) && x) (is_none (Some j) && y) ≡ true
due_by true true true true x y j g f = g
due_by true true true false x y j g f = cc
due_by true true false l x y j g f = cc
due_by true false h l x y j g f = cc
due_by false n h l x y j g f = cc

any_by : (a n h l x y : Bool) (k : Option Kind) → goes_by (a && n) h (promotes_rightly l k && x) (is_none k && y) ≡ true
    → goes_by (a && n) h x y ≡ true
any_by true true true l x y k g = (and_parts (promotes_rightly l k) x g).1
any_by true true false l x y k g = (and_parts (is_none k) y g).1
any_by true false h l x y k g = cc
any_by false n h l x y k g = cc

-- what goes there without a promotion
pub reaches_plain : (p : Parts) (s t : ℕ) → goes_to p s t ≡ true → promotes p s t ≡ false → Reaches p (triple s t None)
unfolding goes_to reaches pawn_goes
reaches_plain p s t g f =
    reaches_tells p (triple s t None)
    (fits_by (is_of p.turn (piece_on p s)) (not (is_of p.turn (piece_on p t))) (holds p.turn Pawn (piece_on p s)) (rank_of t == last_rank p.turn)
    (steps p.placement p.turn s t || (steps_twice p.placement p.turn s t || takes p.placement p.turn p.target s t)) (attacks p.placement s t) None g f refl)

-- and with one
pub reaches_due : (p : Parts) (s t : ℕ) (j : Kind) → goes_to p s t ≡ true → promotes p s t ≡ true → Reaches p (triple s t (Some j))
unfolding goes_to reaches pawn_goes
reaches_due p s t j g f =
    reaches_tells p (triple s t (Some j))
    (due_by (is_of p.turn (piece_on p s)) (not (is_of p.turn (piece_on p t))) (holds p.turn Pawn (piece_on p s)) (rank_of t == last_rank p.turn)
    (steps p.placement p.turn s t || (steps_twice p.placement p.turn s t || takes p.placement p.turn p.target s t)) (attacks p.placement s t) j g f)

-- from the rule to the test
pub goes_from : (p : Parts) (s t : ℕ) (k : Option Kind) → Reaches p (triple s t k) → goes_to p s t ≡ true
unfolding goes_to reaches pawn_goes
goes_from p s t k w =
    any_by (is_of p.turn (piece_on p s)) (not (is_of p.turn (piece_on p t))) (holds p.turn Pawn (piece_on p s)) (rank_of t == last_rank p.turn)
    (steps p.placement p.turn s t || (steps_twice p.placement p.turn s t || takes p.placement p.turn p.target s t)) (attacks p.placement s t) k
    (reaches_from p (triple s t k) w)

-- a promotion is named if a pawn reaches its last rank, and only then
named_by : (p : Parts) (s t : ℕ) (k : Option Kind) (b : Bool) → promotes p s t ≡ b → Reaches p (triple s t k) → is_some k ≡ b
named_by p s t None true h w = absurd (plain_on_last p s t h (inl w))
named_by p s t None false h w = refl
named_by p s t (Some j) true h w = refl
named_by p s t (Some j) false h w = absurd (promoted_elsewhere p s t j h (inl w))

reached_by : (p : Parts) (s t : ℕ) (k : Option Kind) → goes_to p s t ≡ true → is_some k ≡ promotes p s t → Reaches p (triple s t k)
reached_by p s t None g e = reaches_plain p s t g (sym e)
reached_by p s t (Some j) g e = reaches_due p s t j g (sym e)

-- a move goes by its piece's rules if its goal is among the piece's, and it names a promotion if it must
pub reaches_if : (p : Parts) (m : Triple) (goals : ℕ) → goals ≡ where_set (λ t. goes_to p m.from t) → m.to < 64 → is_in goals m.to ≡ true
    → is_some m.promotion ≡ promotes p m.from m.to → Reaches p m
reaches_if p m goals e l h named =
    reached_by p m.from m.to m.promotion (sym (in_where (λ t. goes_to p m.from t) goals m.to e l) ∙ h) named

-- and only there
pub reaches_only : (p : Parts) (m : Triple) (goals : ℕ) → goals ≡ where_set (λ t. goes_to p m.from t) → m.to < 64 → Reaches p m
    → (is_in goals m.to ≡ true) × (is_some m.promotion ≡ promotes p m.from m.to)
reaches_only p m goals e l w = (
  in_where (λ t. goes_to p m.from t) goals m.to e l ∙ goes_from p m.from m.to m.promotion w,
  named_by p m.from m.to m.promotion (promotes p m.from m.to) refl w,
)

-- off the goals no move goes by its piece's rules
pub off_goals : (p : Parts) (s t : ℕ) (k : Option Kind) → goes_to p s t ≡ false → Reaches p (triple s t k) → ⊥
off_goals p s t k h w = both_ways (goes_to p s t) h (goes_from p s t k w)

-- whether the piece goes to a square, from an answer that tells whether the square is among the goals
pub goal_tells : {goals : ℕ} {answer test : Bool} (p : Parts) (s t : ℕ) → goals ≡ where_set (λ u. goes_to p s u) → t < 64
    → answer ≡ is_in goals t → answer ≡ test → goes_to p s t ≡ test
goal_tells p s t e l told is = sym (in_where (λ u. goes_to p s u) _ t e l) ∙ sym told ∙ is

-- ---- The squares to which nothing goes.

pub no_kings_castle : (p : Parts) (s t : ℕ) (k : Option Kind) → holds p.turn King (piece_on p s) ≡ false → Castles p (triple s t k) → ⊥
no_kings_castle p s t k h w = both_ways (holds p.turn King (piece_on p s)) h (is_holds p.turn King (piece_on p s) w.king)

-- off the goals and the rooks
pub none_goes : (p : Parts) (s t goals rooks : ℕ) → goals ≡ where_set (λ u. goes_to p s u) → rooks < 2 ^ 64
    → ((k : Option Kind) → is_in rooks t ≡ false → Castles p (triple s t k) → ⊥) → t < 64 → is_in (bit_or goals rooks) t ≡ false
    → NoneGoes p s t
none_goes p s t goals rooks eg fits castle l out =
    let set = where_or (λ u. goes_to p s u) (is_in rooks) goals rooks eg (where_itself rooks fits) in
    let off = or_parts (goes_to p s t) (is_in rooks t)
    (sym (in_where (λ u. goes_to p s u || is_in rooks u) (bit_or goals rooks) t set l) ∙ out) in
    record {
      reaches = λ k w. off_goals p s t k off.0 w;
      castles = λ k w. castle k off.1 w;
    }

-- if the piece does not go there, only castling is left
pub between_off : (p : Parts) (s t : ℕ) → goes_to p s t ≡ false → legal_between p s t ≡ legal_one p (triple s t None)
between_off p s t h =
    between_one p s t (λ k.
    let m = triple s t (Some k) in
    false_from_ne_true (is_legal p m) (λ e.
    elim (goes_by_test p m e) [
      | inl w ↦ off_goals p s t (Some k) h w
      | inr w ↦ none_or_some (Some k) w.no_promotion refl
    ]))
