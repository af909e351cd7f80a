-- What is on one square after a move, case by case.
use Rattle.std.proofs.Common.{◌≡◌, ◌≢◌, ℕ, Bool, true, false, ◌||◌, refl, ◌∙◌, None, ◌⊎◌, inl, inr}
use Rattle.std.specs.Prelude.{◌==◌}
use Rattle.std.proofs.lemmas.Bool.{and_parts, and_from, both_ways, or_cases, or_parts, eqb-true, eqb-false, eq-eqb}
use Rattle.c960_board.specs.declared.parts.Parts.{Parts}
use Rattle.c960_board.specs.Squares.{ahead}
use Rattle.c960_board.specs.Pieces.{Cell, other}
use Rattle.c960_board.specs.Moves.{Triple}
use Rattle.c960_rules.specs.Castles.{king_goal, rook_goal}
use Rattle.c960_rules.specs.After.{landed, is_en_passant, cell_moved, cell_castled, cell_after}
use Rattle.c960_rules.specs.Inner.Safety.{is_passed_on}
use Rattle.c960_rules.proofs.lemmas.PieceFacts.{piece_on, goes_to_own}

-- ---- The form of both definitions.

-- the first value if the first test passes, the second if the second does, otherwise the third
abbrev choice : Bool → Bool → Cell → Cell → Cell → Cell
choice p q x y z =
    elim p as (λ _. Cell) [ true ↦ x | false ↦ elim q as (λ _. Cell) [ true ↦ y | false ↦ z ] ]

-- one of the three
three : (p q : Bool) (x y z : Cell) → (p ≡ true) × (choice p q x y z ≡ x)
    ⊎ (((p ≡ false) × (q ≡ true) × (choice p q x y z ≡ y))
    ⊎ ((p ≡ false) × (q ≡ false) × (choice p q x y z ≡ z)))
three true q x y z = inl (refl, refl)
three false true x y z = inr (inl (refl, refl, refl))
three false false x y z = inr (inr (refl, refl, refl))

-- ---- Ordinary moves.

-- the square of the pawn that is taken en passant
pub record IsPassed (p : Parts) (m : Triple) (u : ℕ) : Type 0 where
  pub en_passant : is_en_passant p m ≡ true
  pub square : u ≡ ahead (other p.turn) m.to

-- the goal
pub record IsLanding (p : Parts) (m : Triple) (u : ℕ) : Type 0 where
  pub square : u ≡ m.to
  pub holds : cell_after p m u ≡ landed (piece_on p m.from) m.promotion

-- a square that the move empties
pub record IsVacated (p : Parts) (m : Triple) (u : ℕ) : Type 0 where
  pub off_to : u ≢ m.to
  pub square : (u ≡ m.from) ⊎ IsPassed p m u
  pub holds : cell_after p m u ≡ None

-- a square that the move leaves as it was
pub record IsUntouched (p : Parts) (m : Triple) (u : ℕ) : Type 0 where
  pub off_from : u ≢ m.from
  pub off_to : u ≢ m.to
  pub not_passed : IsPassed p m u → ⊥
  pub holds : cell_after p m u ≡ piece_on p u

-- a move to no piece of the mover's is ordinary
after_moved : (p : Parts) (m : Triple) (u : ℕ) → goes_to_own p m ≡ false → cell_after p m u ≡ cell_moved p m u
unfolding cell_after
after_moved p m u free = rw (free, cell_after) refl

-- what the test of a vacated square says
vacated : (p : Parts) (m : Triple) (u : ℕ) → ((u == m.from) || is_passed_on p m u) ≡ true → (u ≡ m.from) ⊎ IsPassed p m u
vacated p m u h =
    elim (or_cases (u == m.from) (is_passed_on p m u) h) [
      | inl e ↦ inl (eqb-true u m.from e)
      | inr e ↦
          let w = and_parts (is_en_passant p m) (u == ahead (other p.turn) m.to) e in
          inr (record { en_passant = w.0; square = eqb-true u (ahead (other p.turn) m.to) w.1 })
    ]

-- the square of the pawn taken en passant passes its test
passed : (p : Parts) (m : Triple) (u : ℕ) → IsPassed p m u → is_passed_on p m u ≡ true
passed p m u h =
    let same = eq-eqb u (ahead (other p.turn) m.to) h.square in
    and_from (is_en_passant p m) (u == ahead (other p.turn) m.to) h.en_passant same

-- an ordinary move: the goal, a square left empty, or any other
pub moved_cases : (p : Parts) (m : Triple) (u : ℕ) → goes_to_own p m ≡ false
    → IsLanding p m u ⊎ (IsVacated p m u ⊎ IsUntouched p m u)
unfolding cell_moved
moved_cases p m u free =
    let e = after_moved p m u free in
    let goal : Cell = landed (piece_on p m.from) m.promotion in
    elim (three (u == m.to) ((u == m.from) || is_passed_on p m u) goal None (piece_on p u)) [
      | inl w ↦ inl (record { square = eqb-true u m.to w.0; holds = e ∙ w.1 })
      | inr (inl w) ↦
          inr (inl (record { off_to = eqb-false u m.to w.0; square = vacated p m u w.1; holds = e ∙ w.2 }))
      | inr (inr w) ↦
          let off = or_parts (u == m.from) (is_passed_on p m u) w.1 in
          inr (inr (record {
            off_from = eqb-false u m.from off.0;
            off_to = eqb-false u m.to w.0;
            not_passed = λ h. both_ways (is_passed_on p m u) off.1 (passed p m u h);
            holds = e ∙ w.2;
          }))
    ]

-- what is on the goal
pub landing : (p : Parts) (m : Triple) → goes_to_own p m ≡ false
    → cell_after p m m.to ≡ landed (piece_on p m.from) m.promotion
unfolding cell_moved
landing p m free =
    let same = eq-eqb m.to m.to refl in
    after_moved p m m.to free ∙ rw (same, cell_moved) refl

-- ---- Castling.

-- the king's goal
pub record IsKingGoal (p : Parts) (m : Triple) (u : ℕ) : Type 0 where
  pub square : u ≡ king_goal p.turn m
  pub holds : cell_after p m u ≡ piece_on p m.from

-- the rook's goal
pub record IsRookGoal (p : Parts) (m : Triple) (u : ℕ) : Type 0 where
  pub off_king : u ≢ king_goal p.turn m
  pub square : u ≡ rook_goal p.turn m
  pub holds : cell_after p m u ≡ piece_on p m.to

-- a square that king or rook leave
pub record IsLeft (p : Parts) (m : Triple) (u : ℕ) : Type 0 where
  pub off_king : u ≢ king_goal p.turn m
  pub off_rook : u ≢ rook_goal p.turn m
  pub square : (u ≡ m.from) ⊎ (u ≡ m.to)
  pub holds : cell_after p m u ≡ None

-- a square that castling leaves as it was
pub record IsBeside (p : Parts) (m : Triple) (u : ℕ) : Type 0 where
  pub off_king : u ≢ king_goal p.turn m
  pub off_rook : u ≢ rook_goal p.turn m
  pub off_from : u ≢ m.from
  pub off_to : u ≢ m.to
  pub holds : cell_after p m u ≡ piece_on p u

-- whether king or rook leave the square
abbrev is_left : Triple → ℕ → Bool
is_left m u = (u == m.from) || (u == m.to)

-- nothing where king or rook leave, otherwise what was there
abbrev left_or : Bool → Cell → Cell
left_or left cell = elim left as (λ _. Cell) [ true ↦ None | false ↦ cell ]

-- a move to a piece of the mover's is castling
after_castled : (p : Parts) (m : Triple) (u : ℕ) → goes_to_own p m ≡ true → cell_after p m u ≡ cell_castled p m u
unfolding cell_after
after_castled p m u own = rw (own, cell_after) refl

-- what the test of a square that is left says
left_by : (m : Triple) (u : ℕ) → is_left m u ≡ true → (u ≡ m.from) ⊎ (u ≡ m.to)
left_by m u h =
    elim (or_cases (u == m.from) (u == m.to) h) [
      | inl w ↦ inl (eqb-true u m.from w)
      | inr w ↦ inr (eqb-true u m.to w)
    ]

-- off the goals: a square left empty, or any other
castled_rest : (p : Parts) (m : Triple) (u : ℕ) → u ≢ king_goal p.turn m → u ≢ rook_goal p.turn m
    → cell_after p m u ≡ left_or (is_left m u) (piece_on p u) → IsLeft p m u ⊎ IsBeside p m u
castled_rest p m u off_king off_rook e =
    elim (is_left m u) as (λ v. is_left m u ≡ v → cell_after p m u ≡ left_or v (piece_on p u)
    → IsLeft p m u ⊎ IsBeside p m u) [
      | true ↦ λ h f.
          inl (record { off_king = off_king; off_rook = off_rook; square = left_by m u h; holds = f })
      | false ↦ λ h f.
          let off = or_parts (u == m.from) (u == m.to) h in
          inr (record {
            off_king = off_king;
            off_rook = off_rook;
            off_from = eqb-false u m.from off.0;
            off_to = eqb-false u m.to off.1;
            holds = f;
          })
    ] refl e

-- castling: the king's goal, the rook's goal, a square left empty, or any other
pub castled_cases : (p : Parts) (m : Triple) (u : ℕ) → goes_to_own p m ≡ true
    → IsKingGoal p m u ⊎ (IsRookGoal p m u ⊎ (IsLeft p m u ⊎ IsBeside p m u))
unfolding cell_castled
castled_cases p m u own =
    let e = after_castled p m u own in
    let king : Bool = u == king_goal p.turn m in
    let rook : Bool = u == rook_goal p.turn m in
    let rest : Cell = left_or (is_left m u) (piece_on p u) in
    elim (three king rook (piece_on p m.from) (piece_on p m.to) rest) [
      | inl w ↦ inl (record { square = eqb-true u (king_goal p.turn m) w.0; holds = e ∙ w.1 })
      | inr (inl w) ↦
          let off_king = eqb-false u (king_goal p.turn m) w.0 in
          let at_rook = eqb-true u (rook_goal p.turn m) w.1 in
          inr (inl (record { off_king = off_king; square = at_rook; holds = e ∙ w.2 }))
      | inr (inr w) ↦
          let off_king = eqb-false u (king_goal p.turn m) w.0 in
          let off_rook = eqb-false u (rook_goal p.turn m) w.1 in
          inr (inr (castled_rest p m u off_king off_rook (e ∙ w.2)))
    ]

-- the king is on its goal
pub king_goes : (p : Parts) (m : Triple) → goes_to_own p m ≡ true
    → cell_after p m (king_goal p.turn m) ≡ piece_on p m.from
unfolding cell_castled
king_goes p m own =
    let same = eq-eqb (king_goal p.turn m) (king_goal p.turn m) refl in
    after_castled p m (king_goal p.turn m) own ∙ rw (same, cell_castled) refl
