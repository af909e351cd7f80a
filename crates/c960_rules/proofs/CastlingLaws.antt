-- Where castling leaves the king and its rook.
use Rattle.std.proofs.Common.{◌≡◌, ◌≢◌, ℕ, Bool, true, false, refl, sym, ◌∙◌, ap, arith, None, ◌⊎◌, inl, inr}
use Rattle.std.specs.Prelude.{nat_lt}
use Rattle.std.proofs.lemmas.Bool.{ltb-true, ltb-false, false_from_ne_true}
use Rattle.std.proofs.lemmas.List.{get_or_past}
use Rattle.c960_board.specs.declared.piece.Colour.{Colour}
use Rattle.c960_board.specs.declared.piece.Colour.TheVariants.{White, Black}
use Rattle.c960_board.specs.declared.piece.Kind.TheVariants.{Rook, King}
use Rattle.c960_board.specs.declared.parts.Parts.{Parts}
use Rattle.c960_board.specs.Squares.{file_of, rank_of, home_rank, home_square}
use Rattle.c960_board.specs.Pieces.{man}
use Rattle.c960_board.specs.Position.{AreRights, IsPosition}
use Rattle.c960_board.specs.Cells.{rights_of, has_right}
use Rattle.c960_board.specs.Moves.{Triple, IsMove}
use Rattle.c960_rules.specs.Castles.{Castles, is_g_side, king_file, rook_file, king_goal, rook_goal}
use Rattle.c960_rules.specs.After.{cell_after, keeps_right, after}
use Rattle.c960_rules.specs.Effects.{CastledTo, CastlesRightly}
use Rattle.c960_rules.proofs.lemmas.PieceFacts.{piece_on, one_kind}
use Rattle.c960_rules.proofs.CellFacts.{castled_cases, king_goes}
use Rattle.c960_rules.proofs.RightsKept.{kept}
use Rattle.c960_rules.proofs.CastlingFacts.{IsCastling, castling, own_rook, king_goal_in, rook_goal_in, file_bound}
use Rattle.c960_rules.proofs.lemmas.AfterFacts.{all_rights_after, right_after, width_after}
use Rattle.c960_rules.proofs.MoveLaws.{stands_after}

-- two files of a home rank are two squares
goals_apart : (c : Colour) (side : Bool) → home_square c (rook_file side) ≢ home_square c (king_file side)
goals_apart White true e = omega arith
goals_apart White false e = omega arith
goals_apart Black true e = omega arith
goals_apart Black false e = omega arith

-- the rook is on its goal
rook_goes : (p : Parts) (m : Triple) → IsCastling p m → cell_after p m (rook_goal p.turn m) ≡ man p.turn Rook
rook_goes p m r =
    elim (castled_cases p m (rook_goal p.turn m) (own_rook p m r)) [
      | inl w ↦ absurd (goals_apart p.turn (is_g_side m) w.square)
      | inr (inl w) ↦ w.holds ∙ r.rook
      | inr (inr (inl w)) ↦ absurd (w.off_rook refl)
      | inr (inr (inr w)) ↦ absurd (w.off_rook refl)
    ]

-- a square that king or rook left, and to which neither went, is empty
left_empty : (p : Parts) (m : Triple) (u : ℕ) → IsCastling p m → u ≢ king_goal p.turn m → u ≢ rook_goal p.turn m
    → (u ≡ m.from) ⊎ (u ≡ m.to) → cell_after p m u ≡ None
left_empty p m u r off_king off_rook left =
    elim (castled_cases p m u (own_rook p m r)) [
      | inl w ↦ absurd (off_king w.square)
      | inr (inl w) ↦ absurd (off_rook w.square)
      | inr (inr (inl w)) ↦ w.holds
      | inr (inr (inr w)) ↦ absurd (elim left [ inl e ↦ w.off_from e | inr e ↦ w.off_to e ])
    ]

-- any other square is as it was
others_same : (p : Parts) (m : Triple) (u : ℕ) → IsCastling p m → u ≢ king_goal p.turn m → u ≢ rook_goal p.turn m
    → u ≢ m.from → u ≢ m.to → cell_after p m u ≡ piece_on p u
others_same p m u r off_king off_rook off_from off_to =
    elim (castled_cases p m u (own_rook p m r)) [
      | inl w ↦ absurd (off_king w.square)
      | inr (inl w) ↦ absurd (off_rook w.square)
      | inr (inr (inl w)) ↦ absurd (elim w.square [ inl e ↦ off_from e | inr e ↦ off_to e ])
      | inr (inr (inr w)) ↦ w.holds
    ]

-- castling goes to the files that its side names
castled : (p : Parts) (m : Triple) → IsCastling p m
    → CastledTo p m (king_file (is_g_side m)) (rook_file (is_g_side m))
castled p m r = record {
  king =
      stands_after p m (king_goal p.turn m) (king_goal_in p.turn m)
      ∙ king_goes p m (own_rook p m r) ∙ r.castles.king;
  rook = stands_after p m (rook_goal p.turn m) (rook_goal_in p.turn m) ∙ rook_goes p m r;
  left = λ u l off_king off_rook left. stands_after p m u l ∙ left_empty p m u r off_king off_rook left;
  others = λ u l off_king off_rook off_from off_to.
      stands_after p m u l ∙ others_same p m u r off_king off_rook off_from off_to;
}

-- a square of a home rank, by its file
on_home : (c : Colour) (s : ℕ) → rank_of s ≡ home_rank c → s ≡ home_square c (file_of s)
on_home White s h = omega arith
on_home Black s h = omega arith

-- the king and its rook are on two files
files_apart : (p : Parts) (m : Triple) → IsPosition p → IsMove m → IsCastling p m → file_of m.from ≢ file_of m.to
files_apart p m valid move r e =
    let rights : AreRights p.placement p.rights p.turn = valid.rights p.turn in
    let rank = rights.king (file_of m.to) m.from (file_bound m.to) move.from r.castles.right r.castles.king in
    let home = on_home p.turn m.from rank in
    let same : m.from ≡ m.to = home ∙ ap (λ (f : ℕ). home_square p.turn f) e ∙ sym r.castles.rook in
    let cell = ap (λ (s : ℕ). piece_on p s) same in
    let kind = one_kind p.turn p.turn King Rook (sym r.castles.king ∙ cell ∙ r.rook) in
    cc

-- by the side of the rook: the g and f files, or the c and d files
sides : (p : Parts) (m : Triple) (side : Bool) → is_g_side m ≡ side → file_of m.from ≢ file_of m.to
    → CastledTo p m (king_file side) (rook_file side) → CastlesRightly p m
sides p m true e apart w = inl (ltb-true (file_of m.from) (file_of m.to) e, w)
sides p m false e apart w =
    let low = ltb-false (file_of m.from) (file_of m.to) e in
    inr (omega arith, w)

-- castling goes where it should
pub castled_rightly : (p : Parts) (m : Triple) → IsPosition p → IsMove m → Castles p m → CastlesRightly p m
castled_rightly p m valid move w =
    let r = castling p m valid w in
    sides p m (is_g_side m) refl (files_apart p m valid move r) (castled p m r)

-- no right of the side is kept by castling
lost : (p : Parts) (m : Triple) (f : ℕ) → Castles p m → keeps_right p m p.turn f ≡ false
lost p m f w = false_from_ne_true (keeps_right p m p.turn f) (λ h. let k = kept p m p.turn f h in k.still w.king)

-- castling leaves its side no right
pub no_right_left : (p : Parts) (m : Triple) (f : ℕ) → Castles p m → has_right (after p m).rights p.turn f ≡ false
unfolding after
no_right_left p m f w =
    elim (nat_lt f 8) as (λ v. nat_lt f 8 ≡ v → has_right (all_rights_after p m) p.turn f ≡ false) [
      | true ↦ λ e. right_after p m p.turn f (ltb-true f 8 e) ∙ lost p m f w
      | false ↦ λ e.
          let high = ltb-false f 8 e in
          let width = width_after p m p.turn in
          get_or_past (rights_of (all_rights_after p m) p.turn) f false (omega arith)
    ] refl
