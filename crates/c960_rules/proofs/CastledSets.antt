-- The sets after castling.
use Rattle.std.proofs.Common.{◌≡◌, ◌≢◌, ℕ, ◌*◌, ◌%◌, ◌^◌, ◌<◌, Bool, true, false, not, ◌&&◌, ◌||◌, None, length, refl, ap, sym, ◌∙◌, ◌⊎◌, inl, inr, IsTrue, arith, w64}
use Rattle.std.specs.Prelude.{◌==◌, ◌↔◌, bit_and, bit_or}
use Rattle.std.specs.Int.{bit_not}
use mir.Val.{bool_byte}
use Rattle.std.proofs.Math.Bool.{and-false, and-true, or-false, or-true}
use Rattle.std.proofs.lemmas.Bool.{cases_eq, eq-eqb, ne_eqb, eqb-false, or_right, not-true, not_from_false}
use Rattle.c960_board.specs.declared.piece.Colour.{Colour}
use Rattle.c960_board.specs.declared.piece.Colour.TheVariants.{White, Black}
use Rattle.c960_board.specs.declared.piece.Kind.TheVariants.{Pawn, Knight, Bishop, Rook, Queen, King}
use Rattle.c960_board.specs.declared.parts.Parts.{Parts}
use Rattle.c960_board.specs.Moves.{Triple}
use Rattle.c960_board.specs.Squares.{home_square}
use Rattle.c960_board.specs.Pieces.{Cell, other, is_of}
use Rattle.c960_board.specs.Position.{IsPosition}
use Rattle.c960_board.specs.Cells.{cell_at}
use Rattle.c960_board.specs.Sets.{is_kind, is_occupied, set_of, sets_of}
use Rattle.c960_rules.specs.After.{cell_after, placement_after}
use Rattle.c960_rules.specs.Inner.Carried.{taken_off, put_on}
use Rattle.c960_rules.specs.Castles.{is_g_side, king_file, rook_file, king_goal, rook_goal}
use Rattle.c960_rules.specs.Check.{InCheck}
use Rattle.c960_rules.specs.Inner.Safety.{is_occupied_castled}
use Rattle.c960_rules.specs.Inner.Wheres.{where_set, is_attacker_on, attacks_over}
use Rattle.c960_rules.proofs.lemmas.PieceFacts.{piece_on, is_own}
use Rattle.c960_rules.proofs.lemmas.AfterFacts.{has_king, cells_after, full_after}
use Rattle.c960_rules.proofs.CellFacts.{castled_cases, king_goes}
use Rattle.c960_rules.proofs.CastlingFacts.{IsCastling, own_rook, king_castled, king_goal_vacant, rook_goal_vacant, king_goal_in, rook_goal_in}
use Rattle.c960_rules.proofs.WhereFacts.{where_or, where_and, where_not, where_agree, set_where}
use Rattle.c960_rules.proofs.AttackAgree.{attackers_are, some_attacked, none_attacked}
use Rattle.c960_rules.proofs.AfterSets.{own_not_other, own_occupied, landing_set}

-- the goals of king and rook differ
files_apart : (c : Colour) (side : Bool) → home_square c (king_file side) ≡ home_square c (rook_file side) → ⊥
files_apart White true e = omega arith
files_apart White false e = omega arith
files_apart Black true e = omega arith
files_apart Black false e = omega arith

goals_apart : (c : Colour) (m : Triple) → king_goal c m ≡ rook_goal c m → ⊥
goals_apart c m e = files_apart c (is_g_side m) e

-- one of the two squares of the move, or neither
two_squares : (m : Triple) (u : ℕ) → ((u ≡ m.from) ⊎ (u ≡ m.to)) ⊎ ((u ≢ m.from) × (u ≢ m.to))
two_squares m u =
    elim (cases_eq u m.from) [
      | inl e ↦ inl (inl e)
      | inr ne ↦ elim (cases_eq u m.to) [ inl e ↦ inl (inr e) | inr ne_too ↦ inr (ne, ne_too) ]
    ]

module _ (p : Parts) (m : Triple) (r : IsCastling p m) where
  king_own : is_of p.turn (piece_on p m.from) ≡ true
  king_own = is_own p.turn King (piece_on p m.from) r.castles.king

  rook_own : is_of p.turn (piece_on p m.to) ≡ true
  rook_own = is_own p.turn Rook (piece_on p m.to) r.rook

  -- which squares are occupied
  occupied_at : (u : ℕ) → is_occupied (cell_after p m u) ≡ is_occupied_castled p m u
  occupied_at u =
      elim (castled_cases p m u (own_rook p m r)) [
        | inl w ↦
            let holds = w.holds in
            let some = own_occupied p.turn (piece_on p m.from) king_own in
            let on = eq-eqb u (king_goal p.turn m) w.square in
            rw (holds, some, on) (sym (or-true _))
        | inr (inl w) ↦
            let holds = w.holds in
            let some = own_occupied p.turn (piece_on p m.to) rook_own in
            let off = ne_eqb u (king_goal p.turn m) w.off_king in
            let on = eq-eqb u (rook_goal p.turn m) w.square in
            rw (holds, some, off, on) (sym (or-true _))
        | inr (inr (inl w)) ↦
            let holds = w.holds in
            let off = ne_eqb u (king_goal p.turn m) w.off_king in
            let off_too = ne_eqb u (rook_goal p.turn m) w.off_rook in
            elim w.square [
              | inl e ↦ let at = eq-eqb u m.from e in rw (holds, off, off_too, at) (simp (and-false))
              | inr e ↦ let at = eq-eqb u m.to e in rw (holds, off, off_too, at) (simp (and-false))
            ]
        | inr (inr (inr w)) ↦
            let holds = w.holds in
            let off = ne_eqb u (king_goal p.turn m) w.off_king in
            let off_too = ne_eqb u (rook_goal p.turn m) w.off_rook in
            let at = ne_eqb u m.from w.off_from in
            let at_too = ne_eqb u m.to w.off_to in
            rw (holds, off, off_too, at, at_too) (simp (and-true, or-false))
      ]

  -- a test that no piece of the side and no empty square passes
  test_at : (g : Cell → Bool) → ((o : Cell) → is_of p.turn o ≡ true → g o ≡ false) → g None ≡ false → (u : ℕ)
      → g (cell_after p m u) ≡ g (piece_on p u)
  test_at g own none u =
      let fails : (u ≡ m.from) ⊎ (u ≡ m.to) → g (piece_on p u) ≡ false =
      λ e. elim e [ inl f ↦ rw f (own (piece_on p m.from) king_own) | inr f ↦ rw f (own (piece_on p m.to) rook_own) ] in
      let vacant_fails : (u ≢ m.from → u ≢ m.to → piece_on p u ≡ None) → g (piece_on p u) ≡ false =
      λ vacant. elim (two_squares m u) [ inl e ↦ fails e | inr ne ↦ ap g (vacant ne.0 ne.1) ∙ none ] in
      elim (castled_cases p m u (own_rook p m r)) [
        | inl w ↦ ap g w.holds ∙ own (piece_on p m.from) king_own ∙ sym (vacant_fails (king_goal_vacant p m r u w.square))
        | inr (inl w) ↦ ap g w.holds ∙ own (piece_on p m.to) rook_own ∙ sym (vacant_fails (rook_goal_vacant p m r u w.square))
        | inr (inr (inl w)) ↦ ap g w.holds ∙ none ∙ sym (fails w.square)
        | inr (inr (inr w)) ↦ ap g w.holds
      ]

  pub castled_hits : (occupied set : ℕ) → IsPosition p → m.from < 64 → occupied ≡ where_set (λ s. is_occupied_castled p m s)
      → set ≡ where_set (λ s. is_attacker_on p.placement occupied (other p.turn) s (king_goal p.turn m))
      → IsTrue (not (set == 0)) ↔ InCheck (placement_after p m) p.turn
  castled_hits occupied set valid from_in eo es =
      let cells = placement_after p m in
      let by = other p.turn in
      let k = king_goal p.turn m in
      let full_set =
      eo ∙ where_agree (λ s. is_occupied_castled p m s) (λ s. is_occupied (cell_at cells s))
      (λ u l. sym (ap is_occupied (cells_after p m u l) ∙ occupied_at u)) ∙ sym (set_where is_occupied cells (full_after p m)) in
      let hits =
      es ∙ where_agree (λ s. is_attacker_on p.placement occupied by s k) (λ s. is_attacker_on cells occupied by s k)
      (λ u l.
      let g = λ (o : Cell). is_of by o && attacks_over occupied o u k in
      sym (ap g (cells_after p m u l)
      ∙ test_at g (λ o h. let no_piece = own_not_other p.turn o h in rw no_piece) refl u)) in
      let all = attackers_are cells occupied by k set (full_after p m) full_set hits in
      let after = king_castled p m r (has_king p.placement p.turn valid.placement) from_in in
      let on_board = king_goal_in p.turn m in
      let stands = king_goes p m (own_rook p m r) ∙ r.castles.king in
      let goal = after.only k on_board stands in (
        λ h.
            record {
              square = k;
              on_board = on_board;
              king = cells_after p m k on_board ∙ stands;
              attack = some_attacked cells by k set all (eqb-false set 0 (not-true (set == 0) h));
            },
        λ w.
            let at = after.only w.square w.on_board (sym (cells_after p m w.square w.on_board) ∙ w.king) ∙ sym goal in
            not_from_false (set == 0) (ne_eqb set 0 (λ z. none_attacked cells by k set all z (rw at at w.attack))),
      )

  -- ---- The sets after castling.

  -- what king and rook leave and what was vacant fails the test
  first_off : (test : Cell → Bool) → test None ≡ false → (u : ℕ) → (u ≢ m.from → u ≢ m.to → piece_on p u ≡ None)
      → (test (piece_on p u) && not ((u == m.from) || (u == m.to))) ≡ false
  first_off test none u vacant =
      elim (two_squares m u) [
        | inl (inl e) ↦ let at = eq-eqb u m.from e in rw at (and-false (test (piece_on p u)))
        | inl (inr e) ↦ let at = or_right (u == m.from) (u == m.to) (eq-eqb u m.to e) in rw at (and-false (test (piece_on p u)))
        | inr ne ↦ let is = vacant ne.0 ne.1 in rw (is, none) refl
      ]

  castled_at : (test : Cell → Bool) → test None ≡ false → (u : ℕ)
      → (((test (piece_on p u) && not ((u == m.from) || (u == m.to))) || (test (piece_on p m.from) && (u == king_goal p.turn m)))
      || (test (piece_on p m.to) && (u == rook_goal p.turn m))) ≡ test (cell_after p m u)
  castled_at test none u =
      elim (castled_cases p m u (own_rook p m r)) [
        | inl w ↦
            let first = first_off test none u (king_goal_vacant p m r u w.square) in
            let on = eq-eqb u (king_goal p.turn m) w.square in
            let off = ne_eqb u (rook_goal p.turn m) (λ e. goals_apart p.turn m (sym w.square ∙ e)) in
            let holds = w.holds in
            rw (first, on, off, holds) (simp (and-false, and-true, or-false))
        | inr (inl w) ↦
            let first = first_off test none u (rook_goal_vacant p m r u w.square) in
            let off = ne_eqb u (king_goal p.turn m) w.off_king in
            let on = eq-eqb u (rook_goal p.turn m) w.square in
            let holds = w.holds in
            rw (first, on, off, holds) (simp (and-false, and-true, or-false))
        | inr (inr (inl w)) ↦
            let off = ne_eqb u (king_goal p.turn m) w.off_king in
            let off_too = ne_eqb u (rook_goal p.turn m) w.off_rook in
            let first = first_off test none u (λ ne ne_too. elim w.square [ inl e ↦ absurd (ne e) | inr e ↦ absurd (ne_too e) ]) in
            let holds = w.holds in
            rw (first, off, off_too, holds, none) (simp (and-false, or-false))
        | inr (inr (inr w)) ↦
            let off = ne_eqb u (king_goal p.turn m) w.off_king in
            let off_too = ne_eqb u (rook_goal p.turn m) w.off_rook in
            let at = ne_eqb u m.from w.off_from in
            let at_too = ne_eqb u m.to w.off_to in
            let holds = w.holds in
            rw (off, off_too, at, at_too, holds) (simp (and-false, and-true, or-false))
      ]

  castled_field : (test : Cell → Bool) (gone : ℕ) → test None ≡ false → length p.placement ≡ 64
      → gone ≡ where_set (λ u. (u == m.from) || (u == m.to))
      → bit_or (bit_or (bit_and (set_of test p.placement) (bit_not w64 gone)) (bool_byte (test (piece_on p m.from)) * 2 ^ king_goal p.turn m % 2 ^ 64))
      (bool_byte (test (piece_on p m.to)) * 2 ^ rook_goal p.turn m % 2 ^ 64)
      ≡ set_of test (placement_after p m)
  castled_field test gone none full eg =
      let left = λ (u : ℕ). test (piece_on p u) && not ((u == m.from) || (u == m.to)) in
      let kings = λ (u : ℕ). test (piece_on p m.from) && (u == king_goal p.turn m) in
      let rooks = λ (u : ℕ). test (piece_on p m.to) && (u == rook_goal p.turn m) in
      let one =
      where_and (λ u. test (piece_on p u)) (λ u. not ((u == m.from) || (u == m.to))) _ _ (set_where test p.placement full)
      (where_not (λ u. (u == m.from) || (u == m.to)) gone eg) in
      let two = landing_set (test (piece_on p m.from)) _ (king_goal p.turn m) (king_goal_in p.turn m) refl in
      let three = landing_set (test (piece_on p m.to)) _ (rook_goal p.turn m) (rook_goal_in p.turn m) refl in
      where_or (λ u. left u || kings u) rooks _ _ (where_or left kings _ _ one two) three
      ∙ where_agree (λ u. (left u || kings u) || rooks u) (λ u. test (cell_at (placement_after p m) u))
      (λ u l. castled_at test none u ∙ ap test (sym (cells_after p m u l)))
      ∙ sym (set_where test (placement_after p m) (full_after p m))

  -- all sets after castling
  pub castled_sets : (gone : ℕ) → length p.placement ≡ 64 → gone ≡ where_set (λ u. (u == m.from) || (u == m.to))
      → put_on (piece_on p m.to) (rook_goal p.turn m) (put_on (piece_on p m.from) (king_goal p.turn m) (taken_off gone (sets_of p.placement)))
      ≡ sets_of (placement_after p m)
  castled_sets gone full eg =
      let white = castled_field (is_of White) gone refl full eg in
      let black = castled_field (is_of Black) gone refl full eg in
      let pawns = castled_field (is_kind Pawn) gone refl full eg in
      let knights = castled_field (is_kind Knight) gone refl full eg in
      let bishops = castled_field (is_kind Bishop) gone refl full eg in
      let rooks = castled_field (is_kind Rook) gone refl full eg in
      let queens = castled_field (is_kind Queen) gone refl full eg in
      let kings = castled_field (is_kind King) gone refl full eg in
      rw (white, black, pawns, knights, bishops, rooks, queens, kings) refl
