-- The written placement is the placement's text.
use Rattle.std.proofs.Common.{◌≡◌, ℕ, zero, suc, ◌+◌, ◌*◌, ◌≤◌, Bool, false, true, List, [], ◌∷◌, ◌++◌, length, take, drop, Some, None, refl, ap, subst, ◌∙◌, arith, inl, inr, append-nil, length-drop}
use Rattle.std.proofs.lemmas.List.{length-take}
use Rattle.c960_board.specs.declared.piece.Piece.{Piece}
use Rattle.c960_board.specs.Pieces.{Cell}
use Rattle.c960_board.specs.Fen.Letters.{letter}
use Rattle.c960_board.specs.Fen.Placement.{empties, SpellsSquares, SpellsRank, SpellsRanks}
use Rattle.c960_board.specs.Fen.Canonical.{run_text, squares_text, ranks_text}

-- a piece's letter, whatever comes before it
piece_first : (after : Bool) (p : Piece) (bytes : List ℕ) (cells : List Cell) → SpellsSquares false bytes cells
    → SpellsSquares after (letter p ∷ bytes) (Some p ∷ cells)
piece_first after p bytes cells h = inl (p, cells, refl, refl, h)

-- a run's digit, and what may come after any byte
run_first : (n : ℕ) (bytes : List ℕ) (cells : List Cell) → n ≤ 8 → ((after : Bool) → SpellsSquares after bytes cells)
    → SpellsSquares false (run_text n ++ bytes) (empties n ++ cells)
run_first zero bytes cells l h = h false
run_first (suc n) bytes cells l h = inr (suc n, cells, refl, omega arith, l, refl, refl, h true)

-- an empty square more makes the run longer
empties_more : (n : ℕ) (cells : List Cell) → empties (n + 1) ++ cells ≡ empties n ++ None ∷ cells
empties_more zero cells = refl
empties_more (suc n) cells =
    let e : suc n + 1 ≡ suc (n + 1) = omega arith in
    ap (λ (m : ℕ). empties m ++ cells) e ∙ ap (λ (x : List Cell). None ∷ x) (empties_more n cells)

-- the text of the remaining squares spells them after the run before them
squares_spelt : (cells : List Cell) (n : ℕ) → n + length cells ≤ 8
    → SpellsSquares false (squares_text cells n) (empties n ++ cells)
unfolding squares_text
squares_spelt [] n l = subst (λ (t : List ℕ). SpellsSquares false t (empties n ++ [])) (append-nil (run_text n)) (run_first n [] [] (omega arith) (λ after. refl))
squares_spelt (None ∷ cells) n l = subst (SpellsSquares false (squares_text cells (n + 1))) (empties_more n cells) (squares_spelt cells (n + 1) (omega arith))
squares_spelt (Some p ∷ cells) n l =
    run_first n (letter p ∷ squares_text cells 0) (Some p ∷ cells) (omega arith) (λ after. piece_first after p (squares_text cells 0) cells (squares_spelt cells 0 (omega arith)))

-- the text of a rank's squares is a rank's text
rank_spelt : (cells : List Cell) → length cells ≡ 8 → SpellsRank (squares_text cells 0) cells
rank_spelt cells full = record { spelt = squares_spelt cells 0 (omega arith); full = full }

-- the written ranks spell the squares
pub ranks_spelt : (n : ℕ) (cells : List Cell) → length cells ≡ 8 * n + 8 → SpellsRanks n (ranks_text n cells) cells
unfolding ranks_text
ranks_spelt zero cells full = rank_spelt cells (omega arith)
ranks_spelt (suc n) cells full = (
  squares_text (drop (8 * suc n) cells) 0,
  ranks_text n (take (8 * suc n) cells),
  refl,
  rank_spelt (drop (8 * suc n) cells) (omega (arith, length-drop (8 * suc n) cells)),
  ranks_spelt n (take (8 * suc n) cells) (omega (arith, length-take (8 * suc n) cells)),
)
