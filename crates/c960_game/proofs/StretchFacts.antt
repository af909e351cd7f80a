-- Stretches of a log, which are replayed from the position before them.
use Rattle.std.proofs.Common.{◌≡◌, ℕ, ◌+◌, ◌-◌, ◌*◌, ◌/◌, ◌≤◌, List, ◌++◌, length, take, drop, sym, ap, ◌∙◌, subst, append_assoc, arith}
use Rattle.std.proofs.Math.Seq.{take-add}
use Rattle.std.proofs.lemmas.List.{take-append-drop, length-take, length-drop}
use Rattle.c960_board.specs.Moves.{Triple}
use Rattle.c960_board.specs.Start.{start}
use Rattle.c960_game.specs.declared.kept_positions.TheConstants.{MILE}
use Rattle.c960_game.specs.declared.limits.TheConstants.{MOST_PLIES}
use Rattle.c960_game.specs.Game960.{Game960}
use Rattle.c960_game.specs.Positions.{last_position, position_after}
use Rattle.c960_game.specs.Inner.Replay.{AllLegal}
use Rattle.c960_game.proofs.Bounds.{half_moves_bound, number_bound}
use Rattle.c960_game.proofs.lemmas.LogFacts.{prefix, legal_from, position_after_append}

-- the log up to a place, a stretch, and what is left
parts_of : (l : List Triple) (a k : ℕ) → (take a l ++ take k (drop a l)) ++ drop k (drop a l) ≡ l
parts_of l a k =
    append_assoc (take a l) (take k (drop a l)) (drop k (drop a l))
    ∙ ap (λ rest. take a l ++ rest) (take-append-drop k (drop a l)) ∙ take-append-drop a l

-- a stretch from the last thirty-second place on has fewer moves than lie between two of them
pub few_in_stretch : (l : List Triple) (place : ℕ) → length (take (place - place / MILE * MILE) (drop (place / MILE * MILE) l)) ≤ MILE
few_in_stretch l place = omega (arith, length-take (place - place / MILE * MILE) (drop (place / MILE * MILE) l))

-- the moves of the stretch can be made one after another
pub legal_stretch : (n : ℕ) (l : List Triple) (a k : ℕ) → Game960 n l
    → AllLegal (last_position n (take a l)) (take k (drop a l))
legal_stretch n l a k game =
    legal_from n (take a l) (take k (drop a l))
    (prefix n (take a l ++ take k (drop a l)) (drop k (drop a l)) (subst (λ log. Game960 n log) (sym (parts_of l a k)) game))

-- they lead to the position at its end
pub position_stretch : (n : ℕ) (l : List Triple) (a b : ℕ) → a ≤ b
    → position_after (last_position n (take a l)) (take (b - a) (drop a l)) ≡ last_position n (take b l)
position_stretch n l a b before =
    let whole : a + (b - a) ≡ b = omega arith in
    sym (position_after_append (start n) (take a l) (take (b - a) (drop a l)))
    ∙ ap (λ log. position_after (start n) log) (sym (take-add a (b - a) l) ∙ ap (λ k. take k l) whole)

-- the counters have room for them
pub half_moves_stretch : (n : ℕ) (l : List Triple) (a k : ℕ) → length l ≤ MOST_PLIES
    → (last_position n (take a l)).half_moves + length (take k (drop a l)) ≤ 65535
half_moves_stretch n l a k short =
    omega (arith, half_moves_bound n (take a l), length-take a l, length-take k (drop a l), length-drop a l)

pub number_stretch : (n : ℕ) (l : List Triple) (a k : ℕ) → length l ≤ MOST_PLIES
    → (last_position n (take a l)).number + length (take k (drop a l)) ≤ 65535
number_stretch n l a k short =
    omega (arith, number_bound n (take a l), length-take a l, length-take k (drop a l), length-drop a l)
