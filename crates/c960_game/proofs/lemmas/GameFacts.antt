-- What holds of every legal game: its last position is a position, and the game goes on before the first move.
use Rattle.std.proofs.Common.{◌≡◌, ℕ, ◌+◌, ◌<◌, ◌≤◌, List, [], ◌∷◌, length, None, subst, arith}
use Rattle.c960_board.specs.declared.numbering.TheConstants.{STARTS}
use Rattle.c960_board.specs.declared.parts.Parts.{Parts}
use Rattle.c960_board.specs.Moves.{Triple}
use Rattle.c960_board.specs.Position.{IsPosition}
use Rattle.c960_board.specs.Start.{start}
use Rattle.c960_board.proofs.lemmas.StartFacts.{start_is_position}
use Rattle.c960_rules.specs.After.{after}
use Rattle.c960_rules.specs.Check.{IsLawful}
use Rattle.c960_rules.specs.Legal.{Legal}
use Rattle.c960_rules.proofs.lemmas.AfterFacts.{after_position, after_lawful}
use Rattle.c960_rules.proofs.lemmas.StartFacts.{start_is_lawful, start_has_move}
use Rattle.c960_game.specs.Ends.{own_outcome}
use Rattle.c960_game.specs.Game960.{Game960}
use Rattle.c960_game.specs.Positions.{position_after, last_position}
use Rattle.c960_game.specs.Inner.Replay.{AllLegal}
use Rattle.c960_rules.proofs.lemmas.CounterSteps.{half_moves_step, number_step}
use Rattle.c960_game.proofs.Bounds.{start_half_moves, start_number}
use Rattle.c960_game.proofs.lemmas.DrawFacts.{going}
use Rattle.c960_game.proofs.lemmas.LogFacts.{legal_from, position_after_none}
use Rattle.c960_game.proofs.PositionFacts.{times_bound}

-- moves made one after another leave a position whose side not to move is not in check
pub lawful_after : (p : Parts) (l : List Triple) → IsLawful p → AllLegal p l → IsLawful (position_after p l)
unfolding position_after AllLegal
lawful_after p [] lawful legal = lawful
lawful_after p (m ∷ l) lawful legal = lawful_after (after p m) l (after_lawful p m legal.0) legal.1

-- and all conditions of a position, if the counters have room
pub position_of_moves : (p : Parts) (l : List Triple) → IsPosition p → IsLawful p → AllLegal p l
    → p.half_moves + length l ≤ 65535 → p.number + length l ≤ 65535 → IsPosition (position_after p l)
unfolding position_after AllLegal
position_of_moves p [] valid lawful legal half_moves number = valid
position_of_moves p (m ∷ l) valid lawful legal half_moves number =
    let next = after_position p m valid lawful legal.0 (omega arith) (omega arith) in
    position_of_moves (after p m) l next (after_lawful p m legal.0) legal.1
    (omega (arith, half_moves_step p m)) (omega (arith, number_step p m))

-- the moves of a legal game can be made one after another
pub all_legal : (n : ℕ) (l : List Triple) → Game960 n l → AllLegal (start n) l
all_legal n l game = subst (λ (p : Parts). AllLegal p l) (position_after_none (start n)) (legal_from n [] l game)

-- the last position of a legal game is lawful
pub last_is_lawful : (n : ℕ) (l : List Triple) → Game960 n l → IsLawful (last_position n l)
last_is_lawful n l game = lawful_after (start n) l (start_is_lawful n game.numbered) (all_legal n l game)

-- and a position
pub last_is_position : (n : ℕ) (l : List Triple) → Game960 n l → length l < 65535 → IsPosition (last_position n l)
last_is_position n l game short =
    position_of_moves (start n) l (start_is_position n game.numbered) (start_is_lawful n game.numbered) (all_legal n l game)
    (omega (arith, start_half_moves n)) (omega (arith, start_number n))

-- before the first move the game goes on
pub start_goes_on : (n : ℕ) → n < STARTS → own_outcome n [] ≡ None
start_goes_on n numbered =
    let here : last_position n [] ≡ start n = position_after_none (start n) in
    let move : (m : Triple) × Legal (last_position n []) m = rw here (start_has_move n numbered) in
    (going n []).1 (move, omega (arith, times_bound n []), rw here (omega (arith, start_half_moves n)))
