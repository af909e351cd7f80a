-- The positions of a log with one move more, and logs that are legal games: their prefixes and how they grow.
use Rattle.std.proofs.Common.{◌≡◌, ◌≢◌, ℕ, ◌<◌, ◌≤◌, List, [], ◌∷◌, ◌++◌, length, take, None, Some, refl, sym, ap, subst, ◌∙◌, append_assoc, ◌⊎◌, inl, inr}
use Rattle.std.proofs.lemmas.Bool.{le-leb}
use Rattle.c960_board.specs.declared.numbering.TheConstants.{STARTS}
use Rattle.c960_board.specs.declared.parts.Parts.{Parts}
use Rattle.c960_board.specs.Moves.{Triple}
use Rattle.c960_board.specs.Start.{start}
use Rattle.c960_rules.specs.After.{after}
use Rattle.c960_game.specs.Ends.{own_outcome}
use Rattle.c960_game.specs.Game960.{Game960, MayFollow}
use Rattle.c960_game.specs.Positions.{position_after, positions_from, last_position, positions, position_at}
use Rattle.c960_game.specs.Inner.Replay.{AllLegal}
use Rattle.c960_game.proofs.lemmas.DrawFacts.{from_going}

-- ---- The positions.

-- no move leaves the position as it is
pub position_after_none : (p : Parts) → position_after p [] ≡ p
unfolding position_after
position_after_none p = refl

-- the position after some moves and some more
pub position_after_append : (p : Parts) (l later : List Triple)
    → position_after p (l ++ later) ≡ position_after (position_after p l) later
unfolding position_after
position_after_append p [] later = refl
position_after_append p (m ∷ l) later = position_after_append (after p m) l later

-- the position after one move more
pub position_after_more : (p : Parts) (l : List Triple) (m : Triple)
    → position_after p (l ++ m ∷ []) ≡ after (position_after p l) m
unfolding position_after
position_after_more p l m = position_after_append p l (m ∷ [])

-- without a move the one position
pub positions_none : (p : Parts) → positions_from p [] ≡ p ∷ []
unfolding positions_from
positions_none p = refl

-- the positions with one move more
pub positions_more : (p : Parts) (l : List Triple) (m : Triple)
    → positions_from p (l ++ m ∷ []) ≡ positions_from p l ++ after (position_after p l) m ∷ []
unfolding position_after positions_from
positions_more p [] m = refl
positions_more p (first ∷ l) m = ap (λ later. p ∷ later) (positions_more (after p first) l m)

-- the start and the present position of games
pub start_alone : (n : ℕ) → positions n [] ≡ start n ∷ []
start_alone n = positions_none (start n)

pub game_positions_more : (n : ℕ) (l : List Triple) (m : Triple)
    → positions n (l ++ m ∷ []) ≡ positions n l ++ after (last_position n l) m ∷ []
game_positions_more n l m = positions_more (start n) l m

pub last_more : (n : ℕ) (l : List Triple) (m : Triple) → last_position n (l ++ m ∷ []) ≡ after (last_position n l) m
last_more n l m = position_after_more (start n) l m

-- the position after this many moves, if that many were made
pub position_made : (n : ℕ) (l : List Triple) (place : ℕ) → place ≤ length l
    → position_at n l place ≡ Some (last_position n (take place l))
unfolding position_at
position_made n l place made = rw (le-leb place (length l) made) refl

-- ---- Legal games.

-- each prefix of a legal game is one
pub prefix : (n : ℕ) (l later : List Triple) → Game960 n (l ++ later) → Game960 n l
prefix n l later game = record {
  numbered = game.numbered;
  moves = λ before m rest e. game.moves before m (rest ++ later) (ap (λ log. log ++ later) e ∙ append_assoc before (m ∷ rest) later);
}

-- a list with an element is not empty
not_empty : {A : Type 0} (before : List A) (m : A) (later : List A) → [] ≡ before ++ m ∷ later → ⊥
not_empty [] m later e = cc
not_empty (x ∷ before) m later e = cc

-- an element of a list with one element more is the last one, or one of the list
split_more : {A : Type 0} (l : List A) (x : A) (before : List A) (m : A) (later : List A) → l ++ x ∷ [] ≡ before ++ m ∷ later
    → ((before ≡ l) × (m ≡ x)) ⊎ ((rest : List A) × (l ≡ before ++ m ∷ rest))
split_more [] x [] m later e = inl (refl, cc)
split_more [] x (z ∷ before) m later e =
    let none : [] ≡ before ++ m ∷ later = cc in absurd (not_empty before m later none)
split_more (y ∷ l) x [] m later e = inr (l, cc)
split_more (y ∷ l) x (z ∷ before) m later e =
    let rest : l ++ x ∷ [] ≡ before ++ m ∷ later = cc in
    let same : y ≡ z = cc in
    elim (split_more l x before m later rest) [
      | inl w ↦ let all : before ≡ l = w.0 in inl (cc, w.1)
      | inr w ↦ let some : l ≡ before ++ m ∷ w.0 = w.1 in inr (w.0, cc)
    ]

-- without a move each start is a legal game
pub no_move : (n : ℕ) → n < STARTS → Game960 n []
no_move n numbered = record {
  numbered = numbered;
  moves = λ before m later e. absurd (not_empty before m later e);
}

-- a legal game goes on by a move that may follow
pub one_move_more : (n : ℕ) (l : List Triple) (m : Triple) → Game960 n l → MayFollow n l m → Game960 n (l ++ m ∷ [])
one_move_more n l m game follows = record {
  numbered = game.numbered;
  moves = λ before x later e. elim (split_more l m before x later e) [
    | inl w ↦ subst (λ log. MayFollow n log x) (sym w.0) (subst (λ (y : Triple). MayFollow n l y) (sym w.1) follows)
    | inr w ↦ game.moves before x w.0 w.1
  ];
}

-- the last move of a legal game could be made
pub last_move : (n : ℕ) (l : List Triple) (m : Triple) → Game960 n (l ++ m ∷ []) → MayFollow n l m
last_move n l m game = game.moves l m [] refl

-- a game that is over is not continued by a legal one
pub over : (n : ℕ) (l : List Triple) (m : Triple) (later : List Triple) → own_outcome n l ≢ None
    → Game960 n (l ++ m ∷ later) → ⊥
over n l m later ended game = ended (from_going n l (game.moves l m later refl).going)

-- the moves of a legal game can be made one after another from any place on
pub legal_from : (n : ℕ) (before l : List Triple) → Game960 n (before ++ l) → AllLegal (last_position n before) l
unfolding AllLegal
legal_from n before [] game = tt
legal_from n before (m ∷ l) game =
    let step : Game960 n ((before ++ m ∷ []) ++ l) = subst (λ log. Game960 n log) (sym (append_assoc before (m ∷ []) l)) game in (
      (game.moves before m l refl).legal,
      subst (λ (p : Parts). AllLegal p l) (last_more n before m) (legal_from n (before ++ m ∷ []) l step),
    )
