-- Codes of moves and of outcomes.
use Rattle.std.specs.Prelude.{if◌then◌else◌, ◌==◌}
use Rattle.std.proofs.Common.{◌≡◌, ℕ, zero, suc, ◌<◌, List, [], ◌∷◌, ◌++◌, append_assoc, Option, Some, None, sym, refl, ap, ◌∙◌, arith, true≢false, IsTrue}
use Rattle.c960_board.specs.declared.piece.Kind.{Kind}
use Rattle.c960_board.specs.declared.piece.Kind.TheVariants.{Pawn, Knight, Bishop, Rook, Queen, King}
use Rattle.c960_board.specs.declared.piece.Colour.TheVariants.{White, Black}
use Rattle.c960_board.specs.Moves.{Triple, IsMove, is_promotion}
use Rattle.c960_board.specs.MoveTexts.{promotion_code, move_code}
use Rattle.c960_game.specs.declared.outcome.Outcome.{Outcome}
use Rattle.c960_game.specs.declared.outcome.Outcome.TheVariants.{Checkmate, Stalemate, Resigned, Agreed, Abandoned, Threefold, Fifty, Fivefold, SeventyFive, LostOnTime, Decided}
use Rattle.c960_game.specs.declared.result.Result.TheVariants.{WhiteWins, BlackWins, Draw}
use Rattle.c960_game.specs.Game960.{Game960}
use Rattle.live_board.specs.SharedBoard.{no_move, move_at}
use Rattle.live_board.specs.Words.{outcome_number, outcome_numbered}

abbrev promotion_in : ℕ → Option Kind
promotion_in n = if n == 1 then Some Knight else if n == 2 then Some Bishop else if n == 3 then Some Rook else if n == 4 then Some Queen else None

promotion_back : (o : Option Kind) → IsTrue (is_promotion o) → promotion_in (promotion_code o) ≡ o
promotion_back None h = refl
promotion_back (Some Knight) h = refl
promotion_back (Some Bishop) h = refl
promotion_back (Some Rook) h = refl
promotion_back (Some Queen) h = refl
promotion_back (Some Pawn) h = absurd (true≢false (sym h))
promotion_back (Some King) h = absurd (true≢false (sym h))

pub code_same : (m n : Triple) → IsMove m → IsMove n → move_code m ≡ move_code n → m ≡ n
code_same m n h k e =
    let a = h.from in
    let b = h.to in
    let c = k.from in
    let d = k.to in
    let f : m.from ≡ n.from = omega arith in
    let t : m.to ≡ n.to = omega arith in
    let p : promotion_code m.promotion ≡ promotion_code n.promotion = omega arith in
    let q : m.promotion ≡ n.promotion = sym (promotion_back m.promotion h.promotion) ∙ ap promotion_in p ∙ promotion_back n.promotion k.promotion in
    λ i. record { from = f i; to = t i; promotion = q i }

-- the number of an outcome is read back
pub outcome_back : (o : Option Outcome) → outcome_numbered (outcome_number o) ≡ o
outcome_back None = refl
outcome_back (Some (Checkmate White)) = refl
outcome_back (Some (Checkmate Black)) = refl
outcome_back (Some Stalemate) = refl
outcome_back (Some (Resigned White)) = refl
outcome_back (Some (Resigned Black)) = refl
outcome_back (Some Agreed) = refl
outcome_back (Some Abandoned) = refl
outcome_back (Some Threefold) = refl
outcome_back (Some Fifty) = refl
outcome_back (Some Fivefold) = refl
outcome_back (Some SeventyFive) = refl
outcome_back (Some (LostOnTime White)) = refl
outcome_back (Some (LostOnTime Black)) = refl
outcome_back (Some (Decided WhiteWins)) = refl
outcome_back (Some (Decided BlackWins)) = refl
outcome_back (Some (Decided Draw)) = refl

pub outcome_small : (o : Option Outcome) → outcome_number o < 17
outcome_small None = omega arith
outcome_small (Some (Checkmate White)) = omega arith
outcome_small (Some (Checkmate Black)) = omega arith
outcome_small (Some Stalemate) = omega arith
outcome_small (Some (Resigned White)) = omega arith
outcome_small (Some (Resigned Black)) = omega arith
outcome_small (Some Agreed) = omega arith
outcome_small (Some Abandoned) = omega arith
outcome_small (Some Threefold) = omega arith
outcome_small (Some Fifty) = omega arith
outcome_small (Some Fivefold) = omega arith
outcome_small (Some SeventyFive) = omega arith
outcome_small (Some (LostOnTime White)) = omega arith
outcome_small (Some (LostOnTime Black)) = omega arith
outcome_small (Some (Decided WhiteWins)) = omega arith
outcome_small (Some (Decided BlackWins)) = omega arith
outcome_small (Some (Decided Draw)) = omega arith

-- each move of a legal game is one
pub logged_is_move : (n : ℕ) (l : List Triple) → Game960 n l → (k : ℕ) → IsMove (move_at l k)
logged_is_move n l game k = each [] l (λ before m later is. (game.moves before m later is).legal.move) k
  where
    none : IsMove no_move
    none = record { from = omega arith; to = omega arith; promotion = refl }

    each : (front rest : List Triple) → ((before : List Triple) (m : Triple) (later : List Triple) → front ++ rest ≡ before ++ m ∷ later → IsMove m) → (k : ℕ) → IsMove (move_at rest k)
    each front [] all k = none
    each front (m ∷ ms) all zero = all front m ms refl
    each front (m ∷ ms) all (suc k) = each (front ++ m ∷ []) ms (λ before x later is. all before x later (sym (append_assoc front (m ∷ []) ms) ∙ is)) k
