use Rattle.std.proofs.Common.{ℕ, zero, suc, ◌≡◌, ◌<◌, ◌/◌, ◌%◌, Option, Some, None, IsTrue, arith, refl}
use Rattle.c960_board.specs.declared.piece.Kind.{Kind}
use Rattle.c960_board.specs.declared.piece.Kind.TheVariants.{Knight, Bishop, Rook, Queen}
use Rattle.c960_board.specs.Moves.{IsMove, Triple, is_promotion}
use Rattle.c960_board.specs.MoveTexts.{promotion_code}
use Rattle.c960_board.proofs.laws.moves.every_code_is_of_a_move.Goals as goal

-- a promotion of that code
record Coded (code : ℕ) : Type 0 where
  kind : Option Kind
  valid : IsTrue (is_promotion kind)
  value : promotion_code kind ≡ code

-- every number below 5 is the code of a promotion
promotion_of : (code : ℕ) → code < 5 → Coded code
promotion_of zero h = record { kind = None; valid = refl; value = refl }
promotion_of (suc zero) h = record { kind = Some Knight; valid = refl; value = refl }
promotion_of (suc (suc zero)) h = record { kind = Some Bishop; valid = refl; value = refl }
promotion_of (suc (suc (suc zero))) h = record { kind = Some Rook; valid = refl; value = refl }
promotion_of (suc (suc (suc (suc zero)))) h = record { kind = Some Queen; valid = refl; value = refl }
promotion_of (suc (suc (suc (suc (suc code))))) h = absurd (omega arith)

pub returns-clause-every : goal.returns-clause-every
returns-clause-every c = λ code h.
    let promotion : Coded (code / 4096) = promotion_of (code / 4096) (omega arith) in
    let m : Triple = record { from = code % 64; to = code / 64 % 64; promotion = promotion.kind } in
    let valid : IsMove m = record { from = omega arith; to = omega arith; promotion = promotion.valid } in
    (m, valid, omega (arith, promotion.value))
