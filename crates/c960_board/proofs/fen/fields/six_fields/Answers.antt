use Rattle.std.proofs.Common.{◌≡◌, None, arith, rules}
use Rattle.c960_board.proofs.Reading.SixFields.{no_turn, no_rights, no_target, no_half_moves, no_number}
use Rattle.c960_board.proofs.fen.fields.six_fields.Goals as goal

pub returns-in_err-turn : goal.returns-in_err-turn
returns-in_err-turn c =
    let gone : c.from_residual-in_err-turn.result ≡ None = grind arith in
    rw gone (no_turn _ _ _ c.in_ok-placement.ensures c.in_err-turn.ensures)

pub returns-in_err-rights : goal.returns-in_err-rights
returns-in_err-rights c =
    let gone : c.from_residual-in_err-rights.result ≡ None = grind arith in
    rw gone (no_rights _ _ _ _ _ c.in_ok-placement.ensures c.in_ok-turn.ensures c.in_err-rights.ensures)

pub returns-in_err-target : goal.returns-in_err-target
returns-in_err-target c =
    let gone : c.from_residual-in_err-target.result ≡ None = grind arith in
    rw gone (no_target _ _ _ _ _ _ _ c.in_ok-placement.ensures c.in_ok-turn.ensures c.in_ok-rights.ensures
    c.in_err-target.ensures)

pub returns-in_err-half_moves : goal.returns-in_err-half_moves
returns-in_err-half_moves c =
    let gone : c.from_residual-in_err-half_moves.result ≡ None = grind arith in
    rw gone (no_half_moves _ _ _ _ _ _ _ _ _ c.in_ok-placement.ensures c.in_ok-turn.ensures c.in_ok-rights.ensures
    c.in_ok-target.ensures c.in_err-half_moves.ensures)

pub returns-then-not-is_field : goal.returns-then-not-is_field
returns-then-not-is_field c =
    no_number _ _ _ _ _ _ _ _ _ _ _ c.in_ok-placement.ensures c.in_ok-turn.ensures c.in_ok-rights.ensures
    c.in_ok-target.ensures c.in_ok-half_moves.ensures (λ field. absurd (search rules))
