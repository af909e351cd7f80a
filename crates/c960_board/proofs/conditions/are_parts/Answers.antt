use Rattle.std.proofs.Common.{arith, rules, ◌≡◌, true, sym, ◌∙◌}
use Rattle.c960_board.proofs.conditions.are_parts.Goals as goal
use Rattle.c960_board.proofs.conditions.are_parts.Goals.{then-is_placement, else-is_placement, then-rights_fit, else-rights_fit}

pub returns-then-target_fits : goal.returns-then-target_fits
returns-then-target_fits c = (
  λ counted. elim c.if-rights_fit.branch [
    | else-rights_fit w ↦ absurd (search rules)
    | then-rights_fit w ↦ elim c.if-is_placement.branch [
      | else-is_placement v ↦ absurd (search rules)
      | then-is_placement v ↦
          let fits : w.target_fits.result ≡ true = sym w.value-is ∙ c.if-target_fits.true in
          let both : v.rights_fit.result ≡ true = sym v.value-is ∙ w.if-rights_fit.true in
          let placed : c.is_placement.result ≡ true = v.if-is_placement.true in
          record {
            placement = c.is_placement.ensures.0 (search rules);
            rights = v.rights_fit.ensures.0 (search rules);
            target = w.target_fits.ensures.0 (search rules);
            counters = record {
              half_moves = omega arith;
              numbered = c.is_move_number.ensures.0 counted;
              bounded = omega arith;
            };
          }
    ]
  ],
  λ position. c.is_move_number.ensures.1 position.counters.numbered,
)
