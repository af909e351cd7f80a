use Rattle.c960_rules.specs.Inner.Wheres.{is_rook_line, is_bishop_line}
use Rattle.c960_rules.proofs.RayFacts.{two_rays}
use Rattle.c960_rules.proofs.rays.reach_over.Goals as goal

pub returns-in-Queen : goal.returns-in-Queen
returns-in-Queen c =
    let is = c.in-Queen.is in
    rw is (two_rays (is_rook_line c.args.from) (is_bishop_line c.args.from) c.args.from c.args.occupied c.straight-in-Queen.ensures
    c.diagonal-in-Queen.ensures)
