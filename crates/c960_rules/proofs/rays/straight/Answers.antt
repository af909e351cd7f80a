use Rattle.c960_rules.specs.Inner.Wheres.{is_rook_line}
use Rattle.c960_rules.specs.Inner.Rays.{is_north, is_east, is_south, is_west, below, above}
use Rattle.c960_rules.proofs.RayTables.{north_ray, east_ray, south_ray, west_ray, rook_rays}
use Rattle.c960_rules.proofs.RayFacts.{ray_reach, four_rays}
use Rattle.c960_rules.proofs.rays.straight.Goals as goal

pub returns : goal.returns
returns c =
    let s = c.args.from in
    let o = c.args.occupied in
    let n = c.number-bound.ensures in
    let same = n.value in
    let l = rw same at n.bound in
    four_rays (is_rook_line s) (is_north s) (is_east s) (is_south s) (is_west s) s o (λ t. rook_rays s t l)
    (ray_reach is_north below s o north_ray l c.north.ensures c.rising.ensures)
    (ray_reach is_east below s o east_ray l c.east.ensures c.rising-2.ensures)
    (ray_reach is_south above s o south_ray l c.south.ensures c.falling.ensures)
    (ray_reach is_west above s o west_ray l c.west.ensures c.falling-2.ensures)
