use Rattle.c960_rules.specs.Inner.Wheres.{is_bishop_line}
use Rattle.c960_rules.specs.Inner.Rays.{is_north_east, is_north_west, is_south_east, is_south_west, below, above}
use Rattle.c960_rules.proofs.RayTables.{north_east_ray, north_west_ray, south_east_ray, south_west_ray, bishop_rays}
use Rattle.c960_rules.proofs.RayFacts.{ray_reach, four_rays}
use Rattle.c960_rules.proofs.rays.diagonal.Goals as goal

pub returns : goal.returns
returns c =
    let s = c.args.from in
    let o = c.args.occupied in
    let n = c.number-bound.ensures in
    let same = n.value in
    let l = rw same at n.bound in
    four_rays (is_bishop_line s) (is_north_east s) (is_north_west s) (is_south_east s) (is_south_west s) s o (λ t. bishop_rays s t l)
    (ray_reach is_north_east below s o north_east_ray l c.north_east.ensures c.rising.ensures)
    (ray_reach is_north_west below s o north_west_ray l c.north_west.ensures c.rising-2.ensures)
    (ray_reach is_south_east above s o south_east_ray l c.south_east.ensures c.falling.ensures)
    (ray_reach is_south_west above s o south_west_ray l c.south_west.ensures c.falling-2.ensures)
