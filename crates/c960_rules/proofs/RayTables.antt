-- The tables of rays against their directions, and the rays against the squares between and the lines. This is checked by computation
-- over all squares.
use Rattle.std.proofs.Common.{◌≡◌, ℕ, ◌<◌, Bool, true, false, ◌||◌, map, refl}
use Rattle.std.proofs.lemmas.Bool.{eqb-true}
use Rattle.std.specs.Prelude.{◌==◌, bit_and, not}
use Rattle.std.specs.Bool.{beq}
use Rattle.std.specs.Cmp.{booleans_Decides}
use Rattle.std.specs.List.{list_all}
use Rattle.c960_rules.specs.declared.tables.north.TheConstants.{NORTH}
use Rattle.c960_rules.specs.declared.tables.east.TheConstants.{EAST}
use Rattle.c960_rules.specs.declared.tables.south.TheConstants.{SOUTH}
use Rattle.c960_rules.specs.declared.tables.west.TheConstants.{WEST}
use Rattle.c960_rules.specs.declared.tables.north_east.TheConstants.{NORTH_EAST}
use Rattle.c960_rules.specs.declared.tables.north_west.TheConstants.{NORTH_WEST}
use Rattle.c960_rules.specs.declared.tables.south_east.TheConstants.{SOUTH_EAST}
use Rattle.c960_rules.specs.declared.tables.south_west.TheConstants.{SOUTH_WEST}
use Rattle.c960_rules.specs.declared.tables.onward.TheConstants.{ONWARD}
use Rattle.c960_rules.specs.Lines.{squares, between}
use Rattle.c960_rules.specs.Inner.Wheres.{where_set, is_rook_line, is_bishop_line}
use Rattle.c960_rules.specs.Inner.Rays.{is_north, is_east, is_south, is_west, is_north_east, is_north_west, is_south_east, is_south_west, below, above}
use Rattle.c960_rules.proofs.AllSquares.{every_square}

pub north_table : NORTH ≡ map (λ s. where_set (is_north s)) squares
unfolding where_set
north_table = refl

pub east_table : EAST ≡ map (λ s. where_set (is_east s)) squares
unfolding where_set
east_table = refl

pub south_table : SOUTH ≡ map (λ s. where_set (is_south s)) squares
unfolding where_set
south_table = refl

pub west_table : WEST ≡ map (λ s. where_set (is_west s)) squares
unfolding where_set
west_table = refl

pub north_east_table : NORTH_EAST ≡ map (λ s. where_set (is_north_east s)) squares
unfolding where_set
north_east_table = refl

pub north_west_table : NORTH_WEST ≡ map (λ s. where_set (is_north_west s)) squares
unfolding where_set
north_west_table = refl

pub south_east_table : SOUTH_EAST ≡ map (λ s. where_set (is_south_east s)) squares
unfolding where_set
south_east_table = refl

pub south_west_table : SOUTH_WEST ≡ map (λ s. where_set (is_south_west s)) squares
unfolding where_set
south_west_table = refl

-- the masks of the rays on which the numbers fall
pub onward_table : ONWARD ≡ map (λ k. where_set (λ t. not (above k t))) squares
unfolding where_set
onward_table = refl

-- ---- The squares between the start of a ray and one of its squares are the squares of the ray before that one.

pub record IsRay (ray before : ℕ → ℕ → Bool) : Type 0 where
  pub near : (s t : ℕ) → s < 64 → t < 64 → ray s t ≡ true
      → where_set (λ u. between s u t) ≡ bit_and (where_set (ray s)) (where_set (λ u. before u t))

are_near : (ℕ → ℕ → Bool) → (ℕ → ℕ → Bool) → ℕ → ℕ → Bool
are_near ray before s t =
    elim (ray s t) as (λ _. Bool) [
      | true ↦ where_set (λ u. between s u t) == bit_and (where_set (ray s)) (where_set (λ u. before u t))
      | false ↦ true
    ]

near_bits : (b : Bool) (x y : ℕ) → b ≡ true → elim b as (λ _. Bool) [ true ↦ x == y | false ↦ true ] ≡ true → x ≡ y
near_bits true x y on h = eqb-true x y h
near_bits false x y on h = cc

ray_from : (ray before : ℕ → ℕ → Bool) → list_all (λ s. list_all (are_near ray before s) squares) squares ≡ true → IsRay ray before
unfolding are_near
ray_from ray before h =
    record {
      near = λ s t ls lt on.
          near_bits (ray s t) (where_set (λ u. between s u t)) (bit_and (where_set (ray s)) (where_set (λ u. before u t))) on
          (every_square (are_near ray before s) (every_square (λ v. list_all (are_near ray before v) squares) h s ls) t lt);
    }

pub north_ray : IsRay is_north below
unfolding where_set are_near
north_ray = ray_from is_north below refl

pub east_ray : IsRay is_east below
unfolding where_set are_near
east_ray = ray_from is_east below refl

pub south_ray : IsRay is_south above
unfolding where_set are_near
south_ray = ray_from is_south above refl

pub west_ray : IsRay is_west above
unfolding where_set are_near
west_ray = ray_from is_west above refl

pub north_east_ray : IsRay is_north_east below
unfolding where_set are_near
north_east_ray = ray_from is_north_east below refl

pub north_west_ray : IsRay is_north_west below
unfolding where_set are_near
north_west_ray = ray_from is_north_west below refl

pub south_east_ray : IsRay is_south_east above
unfolding where_set are_near
south_east_ray = ray_from is_south_east above refl

pub south_west_ray : IsRay is_south_west above
unfolding where_set are_near
south_west_ray = ray_from is_south_west above refl

-- ---- The lines are made of the rays.

same_everywhere : (a b : ℕ → ℕ → Bool) → list_all (λ s. list_all (λ t. beq (a s t) (b s t)) squares) squares ≡ true
    → (s t : ℕ) → s < 64 → t < 64 → a s t ≡ b s t
same_everywhere a b h s t ls lt =
    (booleans_Decides (a s t) (b s t)).0
    (every_square (λ u. beq (a s u) (b s u)) (every_square (λ v. list_all (λ u. beq (a v u) (b v u)) squares) h s ls) t lt)

pub rook_rays : (s t : ℕ) → s < 64 → t < 64 → is_rook_line s t ≡ ((is_north s t || is_east s t) || (is_south s t || is_west s t))
rook_rays = same_everywhere is_rook_line (λ s t. (is_north s t || is_east s t) || (is_south s t || is_west s t)) refl

pub bishop_rays : (s t : ℕ) → s < 64 → t < 64
    → is_bishop_line s t ≡ ((is_north_east s t || is_north_west s t) || (is_south_east s t || is_south_west s t))
bishop_rays =
    same_everywhere is_bishop_line (λ s t. (is_north_east s t || is_north_west s t) || (is_south_east s t || is_south_west s t)) refl
