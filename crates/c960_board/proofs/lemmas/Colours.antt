-- What holds of White and of Black holds of each side.
use Rattle.std.proofs.Common.{◌≡◌, true, refl, List, length}
use Rattle.c960_board.specs.declared.piece.Colour.{Colour}
use Rattle.c960_board.specs.declared.piece.Colour.TheVariants.{White, Black}
use Rattle.c960_board.specs.Pieces.{Cell, same_colour}
use Rattle.c960_board.specs.Position.{IsPlacement}
use Rattle.c960_board.specs.Inner.Conditions.{IsSidePlacement}

pub each_side : (P : Colour → Type 0) → P White → P Black → (c : Colour) → P c
each_side P white black White = white
each_side P white black Black = black

-- both sides make a placement
pub placement_of : (cells : List Cell) → length cells ≡ 64 → IsSidePlacement cells White → IsSidePlacement cells Black → IsPlacement cells
placement_of cells full white black =
    let side = each_side (λ c. IsSidePlacement cells c) white black in
    record { full = full; one_king = λ c. (side c).one_king; no_end_pawn = λ c. (side c).no_end_pawn }

pub side_of : (cells : List Cell) (c : Colour) → IsPlacement cells → IsSidePlacement cells c
side_of cells c p = record { one_king = p.one_king c; no_end_pawn = p.no_end_pawn c }

-- colours that pass the test are equal
pub same_colour_is : (x y : Colour) → same_colour x y ≡ true → x ≡ y
same_colour_is White White e = refl
same_colour_is Black Black e = refl
same_colour_is White Black e = absurd cc
same_colour_is Black White e = absurd cc

-- each colour passes the test with itself
pub same_colour_self : (c : Colour) → same_colour c c ≡ true
same_colour_self White = refl
same_colour_self Black = refl
