-- What the test of two positions decides.
use Rattle.std.proofs.Common.{◌≡◌, ℕ, Bool, true, List, Option, Some, None, ◌↔◌, refl, ap, nat_eq}
use Rattle.std.specs.Prelude.{IsTrue}
use Rattle.std.specs.Bool.{beq, Decides}
use Rattle.std.specs.Cmp.{booleans_Decides}
use Rattle.std.specs.Cmp.Lexicographic.{pointwise}
use Rattle.std.specs.Option.{option_eq}
use Rattle.std.proofs.lemmas.Bool.{and_parts, and_from}
use Rattle.std.proofs.lemmas.Bool.Decides.{Decides-eqb, same_from_decides}
use Rattle.std.proofs.lemmas.Slice.Eq.{slice_eq-Decides}
use Rattle.c960_board.specs.declared.piece.Colour.{Colour}
use Rattle.c960_board.specs.declared.piece.Colour.TheVariants.{White, Black}
use Rattle.c960_board.specs.declared.rights.CastlingRights.{CastlingRights}
use Rattle.c960_board.specs.declared.parts.Parts.{Parts}
use Rattle.c960_board.specs.Pieces.{Cell, same_colour}
use Rattle.c960_rules.proofs.lemmas.PieceFacts.{holds_is, is_holds}
use Rattle.c960_game.specs.Same.{Same}
use Rattle.c960_game.specs.Tests.Same.{legal_target, same, same_piece, same_rights}
use Rattle.c960_game.proofs.CaptureFacts.{same_captures, same_targets}

-- the test of two sides
pub colour_decides : (x y : Colour) → Decides (same_colour x y) (x ≡ y)
colour_decides White White = (λ e. refl, λ e. refl)
colour_decides Black Black = (λ e. refl, λ e. refl)
colour_decides White Black = (λ e. cc, λ e. cc)
colour_decides Black White = (λ e. cc, λ e. cc)

-- the test of what two squares hold
cell_decides : (x y : Cell) → Decides (option_eq same_piece x y) (x ≡ y)
cell_decides None None = (λ e. refl, λ e. refl)
cell_decides None (Some q) = (λ e. cc, λ e. cc)
cell_decides (Some p) None = (λ e. cc, λ e. cc)
cell_decides (Some p) (Some q) = (λ e. holds_is q.colour q.kind (Some p) e, λ e. is_holds q.colour q.kind (Some p) e)

-- the test of two placements
placement_decides : (xs ys : List Cell) → Decides (pointwise (option_eq same_piece) xs ys) (xs ≡ ys)
placement_decides xs ys = slice_eq-Decides {E = option_eq same_piece} cell_decides xs ys _ refl

-- whatever decides whether two placements are equal is that test
pub placement_test : (b : Bool) (xs ys : List Cell) → (IsTrue b ↔ (xs ≡ ys)) → b ≡ pointwise (option_eq same_piece) xs ys
placement_test b xs ys h =
    same_from_decides b (pointwise (option_eq same_piece) xs ys) h (placement_decides xs ys)

-- the test of the rights of a side
files_decide : (xs ys : List Bool) → Decides (pointwise beq xs ys) (xs ≡ ys)
files_decide xs ys = slice_eq-Decides {E = beq} booleans_Decides xs ys _ refl

-- the test of the rights of both
rights_decide : (r s : CastlingRights) → Decides (same_rights r s) (r ≡ s)
rights_decide r s = (
  λ h.
      let w = and_parts (pointwise beq r.white s.white) (pointwise beq r.black s.black) h in
      let white = (files_decide r.white s.white).0 w.0 in
      let black = (files_decide r.black s.black).0 w.1 in
      λ i. record { white = white i; black = black i },
  λ e.
      let white = (files_decide r.white s.white).1 (ap (λ (t : CastlingRights). t.white) e) in
      let black = (files_decide r.black s.black).1 (ap (λ (t : CastlingRights). t.black) e) in
      and_from (pointwise beq r.white s.white) (pointwise beq r.black s.black) white black,
)

-- the test of two targets
target_decides : (x y : Option ℕ) → Decides (option_eq nat_eq x y) (x ≡ y)
target_decides None None = (λ e. refl, λ e. refl)
target_decides None (Some t) = (λ e. cc, λ e. cc)
target_decides (Some s) None = (λ e. cc, λ e. cc)
target_decides (Some s) (Some t) = (
  λ h. ap Some ((Decides-eqb s t).0 h),
  λ e. (Decides-eqb s t).1 (let inner : s ≡ t = cc in inner),
)

-- positions that pass the test are the same
same_tells : (p q : Parts) → same p q ≡ true → Same p q
unfolding same
same_tells p q h =
    let w = and_parts (same_colour p.turn q.turn) _ h in
    let v = and_parts (pointwise (option_eq same_piece) p.placement q.placement) _ w.1 in
    let u = and_parts (same_rights p.rights q.rights) (option_eq nat_eq (legal_target p) (legal_target q)) v.1 in
    let turn = (colour_decides p.turn q.turn).0 w.0 in
    let placement = (placement_decides p.placement q.placement).0 v.0 in
    let rights = (rights_decide p.rights q.rights).0 u.0 in
    let target = (target_decides (legal_target p) (legal_target q)).0 u.1 in
    record { turn = turn; placement = placement; rights = rights; captures = same_captures p q turn placement rights target }

-- and the same positions pass it
pub same_from : (p q : Parts) → Same p q → same p q ≡ true
unfolding same
same_from p q h =
    let turn = (colour_decides p.turn q.turn).1 h.turn in
    let placement = (placement_decides p.placement q.placement).1 h.placement in
    let rights = (rights_decide p.rights q.rights).1 h.rights in
    let target = (target_decides (legal_target p) (legal_target q)).1 (same_targets p q h.captures) in
    and_from (same_colour p.turn q.turn) _ turn
    (and_from (pointwise (option_eq same_piece) p.placement q.placement) _ placement
    (and_from (same_rights p.rights q.rights) (option_eq nat_eq (legal_target p) (legal_target q)) rights target))

-- the test decides the relation
pub same_decides : (p q : Parts) → IsTrue (same p q) ↔ Same p q
same_decides p q = (same_tells p q, same_from p q)

-- positions that pass the test have one placement
pub same_placement_of : (p q : Parts) → same p q ≡ true → p.placement ≡ q.placement
same_placement_of p q h = let w = same_tells p q h in w.placement
