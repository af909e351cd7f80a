-- What the equality of kinds means.
use Rattle.std.proofs.Common.{◌≡◌, refl, true}
use Rattle.std.specs.Bool.{Decides}
use Rattle.c960_board.specs.declared.piece.Kind.{Kind}
use Rattle.c960_board.specs.declared.piece.Kind.TheVariants.{Pawn, Knight, Bishop, Rook, Queen, King}
use Rattle.c960_board.specs.contracts.piece.KindPartialEq.TheImpl.{eq-value}
use Rattle.c960_board.specs.Pieces.{same_kind}

-- `==` on kinds is equality
pub kind_decides : (a b : Kind) → Decides (eq-value.it a b) (a ≡ b)
kind_decides Pawn Pawn = (λ e. refl, λ e. refl)
kind_decides Knight Knight = (λ e. refl, λ e. refl)
kind_decides Bishop Bishop = (λ e. refl, λ e. refl)
kind_decides Rook Rook = (λ e. refl, λ e. refl)
kind_decides Queen Queen = (λ e. refl, λ e. refl)
kind_decides King King = (λ e. refl, λ e. refl)
kind_decides _ _ = (λ e. absurd cc, λ e. absurd cc)

-- kinds that pass the test are equal
pub same_kind_is : (x y : Kind) → same_kind x y ≡ true → x ≡ y
same_kind_is Pawn Pawn e = refl
same_kind_is Knight Knight e = refl
same_kind_is Bishop Bishop e = refl
same_kind_is Rook Rook e = refl
same_kind_is Queen Queen e = refl
same_kind_is King King e = refl
same_kind_is _ _ e = absurd cc

-- each kind passes the test with itself
pub same_kind_self : (k : Kind) → same_kind k k ≡ true
same_kind_self Pawn = refl
same_kind_self Knight = refl
same_kind_self Bishop = refl
same_kind_self Rook = refl
same_kind_self Queen = refl
same_kind_self King = refl
