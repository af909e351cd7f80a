-- Lists filled place by place, and the rights that a move leaves.
use Rattle.std.proofs.Common.{◌≡◌, ℕ, ◌<◌, List, Bool, true, false, not, refl, sym, ap, ◌∙◌, length, get_or}
use Rattle.std.proofs.Math.ListN.{replicate}
use Rattle.std.specs.Prelude.{◌&&◌, ◌==◌}
use Rattle.std.specs.Bool.{beq}
use Rattle.std.specs.Cmp.{booleans_Decides}
use Rattle.std.specs.Cmp.Lexicographic.{pointwise}
use Rattle.std.proofs.lemmas.Bool.{and_left, and_right, not_from_true}
use Rattle.std.proofs.lemmas.List.{get_or-replicate}
use Rattle.std.proofs.lemmas.List.FromFn.{fill_by_all}
use Rattle.std.proofs.lemmas.Slice.Eq.{slice_eq-Decides}
use Rattle.c960_board.specs.declared.piece.Colour.{Colour}
use Rattle.c960_board.specs.declared.piece.Kind.TheVariants.{King}
use Rattle.c960_board.specs.declared.parts.Parts.{Parts}
use Rattle.c960_board.specs.Squares.{home_square}
use Rattle.c960_board.specs.Pieces.{holds}
use Rattle.c960_board.specs.Cells.{cell_at, rights_of, has_right}
use Rattle.c960_board.specs.Moves.{Triple}
use Rattle.c960_rules.specs.After.{keeps_right, rights_after}

-- rights that say of each file whether it keeps its right are the rights after a move
pub are_rights_after : (p : Parts) (m : Triple) (c : Colour) (files : List Bool) → length files ≡ 8
    → ((f : ℕ) → f < 8 → get_or files f false ≡ keeps_right p m c f) → files ≡ rights_after p m c
are_rights_after p m c files full h = fill_by_all (keeps_right p m c) files 8 false full h

-- where no file keeps its right, none is left
none_left : (p : Parts) (m : Triple) (c : Colour) → ((f : ℕ) → f < 8 → keeps_right p m c f ≡ false)
    → replicate 8 false ≡ rights_after p m c
none_left p m c h =
    are_rights_after p m c (replicate 8 false) refl (λ f l. get_or-replicate 8 f false false l ∙ sym (h f l))

-- a side without rights has none after a move
pub none_before : (p : Parts) (m : Triple) (c : Colour) → pointwise beq (rights_of p.rights c) (replicate 8 false) ≡ true
    → replicate 8 false ≡ rights_after p m c
unfolding keeps_right
none_before p m c test =
    let none : rights_of p.rights c ≡ replicate 8 false =
    (slice_eq-Decides {E = beq} booleans_Decides (rights_of p.rights c) (replicate 8 false) _ refl).0 test in
    none_left p m c (λ f l. and_left (has_right p.rights c f) _
    (ap (λ (rs : List Bool). get_or rs f false) none ∙ get_or-replicate 8 f false false l))

-- the king's move ends all rights of its side
pub none_of_king : (p : Parts) (m : Triple) (c : Colour) → holds c King (cell_at p.placement m.from) ≡ true
    → replicate 8 false ≡ rights_after p m c
unfolding keeps_right
none_of_king p m c king =
    none_left p m c (λ f l. and_right (has_right p.rights c f) _
    (and_left (not (holds c King (cell_at p.placement m.from))) _
    (not_from_true (holds c King (cell_at p.placement m.from)) king)))

-- two tests in turn are the test of a kept right, where the king stays
in_turn : (right king from to : Bool) → king ≡ false → ((right && from) && to) ≡ (right && (not king && (from && to)))
in_turn true king from to still = ap (λ (k : Bool). not k && (from && to)) (sym still)
in_turn false king from to still = refl

-- where the king stays, the rights of the rooks on the two squares of a move end
pub two_squares : (p : Parts) (m : Triple) (c : Colour) (r one two : List Bool) → r ≡ rights_of p.rights c
    → holds c King (cell_at p.placement m.from) ≡ false → length two ≡ 8
    → ((f : ℕ) → f < 8 → get_or one f false ≡ (get_or r f false && not (m.from == home_square c f)))
    → ((f : ℕ) → f < 8 → get_or two f false ≡ (get_or one f false && not (m.to == home_square c f)))
    → two ≡ rights_after p m c
unfolding keeps_right
two_squares p m c r one two had still full first second =
    are_rights_after p m c two full (λ f l.
    second f l
    ∙ ap (λ (x : Bool). x && not (m.to == home_square c f)) (first f l)
    ∙ in_turn (get_or r f false) (holds c King (cell_at p.placement m.from)) (not (m.from == home_square c f))
    (not (m.to == home_square c f)) still
    ∙ ap (λ (rs : List Bool). get_or rs f false
    && (not (holds c King (cell_at p.placement m.from))
    && (not (m.from == home_square c f) && not (m.to == home_square c f)))) had)
