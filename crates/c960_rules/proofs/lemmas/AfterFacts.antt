-- What a legal move leaves is a lawful position.
use Rattle.std.proofs.Common.{◌≡◌, ◌≢◌, ℕ, ◌+◌, ◌<◌, ◌≤◌, List, false, refl, sym, ◌∙◌, zero-add, arith, subst, Some, None, inl, inr, length}
use Rattle.std.specs.Prelude.{count_by}
use Rattle.std.proofs.lemmas.List.FromFn.{get_or-map-range_with_len, length-map-range_with_len}
use Rattle.c960_board.specs.declared.piece.Colour.{Colour}
use Rattle.c960_board.specs.declared.piece.Colour.TheVariants.{White, Black}
use Rattle.c960_board.specs.declared.piece.Kind.{Kind}
use Rattle.c960_board.specs.declared.piece.Kind.TheVariants.{Pawn, King}
use Rattle.c960_board.specs.declared.rights.CastlingRights.{CastlingRights}
use Rattle.c960_board.specs.declared.parts.Parts.{Parts}
use Rattle.c960_board.specs.Squares.{rank_of, IsEndRank}
use Rattle.c960_board.specs.Pieces.{Cell, man, other, holds}
use Rattle.c960_board.specs.Position.{IsPlacement, AreRights, IsTarget, AreCounters, IsPosition}
use Rattle.c960_board.specs.Cells.{cell_at, rights_of, has_right}
use Rattle.c960_board.specs.Moves.{Triple}
use Rattle.c960_rules.specs.Check.{InCheck, IsLawful}
use Rattle.c960_rules.specs.After.{cell_after, placement_after, keeps_right, rights_after, target_after, half_moves_after, number_after, after}
use Rattle.c960_rules.specs.Legal.{Legal}
use Rattle.c960_rules.proofs.lemmas.CounterSteps.{half_moves_step, number_step}
use Rattle.c960_rules.proofs.lemmas.PieceFacts.{piece_on, holds_is, is_holds, one_kind, other_other}
use Rattle.c960_rules.proofs.CountFacts.{only_one, one_count}
use Rattle.c960_rules.proofs.Change.{HasKing, IsChange, king_kept, king_no_pawn}
use Rattle.c960_rules.proofs.Ordinary.{ordinary_change}
use Rattle.c960_rules.proofs.CastlingFacts.{castling, castling_change}
use Rattle.c960_rules.proofs.lemmas.Reached.{ordinary}
use Rattle.c960_rules.proofs.RightsKept.{IsLeftBy, rights_kept}
use Rattle.c960_rules.proofs.TargetKept.{IsDouble, double, target_kept}

-- the one king of a placement, by its square
pub has_king : (cells : List Cell) (c : Colour) → IsPlacement cells → HasKing (cell_at cells) c
has_king cells c valid =
    let r = only_one (holds c King) cells None (valid.one_king c) in
    let only = r.1 in
    record {
      square = r.0;
      on_board = let i = only.inside in omega (arith, valid.full);
      stands = holds_is c King (cell_at cells r.0) only.passes;
      only = λ u l is. only.only u (omega (arith, valid.full)) (is_holds c King (cell_at cells u) is);
    }

-- a placement with one king of the colour counts one
pub one_king : (cells : List Cell) (c : Colour) → length cells ≡ 64 → HasKing (cell_at cells) c
    → count_by (holds c King) cells ≡ 1
one_king cells c full h =
    one_count (holds c King) cells None h.square (record {
      inside = let i = h.on_board in omega arith;
      passes = is_holds c King (cell_at cells h.square) h.stands;
      only = λ u l is. h.only u (omega arith) (holds_is c King (cell_at cells u) is);
    })

-- the placement after a move, square by square
pub cells_after : (p : Parts) (m : Triple) (u : ℕ) → u < 64 → cell_at (placement_after p m) u ≡ cell_after p m u
unfolding placement_after
cells_after p m u l = get_or-map-range_with_len (cell_after p m) 0 64 u u None l (zero-add u)

-- the placement after a move has 64 squares
pub full_after : (p : Parts) (m : Triple) → length (placement_after p m) ≡ 64
unfolding placement_after
full_after p m = length-map-range_with_len (cell_after p m) 0 64

-- the rights of both sides after a move
abbrev pub all_rights_after : Parts → Triple → CastlingRights
all_rights_after p m = record { white = rights_after p m White; black = rights_after p m Black }

-- the rights of a side after a move have eight files
pub width_after : (p : Parts) (m : Triple) (c : Colour) → length (rights_of (all_rights_after p m) c) ≡ 8
width_after p m White = length-map-range_with_len (keeps_right p m White) 0 8
width_after p m Black = length-map-range_with_len (keeps_right p m Black) 0 8

-- the rights of a side after a move, file by file
pub right_after : (p : Parts) (m : Triple) (c : Colour) (f : ℕ) → f < 8
    → has_right (all_rights_after p m) c f ≡ keeps_right p m c f
right_after p m White f l = get_or-map-range_with_len (keeps_right p m White) 0 8 f f false l (zero-add f)
right_after p m Black f l = get_or-map-range_with_len (keeps_right p m Black) 0 8 f f false l (zero-add f)

-- the move leaves that placement and those rights
left_by : (p : Parts) (m : Triple) → IsLeftBy p m (cell_after p m) (placement_after p m) (all_rights_after p m)
left_by p m = record { squares = cells_after p m; width = width_after p m; files = right_after p m }

-- each side has one king after the move
kings_after : (p : Parts) (m : Triple) (c : Colour) → IsChange p m (cell_after p m) → HasKing (piece_on p) c
    → HasKing (cell_at (placement_after p m)) c
kings_after p m c w h =
    let k = king_kept p m (cell_after p m) c w h in
    record {
      square = k.square;
      on_board = k.on_board;
      stands = cells_after p m k.square k.on_board ∙ k.stands;
      only = λ u l is. k.only u l (sym (cells_after p m u l) ∙ is);
    }

-- there is no pawn on an end rank after the move
no_end_pawn : (p : Parts) (m : Triple) → IsPlacement p.placement → IsChange p m (cell_after p m) → (c : Colour) (s : ℕ)
    → s < 64 → IsEndRank (rank_of s)
    → cell_at (placement_after p m) s ≢ man c Pawn
no_end_pawn p m valid w c s l end is =
    elim (w.came s c Pawn l (sym (cells_after p m s l) ∙ is)) [
      | inl old ↦ valid.no_end_pawn c s l end old
      | inr new ↦ new.pawn refl end
    ]

-- a legal move is a change of the placement, one way or the other
pub legal_change : (p : Parts) (m : Triple) → IsPosition p → IsLawful p → Legal p m → IsChange p m (cell_after p m)
legal_change p m valid lawful legal =
    let king = has_king p.placement p.turn valid.placement in
    elim legal.goes [
      | inl r ↦ ordinary_change p m (ordinary p m valid lawful legal.move r) king legal.move.from
      | inr r ↦ castling_change p m (castling p m valid r) king legal.move.from
    ]

-- no piece but a pawn makes a double step
no_double : (p : Parts) (m : Triple) (t : ℕ) (k : Kind) → k ≢ Pawn → piece_on p m.from ≡ man p.turn k → IsDouble p m t
    → ⊥
no_double p m t k officer is d = officer (one_kind p.turn p.turn k Pawn (sym is ∙ d.pawn))

-- the target that a legal double step leaves
target_here : (p : Parts) (m : Triple) (t : ℕ) → Legal p m → IsDouble p m t
    → IsTarget (placement_after p m) (other p.turn) t
target_here p m t legal d =
    elim legal.goes [
      | inl r ↦ elim r.goes [
        | inl w ↦ absurd (no_double p m t w.kind w.officer w.mover d)
        | inr w ↦ target_kept p m t (placement_after p m) w r.goal d legal.move (cells_after p m)
      ]
      | inr r ↦ absurd (no_double p m t King king_no_pawn r.king d)
    ]

-- what a legal move leaves, whatever the counters
pub record LeavesPosition (p : Parts) (m : Triple) : Type 0 where
  pub placement : IsPlacement (placement_after p m)
  pub rights : (c : Colour) → AreRights (placement_after p m) (all_rights_after p m) c
  pub target : (t : ℕ) → target_after p m ≡ Some t → IsTarget (placement_after p m) (other p.turn) t

-- the placement, the rights and the target after a legal move keep the conditions of a position
pub placement_position : (p : Parts) (m : Triple) → IsPosition p → IsLawful p → Legal p m → LeavesPosition p m
placement_position p m valid lawful legal =
    let w = legal_change p m valid lawful legal in
    record {
      placement = record {
        full = full_after p m;
        one_king = λ c.
            let king = kings_after p m c w (has_king p.placement c valid.placement) in
            one_king (placement_after p m) c (full_after p m) king;
        no_end_pawn = no_end_pawn p m valid.placement w;
      };
      rights = λ c.
          let left = left_by p m in
          rights_kept p m (cell_after p m) (placement_after p m) (all_rights_after p m) c w left (valid.rights c);
      target = λ t is. target_here p m t legal (double p m t is);
    }

-- the move number stays 1 or more
number_low : (c : Colour) (n : ℕ) → 1 ≤ n → 1 ≤ number_after c n
number_low White n h = h
number_low Black n h = omega arith

-- the counters after a move, if neither was at its end
pub counters_after : (p : Parts) (m : Triple) → 1 ≤ p.number → p.half_moves < 65535 → p.number < 65535
    → AreCounters (half_moves_after p m) (number_after p.turn p.number)
unfolding after
counters_after p m low half number =
    let more : half_moves_after p m ≤ p.half_moves + 1 = half_moves_step p m in
    let next : number_after p.turn p.number ≤ p.number + 1 = number_step p m in
    record { half_moves = omega arith; numbered = number_low p.turn p.number low; bounded = omega arith }

-- the position after a legal move is a position
pub after_position : (p : Parts) (m : Triple) → IsPosition p → IsLawful p → Legal p m → p.half_moves < 65535
    → p.number < 65535 → IsPosition (after p m)
unfolding after
after_position p m valid lawful legal half number =
    let w = placement_position p m valid lawful legal in
    record {
      placement = w.placement;
      rights = w.rights;
      target = w.target;
      counters = counters_after p m valid.counters.numbered half number;
    }

-- the position after a legal move is lawful
pub after_lawful : (p : Parts) (m : Triple) → Legal p m → IsLawful (after p m)
unfolding after
after_lawful p m legal check =
    legal.safe (subst (λ (c : Colour). InCheck (placement_after p m) c) (other_other p.turn) check)
