-- Pins: a move from an unpinned square does not expose the king.
use Rattle.std.proofs.Common.{◌≡◌, ◌≢◌, ℕ, ◌^◌, ◌<◌, Bool, true, false, not, ◌&&◌, ◌||◌, None, [], refl, ap, sym, subst, ◌∙◌, inl, inr, arith, w64}
use Rattle.std.specs.Prelude.{◌==◌, bit_and, bit_or, IsFalse}
use Rattle.std.specs.Int.{bit_at, bit_not, trailing_zeros}
use Rattle.std.proofs.Math.Bool.{and-false}
use Rattle.std.proofs.lemmas.Bool.{cases_eq, eq-eqb, eqb-true, eqb-false, ne_eqb, both_ways, or_cases, or_parts, and_parts, and_from, not-true, false_from_ne_true}
use Rattle.std.proofs.lemmas.Nat.{and_le_l}
use Rattle.std.proofs.lemmas.Nat.Bits.{bit_at-trailing_zeros}
use Rattle.c960_board.specs.declared.piece.Colour.{Colour}
use Rattle.c960_board.specs.declared.piece.Colour.TheVariants.{White, Black}
use Rattle.c960_board.specs.declared.piece.Kind.TheVariants.{King, Pawn}
use Rattle.c960_board.specs.declared.parts.Parts.{Parts}
use Rattle.c960_board.specs.Moves.{Triple, IsMove}
use Rattle.c960_board.specs.Pieces.{man, other, holds}
use Rattle.c960_board.specs.Squares.{rank_of}
use Rattle.c960_board.specs.Position.{IsPosition}
use Rattle.c960_board.specs.Sets.{is_in, is_occupied}
use Rattle.c960_rules.specs.After.{placement_after, is_en_passant}
use Rattle.c960_rules.specs.Check.{InCheck}
use Rattle.c960_rules.specs.Lines.{between, squares}
use Rattle.c960_rules.specs.Legal.{Legal}
use Rattle.c960_rules.specs.Inner.Listing.{promotes, is_on_end_rank, is_special, are_plain, triple, goes_to, legal_between, legal_on, stretches_in, one_plain}
use Rattle.c960_rules.proofs.lemmas.Reached.{at_target}
use Rattle.c960_rules.proofs.GoalFacts.{reaches_plain, off_goals, no_kings_castle}
use Rattle.c960_rules.proofs.ListFacts.{one_legal, between_plain}
use Rattle.c960_rules.proofs.WayCandidates.{none_between}
use Rattle.c960_rules.specs.Reaches.{Reaches, last_rank, is_target}
use Rattle.c960_rules.specs.Inner.Pins.{HasOther, HasOthers, IsUnpinned, blockers}
use Rattle.c960_rules.specs.Inner.Safety.{is_occupied_after, is_gone}
use Rattle.c960_rules.specs.Inner.Wheres.{where_set, IsWithout, is_free, is_leaper_on, is_slider_on, is_attacker_on}
use Rattle.c960_rules.proofs.lemmas.AfterFacts.{full_after}
use Rattle.c960_rules.proofs.lemmas.PieceFacts.{piece_on, holds_is, is_holds}
use Rattle.c960_rules.proofs.AfterSets.{one_place, mover_own, king_after, check_there, occupied_is, hits_are}
use Rattle.c960_rules.proofs.AttackAgree.{attackers_are, none_attacked}
use Rattle.c960_rules.proofs.AttackerFacts.{all_attackers, free_back, free_isnt}
use Rattle.c960_rules.proofs.SetLoops.{stretches_all, stretches_alike, legal_on_is}
use Rattle.c960_rules.proofs.WhereFacts.{in_where, where_and, where_or, where_not, where_itself, where_none, where_nothing}

-- ---- Squares that stand alone.

-- a square of the set is another than each that is off the set
pub sole_self : (set a rest : ℕ) → IsWithout set a rest → HasOthers set set
sole_self set a rest w =
    let inside = eq-eqb (bit_at set a) 1 w.was in
    record {
      others = λ f _ out.
          record {
            square = a;
            on_board = w.on_board;
            inside = inside;
            other = λ e. both_ways (is_in set f) out (subst (λ (s : ℕ). is_in set s ≡ true) e inside);
          };
    }

-- a set that has a square more
pub sole_none : (set a rest : ℕ) → IsWithout set a rest → rest < 2 ^ 64 → rest ≢ 0 → HasOthers set 0
sole_none set a rest w fits more =
    let least = bit_at-trailing_zeros w64 rest (omega arith) fits in
    let b = trailing_zeros w64 rest in
    let apart : b ≢ a = λ e. let gone = w.gone in let there = subst (λ (s : ℕ). bit_at rest s ≡ 1) e least.1 in omega arith in
    let same = w.others b least.0 apart in
    record {
      others = λ f lf out.
          elim (cases_eq a f) [
            | inl e ↦
                record { square = b; on_board = least.0; inside = eq-eqb (bit_at set b) 1 (sym same ∙ least.1); other = λ g. apart (g ∙ sym e) }
            | inr ne ↦ record { square = a; on_board = w.on_board; inside = eq-eqb (bit_at set a) 1 w.was; other = ne }
          ];
    }

-- off a union is off both
off_both : (a b f : ℕ) → a < 2 ^ 64 → b < 2 ^ 64 → f < 64 → is_in (bit_or a b) f ≡ false → (is_in a f ≡ false) × (is_in b f ≡ false)
off_both a b f fa fb l out =
    or_parts (is_in a f) (is_in b f)
    (sym (in_where (λ u. is_in a u || is_in b u) (bit_or a b) f (where_or (is_in a) (is_in b) a b (where_itself a fa) (where_itself b fb)) l) ∙ out)

-- one slider more
pub blocked_more : (sliders left k rest king occupied pinned more : ℕ) → IsWithout left k rest → pinned < 2 ^ 64 → more < 2 ^ 64
    → ((s : ℕ) → s < 64 → is_in sliders s ≡ true → is_in left s ≡ false → HasOthers (blockers king occupied s) pinned)
    → HasOthers (blockers king occupied k) more
    → (s : ℕ) → s < 64 → is_in sliders s ≡ true → is_in rest s ≡ false → HasOthers (blockers king occupied s) (bit_or pinned more)
blocked_more sliders left k rest king occupied pinned more w fp fm before here s l inside out =
    record {
      others = λ f lf off.
          let both = off_both pinned more f fp fm lf off in
          elim (cases_eq s k) [
            | inl e ↦ subst (λ (t : ℕ). HasOther (blockers king occupied t) f) (sym e) (here.others f lf both.1)
            | inr ne ↦ (before s l inside (ap (λ (b : ℕ). b == 1) (sym (w.others s l ne)) ∙ out)).others f lf both.0
          ];
    }

-- ---- The king stays safe.

-- the piece on s does not attack the king after the move: something still stands between
still_blocked : (p : Parts) (m : Triple) (king occupied s : ℕ) → IsFalse (is_en_passant p m)
    → occupied ≡ where_set (λ u. is_occupied (piece_on p u)) → HasOther (blockers king occupied s) m.from
    → is_free (where_set (λ u. is_occupied_after p m u)) s king ≡ false
still_blocked p m king occupied s plain eo w =
    let after = where_set (λ u. is_occupied_after p m u) in
    let way = where_set (λ u. between king u s) in
    let u = w.square in
    let was = where_and (λ v. between king v s) (λ v. is_occupied (piece_on p v)) way occupied refl eo in
    let both = and_parts (between king u s) (is_occupied (piece_on p u))
    (sym (in_where (λ v. between king v s && is_occupied (piece_on p v)) (bit_and way occupied) u was w.on_board) ∙ w.inside) in
    let stands = both.1 in
    let stays = ne_eqb u m.from w.other in
    let there : is_occupied_after p m u ≡ true = rw (stands, stays, plain) in
    let is = where_and (λ v. between king v s) (λ v. is_occupied_after p m v) way after refl refl in
    free_back after s king
    ∙ free_isnt after king s way refl (λ z.
    both_ways (between king u s && is_occupied_after p m u)
    (where_none (λ v. between king v s && is_occupied_after p m v) u (sym is ∙ z) w.on_board)
    (and_from (between king u s) (is_occupied_after p m u) both.0 there))

not_either : (a b f : Bool) → a ≡ false → (b ≡ true → f ≡ false) → (a || (b && f)) ≡ false
not_either a true f e h = rw e (h refl)
not_either a false f e h = rw e refl

-- what is known of the enemy's pieces around the king
pub record IsGuarded (p : Parts) (king leapers sliders occupied pinned : ℕ) : Type 0 where
  pub on_board : king < 64
  pub stands : piece_on p king ≡ man p.turn King
  pub leapers_are : leapers ≡ where_set (λ s. is_leaper_on p.placement (other p.turn) s king)
  pub no_leaper : leapers ≡ 0
  pub sliders_are : sliders ≡ where_set (λ s. is_slider_on p.placement (other p.turn) s king)
  pub occupied_are : occupied ≡ where_set (λ s. is_occupied (piece_on p s))
  pub blocked : (s : ℕ) → s < 64 → is_in sliders s ≡ true → HasOthers (blockers king occupied s) pinned

module _ (p : Parts) (king leapers sliders occupied pinned : ℕ) (valid : IsPosition p) (g : IsGuarded p king leapers sliders occupied pinned) where
  -- no enemy piece attacks the king after the move
  no_hit : (m : Triple) (s : ℕ) → IsMove m → is_in pinned m.from ≡ false → IsFalse (is_en_passant p m) → s < 64
      → is_attacker_on p.placement (where_set (λ u. is_occupied_after p m u)) (other p.turn) s king ≡ false
  no_hit m s move off plain l =
      let after = where_set (λ u. is_occupied_after p m u) in
      let none = where_none (λ u. is_leaper_on p.placement (other p.turn) u king) s (sym g.leapers_are ∙ g.no_leaper) l in
      let on = in_where (λ u. is_slider_on p.placement (other p.turn) u king) sliders s g.sliders_are l in
      sym (all_attackers p.placement after (other p.turn) s king)
      ∙ not_either (is_leaper_on p.placement (other p.turn) s king) (is_slider_on p.placement (other p.turn) s king) (is_free after s king) none
      (λ slides. still_blocked p m king occupied s plain g.occupied_are ((g.blocked s l (on ∙ slides)).others m.from move.from off))

  -- so the king is not in check
  pub safe_from : (m : Triple) → IsMove m → m.from ≢ king → is_in pinned m.from ≡ false → Reaches p m
      → IsFalse (is_en_passant p m) → InCheck (placement_after p m) p.turn → ⊥
  safe_from m move ne off w plain check =
      let after = where_set (λ u. is_occupied_after p m u) in
      let hits = where_set (λ s. is_attacker_on p.placement after (other p.turn) s king) in
      let kept = bit_not w64 (where_set (λ s. is_gone p m s)) in
      let cells = placement_after p m in
      let own = mover_own p m w in
      let zero : hits ≡ 0 =
      where_nothing (λ s. is_attacker_on p.placement after (other p.turn) s king) (λ s l. no_hit m s move off plain l) in
      let rest_zero : bit_and hits kept ≡ 0 = let below = and_le_l hits kept in omega arith in
      let rest = hits_are p m own w.goal after king hits (where_set (λ s. is_gone p m s)) (bit_and hits kept) refl refl refl in
      let full = occupied_is p m own w.goal after refl in
      let there = check_there p m king (king_after p m king king valid move w g.on_board g.stands (inr (ne, refl))) in
      none_attacked cells (other p.turn) king (bit_and hits kept)
      (attackers_are cells after (other p.turn) king (bit_and hits kept) (full_after p m) full rest) rest_zero (there.0 check)

  -- the squares that are neither pinned nor the king's
  pub unpinned_are : (one : ℕ) → pinned < 2 ^ 64 → one ≡ where_set (λ s. s == king)
      → IsUnpinned p (bit_not w64 (bit_or pinned one))
  unpinned_are one fits eo =
      let set = bit_not w64 (bit_or pinned one) in
      let is = where_not (λ s. is_in pinned s || (s == king)) (bit_or pinned one)
      (where_or (is_in pinned) (λ s. s == king) pinned one (where_itself pinned fits) eo) in
      let off : (s : ℕ) → s < 64 → is_in set s ≡ true → (is_in pinned s ≡ false) × ((s == king) ≡ false) =
      λ s l h. or_parts (is_in pinned s) (s == king)
      (not-true (is_in pinned s || (s == king)) (sym (in_where (λ u. not (is_in pinned u || (u == king))) set s is l) ∙ h)) in
      record {
        no_king = λ s l h.
            false_from_ne_true (holds p.turn King (piece_on p s))
            (λ k. eqb-false s king (off s l h).1
            (one_place p p.turn s king valid l g.on_board (holds_is p.turn King (piece_on p s) k) g.stands));
        safe = λ m move h w plain.
            let out = off m.from move.from h in
            safe_from m move (eqb-false m.from king out.1) out.0 w plain;
      }

-- ---- The moves that need no test.

-- a move from s to t promotes no pawn and takes nothing en passant
record IsPlainMove (p : Parts) (s t : ℕ) : Type 0 where
  pub no_promotion : promotes p s t ≡ false
  pub no_en_passant : is_en_passant p (triple s t None) ≡ false

-- an officer's
officer_plain : (p : Parts) (s t : ℕ) → holds p.turn Pawn (piece_on p s) ≡ false → IsPlainMove p s t
officer_plain p s t officer = record {
  no_promotion = rw officer refl;
  no_en_passant =
      false_from_ne_true (is_en_passant p (triple s t None))
      (λ e. both_ways (holds p.turn Pawn (piece_on p s)) officer
      (is_holds p.turn Pawn (piece_on p s) (at_target p (triple s t None) e).pawn));
}

-- what is on neither end rank is not on a side's last
off_last : (c : Colour) (t : ℕ) → is_on_end_rank t ≡ false → (rank_of t == last_rank c) ≡ false
off_last White t h = (or_parts (rank_of t == last_rank White) (rank_of t == last_rank Black) h).0
off_last Black t h = (or_parts (rank_of t == last_rank White) (rank_of t == last_rank Black) h).1

-- and any that is neither to an end rank nor to the en passant target
elsewhere_plain : (p : Parts) (s t : ℕ) → is_special p t ≡ false → IsPlainMove p s t
unfolding is_en_passant
elsewhere_plain p s t h =
    let off = or_parts (is_on_end_rank t) (is_target p.target t) h in
    let rank = off_last p.turn t off.0 in
    let target = off.1 in
    record {
      no_promotion = rw rank (and-false (holds p.turn Pawn (piece_on p s)));
      no_en_passant = rw target (and-false (holds p.turn Pawn (piece_on p s)));
    }

-- so the moves to plain goals
goal_plain : (p : Parts) (s t goals : ℕ) → goals ≡ where_set (λ u. goes_to p s u) → are_plain p s goals ≡ true → t < 64
    → goes_to p s t ≡ true → IsPlainMove p s t
goal_plain p s t goals eg plain l goes =
    let pawn = holds p.turn Pawn (piece_on p s) in
    let special = where_set (is_special p) in
    elim (or_cases (not pawn) (bit_and goals special == 0) plain) [
      | inl e ↦ officer_plain p s t (not-true pawn e)
      | inr e ↦
          let both = where_and (λ u. goes_to p s u) (is_special p) goals special eg refl in
          let none = where_none (λ u. goes_to p s u && is_special p u) t (sym both ∙ eqb-true (bit_and goals special) 0 e) l in
          elsewhere_plain p s t (rw goes at none)
    ]

module _ (p : Parts) (s goals unpinned : ℕ) (u : IsUnpinned p unpinned) (on_board : s < 64) (can_leave : is_in unpinned s ≡ true) (plain : are_plain p s goals ≡ true) (eg : goals ≡ where_set (λ t. goes_to p s t)) where
  -- each goal is one legal move
  one_move : (t : ℕ) → t < 64 → is_in goals t ≡ true → one_plain s t ≡ legal_between p s t
  one_move t l e =
      let m = triple s t None in
      let goes = sym (in_where (λ v. goes_to p s v) goals t eg l) ∙ e in
      let is = goal_plain p s t goals eg plain l goes in
      let reaches = reaches_plain p s t goes is.no_promotion in
      let move : IsMove m = record { from = on_board; to = l; promotion = refl } in
      let legal : Legal p m =
      record { move = move; goes = inl reaches; safe = u.safe m move can_leave reaches is.no_en_passant } in
      sym (one_legal p m legal) ∙ sym (between_plain p s t is.no_promotion)

  -- and there are no others
  no_more : (t : ℕ) → t < 64 → is_in goals t ≡ false → legal_between p s t ≡ []
  no_more t l e =
      let off = sym (in_where (λ v. goes_to p s v) goals t eg l) ∙ e in
      none_between p s t
      (record {
        reaches = λ k w. off_goals p s t k off w;
        castles = λ k w. no_kings_castle p s t k (u.no_king s on_board can_leave) w;
      })

  pub plain_moves : stretches_in (one_plain s) goals squares ≡ legal_on p s
  plain_moves =
      stretches_alike (one_plain s) (legal_between p s) goals 0 64 one_move
      ∙ stretches_all (legal_between p s) goals 0 64 no_more ∙ legal_on_is p s
