-- Evasions: a move that neither takes a piece that gives check nor stands in its way leaves the king in check.
use Rattle.std.proofs.Common.{◌≡◌, ◌≢◌, ℕ, ◌^◌, ◌<◌, Bool, true, false, not, ◌&&◌, ◌||◌, Option, Some, None, [], refl, ap, sym, subst, ◌∙◌, inl, inr, w64}
use Rattle.std.specs.Prelude.{◌==◌, bit_and, bit_or, IsTrue, IsFalse}
use Rattle.std.specs.Int.{bit_not}
use Rattle.std.proofs.lemmas.Bool.{eqb-true, eqb-false, ne_eqb, eq-eqb, both_ways, or_parts, and_from, false_from_ne_true}
use Rattle.c960_board.specs.declared.piece.Kind.{Kind}
use Rattle.c960_board.specs.declared.piece.Kind.TheVariants.{King, Knight, Bishop, Rook, Queen}
use Rattle.c960_board.specs.declared.parts.Parts.{Parts}
use Rattle.c960_board.specs.Moves.{Triple, IsMove, is_promotion}
use Rattle.c960_board.specs.Pieces.{man, other, holds}
use Rattle.c960_board.specs.Position.{IsPosition}
use Rattle.c960_board.specs.Sets.{is_in, is_occupied}
use Rattle.c960_rules.specs.After.{placement_after, is_en_passant}
use Rattle.c960_rules.specs.Check.{InCheck}
use Rattle.c960_rules.specs.Lines.{between}
use Rattle.c960_rules.specs.Reaches.{Reaches, is_target}
use Rattle.c960_rules.specs.Tests.Legal.{is_legal}
use Rattle.c960_rules.specs.Inner.Listing.{triple, goes_to, legal_between, moves_between}
use Rattle.c960_rules.specs.Inner.Pins.{AreEvasions}
use Rattle.c960_rules.specs.Inner.Safety.{is_passed_on, is_occupied_after, is_gone}
use Rattle.c960_rules.specs.Inner.Wheres.{where_set, is_free, is_leaper_on, is_slider_on, is_attacker_on}
use Rattle.c960_rules.proofs.lemmas.AfterFacts.{full_after}
use Rattle.c960_rules.proofs.lemmas.PieceFacts.{piece_on, is_holds}
use Rattle.c960_rules.proofs.lemmas.MoveTests.{legal_tells}
use Rattle.c960_rules.proofs.lemmas.Reached.{at_target}
use Rattle.c960_rules.proofs.AfterSets.{mover_own, king_after, check_there, occupied_is, hits_are}
use Rattle.c960_rules.proofs.AttackAgree.{attackers_are, some_attacked}
use Rattle.c960_rules.proofs.AttackerFacts.{all_attackers, free_is, between_back}
use Rattle.c960_rules.proofs.GoalFacts.{off_goals, no_kings_castle}
use Rattle.c960_rules.proofs.ListFacts.{goes_by_test}
use Rattle.c960_rules.proofs.WayCandidates.{none_between}
use Rattle.c960_rules.proofs.WhereFacts.{in_where, where_and, where_or, where_not, where_itself, where_none, where_nothing}

empty_after : (b o f e t : Bool) → (b && o) ≡ false → (b ≡ true → t ≡ false) → (b && (((o && f) && e) || t)) ≡ false
empty_after true true f e t h g = cc
empty_after true false f e t h g = g refl
empty_after false o f e t h g = refl

attack_kept : (a b f g : Bool) → (a || (b && f)) ≡ true → (f ≡ true → g ≡ true) → (a || (b && g)) ≡ true
attack_kept true b f g h k = refl
attack_kept false true f g h k = k h
attack_kept false false f g h k = h

-- a free way stays free if the move does not go onto it
still_free : (p : Parts) (m : Triple) (king occupied s : ℕ) → occupied ≡ where_set (λ u. is_occupied (piece_on p u))
    → between king m.to s ≡ false → is_free occupied s king ≡ true → is_free (where_set (λ u. is_occupied_after p m u)) s king ≡ true
unfolding is_free
still_free p m king occupied s eo off free =
    let after = where_set (λ u. is_occupied_after p m u) in
    let way = where_set (λ u. between s u king) in
    let was = where_and (λ v. between s v king) (λ v. is_occupied (piece_on p v)) way occupied refl eo in
    let is = where_and (λ v. between s v king) (λ v. is_occupied_after p m v) way after refl refl in
    let none = sym was ∙ eqb-true (bit_and way occupied) 0 free in
    free_is after s king way refl
    (is ∙ where_nothing (λ v. between s v king && is_occupied_after p m v)
    (λ v l.
    empty_after (between s v king) (is_occupied (piece_on p v)) (not (v == m.from)) (not (is_passed_on p m v)) (v == m.to)
    (where_none (λ u. between s u king && is_occupied (piece_on p u)) v none l)
    (λ b. ne_eqb v m.to (λ e. both_ways (between king m.to s) off (subst (λ (u : ℕ). between king u s ≡ true) e (sym (between_back s v king) ∙ b))))))

-- the attacker attacks after the move
pub still_attacked : (p : Parts) (m : Triple) (king occupied s : ℕ) → IsPosition p → IsMove m → Reaches p m → IsFalse (is_en_passant p m)
    → king < 64 → piece_on p king ≡ man p.turn King → m.from ≢ king → s < 64
    → occupied ≡ where_set (λ u. is_occupied (piece_on p u)) → is_attacker_on p.placement occupied (other p.turn) s king ≡ true
    → m.to ≢ s → between king m.to s ≡ false → InCheck (placement_after p m) p.turn
still_attacked p m king occupied s valid move w plain in_board stands ne l eo hit not_taken off =
    let after = where_set (λ u. is_occupied_after p m u) in
    let by = other p.turn in
    let hits = where_set (λ u. is_attacker_on p.placement after by u king) in
    let gone = where_set (λ u. is_gone p m u) in
    let kept = bit_and hits (bit_not w64 gone) in
    let cells = placement_after p m in
    let own = mover_own p m w in
    let still : is_attacker_on p.placement after by s king ≡ true =
    sym (all_attackers p.placement after by s king)
    ∙ attack_kept (is_leaper_on p.placement by s king) (is_slider_on p.placement by s king) (is_free occupied s king) (is_free after s king)
    (all_attackers p.placement occupied by s king ∙ hit) (still_free p m king occupied s eo off) in
    let stays = ne_eqb s m.to (λ e. not_taken (sym e)) in
    let there : not (is_gone p m s) ≡ true = rw (stays, plain) refl in
    let is = where_and (λ u. is_attacker_on p.placement after by u king) (λ u. not (is_gone p m u)) hits (bit_not w64 gone) refl
    (where_not (λ u. is_gone p m u) gone refl) in
    let rest = hits_are p m own w.goal after king hits gone kept refl refl refl in
    let full = occupied_is p m own w.goal after refl in
    let attackers = attackers_are cells after by king kept (full_after p m) full rest in
    (check_there p m king (king_after p m king king valid move w in_board stands (inr (ne, refl)))).1
    (some_attacked cells by king kept attackers
    (λ z. both_ways (is_attacker_on p.placement after by s king && not (is_gone p m s))
    (where_none (λ u. is_attacker_on p.placement after by u king && not (is_gone p m u)) s (sym is ∙ z) l)
    (and_from (is_attacker_on p.placement after by s king) (not (is_gone p m s)) still there)))

-- so each move takes that piece or stands in its way
pub evasions_are : (p : Parts) (king occupied s one way : ℕ) → IsPosition p → king < 64 → piece_on p king ≡ man p.turn King → s < 64
    → occupied ≡ where_set (λ u. is_occupied (piece_on p u)) → is_attacker_on p.placement occupied (other p.turn) s king ≡ true
    → one ≡ where_set (λ u. u == s) → way ≡ where_set (λ u. between king u s) → AreEvasions p (bit_or one way)
evasions_are p king occupied s one way valid in_board stands l eo hit e1 ew =
    record {
      exposed = λ m move no_king off w plain.
          let both = or_parts (m.to == s) (between king m.to s)
          (sym (in_where (λ u. (u == s) || between king u s) (bit_or one way) m.to (where_or (λ u. u == s) (λ u. between king u s) one way e1 ew) move.to) ∙ off) in
          still_attacked p m king occupied s valid move w plain in_board stands
          (λ e. both_ways (holds p.turn King (piece_on p m.from)) no_king (is_holds p.turn King (piece_on p m.from) (ap (piece_on p) e ∙ stands))) l eo hit
          (eqb-false m.to s both.0) both.1;
    }

-- if the king is not in check, a move may go anywhere
pub evasions_all : (p : Parts) → AreEvasions p (bit_not w64 0)
evasions_all p =
    let all = where_not (λ s. false) 0 (sym (where_nothing (λ s. false) (λ i l. refl))) in
    record {
      exposed = λ m move no_king off w plain.
          absurd (both_ways (is_in (bit_not w64 0) m.to) off (in_where (λ s. true) (bit_not w64 0) m.to all move.to));
    }

-- no move between two squares is legal if it must go elsewhere
pub no_evasion : (p : Parts) (s t evasions : ℕ) → AreEvasions p evasions → s < 64 → t < 64 → holds p.turn King (piece_on p s) ≡ false
    → is_in evasions t ≡ false → is_target p.target t ≡ false → legal_between p s t ≡ []
unfolding legal_between moves_between
no_evasion p s t evasions ev ls lt no_king off no_target =
    let fails : (k : Option Kind) → IsTrue (is_promotion k) → is_legal p (triple s t k) ≡ false =
    λ k h.
    let m = triple s t k in
    let move : IsMove m = record { from = ls; to = lt; promotion = h } in
    let plain : is_en_passant p m ≡ false =
    false_from_ne_true (is_en_passant p m) (λ e. both_ways (is_target p.target t) no_target (let at = at_target p m e in let is = at.target in rw is (eq-eqb t t refl))) in
    false_from_ne_true (is_legal p m) (λ e.
    elim (goes_by_test p m e) [
      | inl w ↦ (legal_tells p m move e).safe (ev.exposed m move no_king off w plain)
      | inr w ↦ no_kings_castle p s t k no_king w
    ]) in
    let a = fails None refl in
    let b = fails (Some Knight) refl in
    let c = fails (Some Bishop) refl in
    let d = fails (Some Rook) refl in
    let e = fails (Some Queen) refl in
    rw (a, b, c, d, e) refl

-- off the goals none is either
pub no_candidate : (p : Parts) (s t goals evasions target : ℕ) → AreEvasions p evasions → evasions < 2 ^ 64 → s < 64 → t < 64
    → holds p.turn King (piece_on p s) ≡ false → goals ≡ where_set (λ u. goes_to p s u) → target ≡ where_set (λ u. is_target p.target u)
    → is_in (bit_and goals (bit_or evasions target)) t ≡ false → legal_between p s t ≡ []
no_candidate p s t goals evasions target ev fits ls lt no_king eg et off =
    let wanted = where_or (is_in evasions) (λ u. is_target p.target u) evasions target (where_itself evasions fits) et in
    let set = where_and (λ u. goes_to p s u) (λ u. is_in evasions u || is_target p.target u) goals (bit_or evasions target) eg wanted in
    let out = sym (in_where (λ u. goes_to p s u && (is_in evasions u || is_target p.target u)) (bit_and goals (bit_or evasions target)) t set lt) ∙ off in
    elim (goes_to p s t) as (λ b. goes_to p s t ≡ b → legal_between p s t ≡ []) [
      | true ↦ λ g.
          let both = or_parts (is_in evasions t) (is_target p.target t) (ap (λ (b : Bool). b && (is_in evasions t || is_target p.target t)) (sym g) ∙ out) in
          no_evasion p s t evasions ev ls lt no_king both.0 both.1
      | false ↦ λ g.
          none_between p s t
          (record { reaches = λ k w. off_goals p s t k g w; castles = λ k w. no_kings_castle p s t k no_king w })
    ] refl
