-- Steps of the placement's text, rank by rank.
use Rattle.std.proofs.Common.{◌≡◌, ℕ, zero, suc, ◌-◌, ◌*◌, ◌<◌, Bool, true, false, List, [], ◌∷◌, ◌++◌, length, take, drop, sym, ap, subst, ◌∙◌, arith, inl, inr}
use Rattle.std.specs.Prelude.{MatchBool}
use Rattle.std.proofs.lemmas.List.{take_at, drop_at, take-append-drop}
use Rattle.c960_board.specs.Pieces.{Cell}
use Rattle.c960_board.specs.Fen.Fields.{Lacks}
use Rattle.c960_board.specs.Fen.Placement.{SpellsSquares, SpellsRank, SpellsRanks}
use Rattle.c960_board.proofs.Reading.Cuts.{Lacks-cons, same_cut, no_cut}
use Rattle.c960_board.proofs.Reading.Letters.{letter-least}
use Rattle.c960_board.proofs.Reading.RankText.{same_squares}

-- a byte below the digits, such as the slash and the space, does not occur in a rank
pub Lacks-low : (s : ℕ) → s < 49 → (after : Bool) (text : List ℕ) (cells : List Cell) →
    SpellsSquares after text cells → Lacks s text
Lacks-low s low after [] cells h = λ k l. absurd (omega arith)
Lacks-low s low after (b ∷ bs) cells (inl x) =
    let high = letter-least x.0 in
    let at = x.2 in
    Lacks-cons s b bs (omega arith) (Lacks-low s low false bs x.1 x.4)
Lacks-low s low after (b ∷ bs) cells (inr x) =
    let some = x.3 in
    let digit = x.5 in
    Lacks-cons s b bs (omega arith) (Lacks-low s low true bs x.1 x.7)

-- no slash occurs in a rank
pub Lacks-slash : (text : List ℕ) (cells : List Cell) → SpellsRank text cells → Lacks 47 text
Lacks-slash text cells rank = Lacks-low 47 (omega arith) false text cells rank.spelt

-- a text without a slash is not two ranks
pub no_ranks : (n : ℕ) (text : List ℕ) → Lacks 47 text → (all : List Cell) → SpellsRanks (suc n) text all → ⊥
no_ranks n text h all ranks = no_cut 47 ranks.0 ranks.1 (subst (Lacks 47) ranks.2 h)

-- the highest rank and the others are the two parts around the first slash
pub parted : (n : ℕ) (text first rest : List ℕ) → text ≡ first ++ 47 ∷ rest → Lacks 47 first → (all : List Cell) →
    SpellsRanks (suc n) text all →
    SpellsRank first (drop (8 * suc n) all) × SpellsRanks n rest (take (8 * suc n) all)
parted n text first rest e h all ranks =
    let s = same_cut 47 first ranks.0 rest ranks.1 h (Lacks-slash ranks.0 (drop (8 * suc n) all) ranks.3)
    (sym e ∙ ranks.2) in (
      subst (λ (t : List ℕ). SpellsRank t (drop (8 * suc n) all)) (sym s.0) ranks.3,
      subst (λ (t : List ℕ). SpellsRanks n t (take (8 * suc n) all)) (sym s.1) ranks.4,
    )

-- the highest rank is joined to the n + 1 others, or to their fault
more_ranks : (b : Bool) (n : ℕ) (text first rest : List ℕ) (low row : List Cell) → text ≡ first ++ 47 ∷ rest →
    Lacks 47 first → SpellsRank first row → length low ≡ 8 * suc n →
    MatchBool b (SpellsRanks n rest low) ((all : List Cell) → SpellsRanks n rest all → ⊥) → MatchBool b
    (SpellsRanks (suc n) text (low ++ row)) ((all : List Cell) → SpellsRanks (suc n) text all → ⊥)
more_ranks true n text first rest low row e h rank len given = (
  first,
  rest,
  e,
  subst (SpellsRank first) (sym (drop_at low row (8 * suc n) len)) rank,
  subst (SpellsRanks n rest) (sym (take_at low row (8 * suc n) len)) given,
)
more_ranks false n text first rest low row e h rank len given =
    λ all ranks. given (take (8 * suc n) all) (parted n text first rest e h all ranks).1

-- the highest rank joined to the others, or to the fault of the others
pub ranks_up : (b : Bool) (k : ℕ) (text first rest : List ℕ) (low row : List Cell) → 0 < k →
    text ≡ first ++ 47 ∷ rest → Lacks 47 first → SpellsRank first row → length low ≡ 8 * k →
    MatchBool b (SpellsRanks (k - 1) rest low) ((all : List Cell) → SpellsRanks (k - 1) rest all → ⊥) → MatchBool b
    (SpellsRanks k text (low ++ row)) ((all : List Cell) → SpellsRanks k text all → ⊥)
ranks_up b zero text first rest low row l e h rank len given = absurd (omega arith)
ranks_up b (suc n) text first rest low row l e h rank len given =
    let m : suc n - 1 ≡ n = omega arith in
    more_ranks b n text first rest low row e h rank len
    (subst (λ (j : ℕ). MatchBool b (SpellsRanks j rest low) ((all : List Cell) → SpellsRanks j rest all → ⊥)) m
    given)

-- a highest rank that is not one
pub no_high : (k : ℕ) (text first rest : List ℕ) → 0 < k → text ≡ first ++ 47 ∷ rest → Lacks 47 first →
    ((row : List Cell) → SpellsRank first row → ⊥) → (all : List Cell) → SpellsRanks k text all → ⊥
no_high zero text first rest l e h none all ranks = absurd (omega arith)
no_high (suc n) text first rest l e h none all ranks =
    none (drop (8 * suc n) all) (parted n text first rest e h all ranks).0

-- a text spells its ranks in one way
pub same_ranks : (n : ℕ) (text : List ℕ) (x y : List Cell) → SpellsRanks n text x → SpellsRanks n text y → x ≡ y
same_ranks zero text x y a b = same_squares false text x y a.spelt b.spelt
same_ranks (suc n) text x y a b =
    let p = parted n text a.0 a.1 a.2 (Lacks-slash a.0 (drop (8 * suc n) x) a.3) y b in
    let high = same_squares false a.0 (drop (8 * suc n) x) (drop (8 * suc n) y) a.3.spelt p.0.spelt in
    let low = same_ranks n a.1 (take (8 * suc n) x) (take (8 * suc n) y) a.4 p.1 in
    sym (take-append-drop (8 * suc n) x) ∙ ap (λ (z : List Cell). z ++ drop (8 * suc n) x) low
    ∙ ap (λ (z : List Cell). take (8 * suc n) y ++ z) high ∙ take-append-drop (8 * suc n) y
