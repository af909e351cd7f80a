-- Steps of a rank's text, byte by byte.
use Rattle.std.proofs.Common.{◌≡◌, ℕ, zero, suc, ◌+◌, ◌<◌, ◌≤◌, Bool, true, false, List, [], ◌∷◌, ◌++◌, length, get_or, take, drop, Some, None, refl, sym, ap, subst, ◌∙◌, arith, inl, inr, append_assoc, add-one, drop-cons, append-nil, length-append, set, take_all}
use Rattle.std.specs.Bool.{IsFalse}
use Rattle.std.proofs.lemmas.List.{nil_from_length, length-drop, take_more_set}
use Rattle.c960_board.specs.declared.piece.Piece.{Piece}
use Rattle.c960_board.specs.Pieces.{Cell}
use Rattle.c960_board.specs.Fen.Letters.{letter}
use Rattle.c960_board.specs.Fen.Placement.{empties, SpellsSquares, SpellsRank}
use Rattle.c960_board.specs.Fen.Reading.{IsRunOf, IsNoSymbol}
use Rattle.c960_board.proofs.Reading.Letters.{letter_injective, letter-least}

-- the squares that are left of a text
pub record Left (front : List Cell) (after : Bool) (rest : List ℕ) (all : List Cell) : Type 0 where
  pub more : List Cell
  pub whole : all ≡ front ++ more
  pub spelt : SpellsSquares after rest more

-- after a piece's letter the text continues with the squares after that piece
pub spelt_man : (after : Bool) (b : ℕ) (bs : List ℕ) (cells : List Cell) (p : Piece) → b ≡ letter p →
    SpellsSquares after (b ∷ bs) cells → Left (Some p ∷ []) false bs cells
spelt_man after b bs cells p e (inl x) =
    let same : x.0 ≡ p = letter_injective x.0 p (sym x.2 ∙ e) in
    record { more = x.1; whole = x.3 ∙ ap (λ (q : Piece). Some q ∷ x.1) same; spelt = x.4 }
spelt_man after b bs cells p e (inr x) =
    let high = letter-least p in let bound = x.4 in let digit = x.5 in absurd (omega arith)

-- after a run's digit, which follows no other, the text continues with the squares after that run
pub spelt_run : (after : Bool) (b : ℕ) (bs : List ℕ) (cells : List Cell) (n : ℕ) → IsRunOf n b →
    SpellsSquares after (b ∷ bs) cells → IsFalse after × Left (empties n) true bs cells
spelt_run after b bs cells n e (inl x) = let high = letter-least x.0 in let at = x.2 in absurd (omega arith)
spelt_run after b bs cells n e (inr x) =
    let digit = x.5 in
    let same : x.0 ≡ n = omega arith in
    (x.2, record { more = x.1; whole = x.6 ∙ ap (λ (m : ℕ). empties m ++ x.1) same; spelt = x.7 })

-- no text of squares begins with another byte
pub spelt_other : (after : Bool) (b : ℕ) (bs : List ℕ) (cells : List Cell) → IsNoSymbol b →
    SpellsSquares after (b ∷ bs) cells → ⊥
spelt_other after b bs cells e (inl x) = e.no_man x.0 x.2
spelt_other after b bs cells e (inr x) = e.no_run x.0 (record { some = x.3; bound = x.4; digit = x.5 })

-- a text spells its squares in one way
pub same_squares : (after : Bool) (text : List ℕ) (x y : List Cell) → SpellsSquares after text x →
    SpellsSquares after text y → x ≡ y
same_squares after [] x y a b = a ∙ sym b
same_squares after (b ∷ bs) x y (inl a) d =
    let e = spelt_man after b bs y a.0 a.2 d in
    a.3 ∙ ap (λ (z : List Cell). Some a.0 ∷ z) (same_squares false bs a.1 e.more a.4 e.spelt) ∙ sym e.whole
same_squares after (b ∷ bs) x y (inr a) d =
    let e = (spelt_run after b bs y a.0 (record { some = a.3; bound = a.4; digit = a.5 }) d).1 in
    a.6 ∙ ap (λ (z : List Cell). empties a.0 ++ z) (same_squares true bs a.1 e.more a.7 e.spelt) ∙ sym e.whole

-- The text spells these squares at its front, and then those of its rest, and no others.
pub record Fronts (front : List Cell) (after : Bool) (rest text : List ℕ) : Type 0 where
  pub forth : (more : List Cell) → SpellsSquares after rest more → SpellsSquares false text (front ++ more)
  pub back : (all : List Cell) → SpellsSquares false text all → Left front after rest all

-- What has been read before place i is the front of the text's squares.
pub record Reads (front : List Cell) (after : Bool) (text : List ℕ) (i : ℕ) : Type 0 where
  pub so_far : Fronts front after (drop i text) text

-- the text from a place on begins with the byte there
front_is : (text : List ℕ) (i : ℕ) → i < length text → drop i text ≡ get_or text i 0 ∷ drop (i + 1) text
front_is text i l = rw (add-one, drop-cons text i 0) refl

-- the byte at place i is the next
next_byte : (front : List Cell) (after : Bool) (text : List ℕ) (i : ℕ) → Reads front after text i → i < length text →
    Fronts front after (get_or text i 0 ∷ drop (i + 1) text) text
next_byte front after text i r l = subst (λ (t : List ℕ). Fronts front after t text) (front_is text i l) r.so_far

-- squares more, if the text behind the front begins with them and with no others
fronts_more : (front squares : List Cell) (after behind : Bool) (text bs all : List ℕ) →
    ((more : List Cell) → SpellsSquares behind bs more → SpellsSquares after text (squares ++ more)) →
    ((cells : List Cell) → SpellsSquares after text cells → Left squares behind bs cells) →
    Fronts front after text all → Fronts (front ++ squares) behind bs all
fronts_more front squares after behind text bs all forth back f =
    record {
      forth = λ more s.
          subst (SpellsSquares false all) (sym (append_assoc front squares more)) (f.forth (squares ++ more) (forth more s));
      back = λ cells s.
          let given = f.back cells s in
          let left = back given.more given.spelt in
          record {
            more = left.more;
            whole = given.whole ∙ ap (λ (z : List Cell). front ++ z) left.whole ∙ sym (append_assoc front squares left.more);
            spelt = left.spelt;
          };
    }

-- a piece's letter more
pub fronts_man : (front : List Cell) (after : Bool) (b : ℕ) (bs text : List ℕ) (p : Piece) → b ≡ letter p →
    Fronts front after (b ∷ bs) text → Fronts (front ++ Some p ∷ []) false bs text
fronts_man front after b bs text p e f =
    fronts_more front (Some p ∷ []) after false (b ∷ bs) bs text (λ more s. inl (p, more, e, refl, s))
    (λ cells s. spelt_man after b bs cells p e s) f

-- one more run's digit, not after another
pub fronts_run : (front : List Cell) (b : ℕ) (bs text : List ℕ) (n : ℕ) → IsRunOf n b →
    Fronts front false (b ∷ bs) text → Fronts (front ++ empties n) true bs text
fronts_run front b bs text n e f =
    fronts_more front (empties n) false true (b ∷ bs) bs text
    (λ more s. inr (n, more, refl, e.some, e.bound, e.digit, refl, s)) (λ cells s. (spelt_run false b bs cells n e s).1) f

-- a run of n empty squares is n squares long
pub length-empties : (n : ℕ) → length (empties n) ≡ n
length-empties zero = refl
length-empties (suc n) = ap suc (length-empties n)

-- squares more that do not fit into eight
too_long : (front squares : List Cell) (after behind : Bool) (text : List ℕ) (i : ℕ) → Reads front after text i →
    i < length text →
    ((cells : List Cell) → SpellsSquares after (get_or text i 0 ∷ drop (i + 1) text) cells →
    Left squares behind (drop (i + 1) text) cells) →
    8 < length front + length squares → (all : List Cell) → SpellsRank text all → ⊥
too_long front squares after behind text i r l back long all rank =
    let given = (next_byte front after text i r l).back all rank.spelt in
    let left = back given.more given.spelt in
    let whole : length all ≡ length front + length given.more =
    ap length given.whole ∙ length-append front given.more in
    let more : length given.more ≡ length squares + length left.more =
    ap length left.whole ∙ length-append squares left.more in
    let full = rank.full in
    omega arith

-- a piece after eight squares
pub man_too_long : (front : List Cell) (after : Bool) (text : List ℕ) (i : ℕ) (p : Piece) → Reads front after text i →
    i < length text → get_or text i 0 ≡ letter p →
    8 ≤ length front → (all : List Cell) → SpellsRank text all → ⊥
man_too_long front after text i p r l e long =
    too_long front (Some p ∷ []) after false text i r l
    (λ cells s. spelt_man after (get_or text i 0) (drop (i + 1) text) cells p e s) (omega arith)

-- a run that does not fit into eight squares
pub run_too_long : (front : List Cell) (after : Bool) (text : List ℕ) (i n : ℕ) → Reads front after text i →
    i < length text → IsRunOf n (get_or text i 0) →
    8 < length front + n → (all : List Cell) → SpellsRank text all → ⊥
run_too_long front after text i n r l e long =
    too_long front (empties n) after true text i r l
    (λ cells s. (spelt_run after (get_or text i 0) (drop (i + 1) text) cells n e s).1) (omega (arith, length-empties n))

-- a digit after a digit
pub run_twice : (front : List Cell) (after : Bool) (text : List ℕ) (i n : ℕ) → Reads front after text i →
    i < length text → IsRunOf n (get_or text i 0) → after ≡ true →
    (all : List Cell) → SpellsRank text all → ⊥
run_twice front after text i n r l e on all rank =
    let given = (next_byte front after text i r l).back all rank.spelt in
    let off : after ≡ false = (spelt_run after (get_or text i 0) (drop (i + 1) text) given.more n e given.spelt).0 in
    cc

-- a byte that means nothing
pub other_byte : (front : List Cell) (after : Bool) (text : List ℕ) (i : ℕ) → Reads front after text i →
    i < length text → IsNoSymbol (get_or text i 0) →
    (all : List Cell) → SpellsRank text all → ⊥
other_byte front after text i r l e all rank =
    let given = (next_byte front after text i r l).back all rank.spelt in
    spelt_other after (get_or text i 0) (drop (i + 1) text) given.more e given.spelt

-- at the end of the text its squares are those that were read
end_is : (front : List Cell) (after : Bool) (text : List ℕ) (i : ℕ) → Reads front after text i → length text ≤ i →
    Fronts front after [] text
end_is front after text i r l =
    subst (λ (t : List ℕ). Fronts front after t text)
    (nil_from_length (drop i text) (omega (arith, length-drop i text))) r.so_far

-- a text that ends too soon
pub too_short : (front : List Cell) (after : Bool) (text : List ℕ) (i : ℕ) → Reads front after text i →
    length text ≤ i → length front < 8 → (all : List Cell) → SpellsRank text all → ⊥
too_short front after text i r l short all rank =
    let given = (end_is front after text i r l).back all rank.spelt in
    let none : given.more ≡ [] = given.spelt in
    let more : length given.more ≡ 0 = ap length none in
    let whole : length all ≡ length front + length given.more =
    ap length given.whole ∙ length-append front given.more in
    let full = rank.full in
    omega arith

-- the empty squares after the front
pub take_empties : (cells : List Cell) (file n : ℕ) → ((k : ℕ) → file ≤ k → get_or cells k None ≡ None) →
    file + n ≤ length cells → take (file + n) cells ≡ take file cells ++ empties n
take_empties [] zero zero h l = refl
take_empties [] zero (suc n) h l = absurd (omega arith)
take_empties [] (suc file) n h l = absurd (omega arith)
take_empties (x ∷ xs) zero zero h l = refl
take_empties (x ∷ xs) zero (suc n) h l =
    let first : x ≡ None = h 0 (omega arith) in
    let rest = take_empties xs zero n (λ k _. h (suc k) (omega arith)) (omega arith) in
    let e : zero + suc n ≡ suc (zero + n) = omega arith in
    ap (λ (m : ℕ). take m (x ∷ xs)) e ∙ ap (λ (c : Cell). c ∷ take (zero + n) xs) first
    ∙ ap (λ (z : List Cell). None ∷ z) rest
take_empties (x ∷ xs) (suc file) n h l =
    let rest = take_empties xs file n (λ k m. h (suc k) (omega arith)) (omega arith) in
    let e : suc file + n ≡ suc (file + n) = omega arith in
    ap (λ (m : ℕ). take m (x ∷ xs)) e ∙ ap (λ (z : List Cell). x ∷ z) rest

-- before the first byte nothing is read
pub starts : (text : List ℕ) (cells : List Cell) → Reads (take 0 cells) false text 0
starts text cells =
    record { so_far = record { forth = λ more s. s; back = λ all s. record { more = all; whole = refl; spelt = s } } }

-- what a piece leaves in the array
pub man_reads : (cells : List Cell) (file : ℕ) (after : Bool) (text : List ℕ) (i : ℕ) (p : Piece) →
    Reads (take file cells) after text i → i < length text → get_or text i 0 ≡ letter p → file < length cells →
    Reads (take (file + 1) (set cells file (Some p))) false text (i + 1)
man_reads cells file after text i p r l e m =
    let on : Reads (take file cells ++ Some p ∷ []) false text (i + 1) =
    record {
      so_far = fronts_man (take file cells) after (get_or text i 0) (drop (i + 1) text) text p e
          (next_byte (take file cells) after text i r l);
    } in
    subst (λ (x : List Cell). Reads x false text (i + 1)) (sym (take_more_set cells file (Some p) m)) on

-- what a run leaves in the array
pub run_reads : (cells : List Cell) (file : ℕ) (after : Bool) (text : List ℕ) (i n : ℕ) →
    Reads (take file cells) after text i → i < length text → IsRunOf n (get_or text i 0) → after ≡ false →
    file + n ≤ length cells →
    ((k : ℕ) → file ≤ k → get_or cells k None ≡ None) → Reads (take (file + n) cells) true text (i + 1)
run_reads cells file after text i n r l e off m h =
    let s = subst (λ (b : Bool). Reads (take file cells) b text i) off r in
    let on : Reads (take file cells ++ empties n) true text (i + 1) =
    record {
      so_far = fronts_run (take file cells) (get_or text i 0) (drop (i + 1) text) text n e
          (next_byte (take file cells) false text i s l);
    } in
    subst (λ (x : List Cell). Reads x true text (i + 1)) (sym (take_empties cells file n h m)) on

-- eight squares that were read up to the end are the rank's
pub is_rank : (cells : List Cell) (file : ℕ) (after : Bool) (text : List ℕ) (i : ℕ) →
    Reads (take file cells) after text i → length text ≤ i → 8 ≤ file → length cells ≡ 8 → SpellsRank text cells
is_rank cells file after text i r l m full =
    let spelt = (end_is (take file cells) after text i r l).forth [] refl in
    let same : take file cells ++ [] ≡ cells = append-nil (take file cells) ∙ take_all file cells (omega arith) in
    record { spelt = subst (SpellsSquares false text) same spelt; full = full }
