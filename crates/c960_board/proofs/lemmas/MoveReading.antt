-- The function that reads a move's text answers exactly the move of the text, or its first fault.
use Rattle.std.proofs.Common.{ℕ, ◌≡◌, ◌+◌, ◌-◌, ◌*◌, ◌/◌, ◌%◌, ◌<◌, ◌≤◌, List, [], ◌∷◌, ◌++◌, length, take, Option, Some, None, Result, Ok, Err, true, IsTrue, refl, sym, ap, subst, ◌∙◌, arith, inl, inr}
use Rattle.std.specs.Prelude.{◌⊎◌, ◌==◌, nat_le, ◌&&◌, MatchResult, MatchOption}
use Rattle.std.proofs.lemmas.Bool.{and_from, and_parts, le-leb, leb-true, eqb-true, eqb-false, cond_both, true≢false, cases_lt}
use Rattle.std.proofs.lemmas.List.{length-take, take_all}
use Rattle.c960_board.specs.declared.piece.Kind.{Kind}
use Rattle.c960_board.specs.declared.piece.Kind.TheVariants.{Pawn, Knight, Bishop, Rook, Queen, King}
use Rattle.c960_board.specs.declared.moves.fault.MoveFault.{MoveFault}
use Rattle.c960_board.specs.declared.moves.fault.MoveFault.TheVariants.{Length}
use Rattle.c960_board.specs.Moves.{Triple, is_promotion}
use Rattle.c960_board.specs.MoveTexts.{MoveText, HasMoveLength, BeginsWithSquares, IsMoveFault, square_text, promotion_text}
use Rattle.c960_board.specs.MoveReading.{is_file_letter, is_rank_digit, square_read, promotion_read, move_of, move_read}

-- the two bytes are the square's text
record IsSquareText (a b s : ℕ) : Type 0 where
  on_board : s < 64
  file : a ≡ 97 + s % 8
  rank : b ≡ 49 + s / 8

-- two bytes in range are a square's text
square_of_bytes : (a b : ℕ) → (is_file_letter a && is_rank_digit b) ≡ true → IsSquareText a b ((a - 97) + 8 * (b - 49))
square_of_bytes a b h =
    let both = and_parts (is_file_letter a) (is_rank_digit b) h in
    let file = and_parts (nat_le 97 a) (nat_le a 104) both.0 in
    let rank = and_parts (nat_le 49 b) (nat_le b 56) both.1 in
    let file_low : 97 ≤ a = leb-true 97 a file.0 in
    let file_high : a ≤ 104 = leb-true a 104 file.1 in
    let rank_low : 49 ≤ b = leb-true 49 b rank.0 in
    let rank_high : b ≤ 56 = leb-true b 56 rank.1 in
    record { on_board = omega arith; file = omega arith; rank = omega arith }

-- the bytes of a square's text are in range
bytes_of_square : (a b s : ℕ) → IsSquareText a b s → (is_file_letter a && is_rank_digit b) ≡ true
bytes_of_square a b s h =
    and_from (is_file_letter a) (is_rank_digit b)
    (and_from (nat_le 97 a) (nat_le a 104)
    (le-leb 97 a (omega (arith, h.on_board, h.file))) (le-leb a 104 (omega (arith, h.on_board, h.file))))
    (and_from (nat_le 49 b) (nat_le b 56)
    (le-leb 49 b (omega (arith, h.on_board, h.rank))) (le-leb b 56 (omega (arith, h.on_board, h.rank))))

-- what the reading of two bytes says: the square whose text they are, or that they are not a square's
abbrev TellsSquare : ℕ → ℕ → Option ℕ → Type 0
TellsSquare a b o = MatchOption o ((s : ℕ) → IsSquareText a b s → ⊥) (λ s. IsSquareText a b s)

square_tells : (a b : ℕ) → TellsSquare a b (square_read a b)
unfolding square_read
square_tells a b =
    cond_both (is_file_letter a && is_rank_digit b) (Some ((a - 97) + 8 * (b - 49))) None (TellsSquare a b)
    (λ e. square_of_bytes a b e)
    (λ e s h. true≢false (sym (bytes_of_square a b s h) ∙ e))

-- the bytes are the promotion's text
record IsPromotionText (last : List ℕ) (p : Option Kind) : Type 0 where
  valid : IsTrue (is_promotion p)
  spelt : last ≡ promotion_text p

-- what the reading of the bytes after the squares says: their promotion, or that they are not a promotion's
abbrev TellsPromotion : List ℕ → Option (Option Kind) → Type 0
TellsPromotion last o = MatchOption o ((p : Option Kind) → IsPromotionText last p → ⊥) (λ p. IsPromotionText last p)

-- a byte that is none of the four letters is not a promotion's text
no_letter : (b : ℕ) → (b ≡ 110 → ⊥) → (b ≡ 98 → ⊥) → (b ≡ 114 → ⊥) → (b ≡ 113 → ⊥) →
    (p : Option Kind) → IsPromotionText (b ∷ []) p → ⊥
no_letter b n i r q None h = let e = h.spelt in absurd cc
no_letter b n i r q (Some Knight) h = let e = h.spelt in n cc
no_letter b n i r q (Some Bishop) h = let e = h.spelt in i cc
no_letter b n i r q (Some Rook) h = let e = h.spelt in r cc
no_letter b n i r q (Some Queen) h = let e = h.spelt in q cc
no_letter b n i r q (Some Pawn) h = let e = h.spelt in absurd cc
no_letter b n i r q (Some King) h = let e = h.spelt in absurd cc

promotion_tells : (b : ℕ) → TellsPromotion (b ∷ []) (promotion_read b)
unfolding promotion_read
promotion_tells b =
    let P = TellsPromotion (b ∷ []) in
    cond_both (b == 110) (Some (Some Knight)) _ P (λ e. record { valid = refl; spelt = ap (λ (x : ℕ). x ∷ []) (eqb-true b 110 e) })
    (λ n. cond_both (b == 98) (Some (Some Bishop)) _ P (λ e. record { valid = refl; spelt = ap (λ (x : ℕ). x ∷ []) (eqb-true b 98 e) })
    (λ i. cond_both (b == 114) (Some (Some Rook)) _ P (λ e. record { valid = refl; spelt = ap (λ (x : ℕ). x ∷ []) (eqb-true b 114 e) })
    (λ r. cond_both (b == 113) (Some (Some Queen)) None P (λ e. record { valid = refl; spelt = ap (λ (x : ℕ). x ∷ []) (eqb-true b 113 e) })
    (λ q. no_letter b (eqb-false b 110 n) (eqb-false b 98 i) (eqb-false b 114 r) (eqb-false b 113 q)))))

-- what the reading of a text says: the move whose text it is, or its first fault
abbrev TellsMove : List ℕ → Result Triple MoveFault → Type 0
TellsMove text r = MatchResult r (λ m. MoveText m text) (λ e. IsMoveFault e text)

-- what begins with two squares has the texts of two squares
squares_begin : (a b c d : ℕ) (last : List ℕ) → (h : BeginsWithSquares (a ∷ b ∷ c ∷ d ∷ last)) →
    IsSquareText a b h.from × IsSquareText c d h.to
squares_begin a b c d last h =
    let e = h.spelt in
    (record { on_board = h.from_on_board; file = cc; rank = cc }, record { on_board = h.to_on_board; file = cc; rank = cc })

-- the move or the first fault of four bytes and what follows them
move_of_tells : (a b c d : ℕ) (last : List ℕ) (s t : Option ℕ) (p : Option (Option Kind)) →
    HasMoveLength (a ∷ b ∷ c ∷ d ∷ last) → TellsSquare a b s → TellsSquare c d t → TellsPromotion last p →
    TellsMove (a ∷ b ∷ c ∷ d ∷ last) (move_of s t p)
move_of_tells a b c d last (Some s) (Some t) (Some p) long first second third =
    record {
      move = record { from = first.on_board; to = second.on_board; promotion = third.valid };
      spelt = rw (first.file, first.rank, second.file, second.rank, third.spelt) refl;
    }
move_of_tells a b c d last (Some s) (Some t) None long first second third = (
  long,
  record {
    from = s;
    to = t;
    from_on_board = first.on_board;
    to_on_board = second.on_board;
    spelt = rw (first.file, first.rank, second.file, second.rank) refl;
  },
  λ p valid spelt. third p (record { valid = valid; spelt = spelt }),
)
move_of_tells a b c d last (Some s) None p long first second third =
    (long, λ h. second h.to (squares_begin a b c d last h).1)
move_of_tells a b c d last None t p long first second third =
    (long, λ h. first h.from (squares_begin a b c d last h).0)

-- other numbers of bytes
wrong_length : (n : ℕ) → (n < 4) ⊎ (5 < n) → (n ≡ 4) ⊎ (n ≡ 5) → ⊥
wrong_length n (inl l) (inl e) = omega arith
wrong_length n (inl l) (inr e) = omega arith
wrong_length n (inr l) (inl e) = omega arith
wrong_length n (inr l) (inr e) = omega arith

-- the reading gives the move or the first fault
pub read_tells : (text : List ℕ) → TellsMove text (move_read text)
unfolding move_read
read_tells [] = wrong_length 0 (inl (omega arith))
read_tells (a ∷ []) = wrong_length (length (a ∷ [])) (inl (omega arith))
read_tells (a ∷ b ∷ []) = wrong_length (length (a ∷ b ∷ [])) (inl (omega arith))
read_tells (a ∷ b ∷ c ∷ []) = wrong_length (length (a ∷ b ∷ c ∷ [])) (inl (omega arith))
read_tells (a ∷ b ∷ c ∷ d ∷ []) =
    move_of_tells a b c d [] _ _ _ (inl refl) (square_tells a b) (square_tells c d) (record { valid = refl; spelt = refl })
read_tells (a ∷ b ∷ c ∷ d ∷ e ∷ []) =
    move_of_tells a b c d (e ∷ []) _ _ _ (inr refl) (square_tells a b) (square_tells c d) (promotion_tells e)
read_tells (a ∷ b ∷ c ∷ d ∷ e ∷ f ∷ more) =
    wrong_length (length (a ∷ b ∷ c ∷ d ∷ e ∷ f ∷ more)) (inr (omega arith))

-- squares of one text are equal
same_square : (s t : ℕ) (x y : List ℕ) → square_text s ++ x ≡ square_text t ++ y → s ≡ t
same_square s t x y e =
    let file : 97 + s % 8 ≡ 97 + t % 8 = cc in
    let rank : 49 + s / 8 ≡ 49 + t / 8 = cc in
    omega arith

-- promotions of one text are equal
same_promotion : (p q : Option Kind) → IsTrue (is_promotion p) → IsTrue (is_promotion q) →
    promotion_text p ≡ promotion_text q → p ≡ q
same_promotion p q v w e = grind arith

-- no two moves have one text
one_move : (text : List ℕ) (m n : Triple) → MoveText m text → MoveText n text → m ≡ n
one_move text m n x y = grind arith

-- no text of a move has a fault
no_fault : (text : List ℕ) (m : Triple) (e : MoveFault) → MoveText m text → IsMoveFault e text → ⊥
no_fault text m e x y = grind arith

-- no text has two faults
one_fault : (text : List ℕ) (d e : MoveFault) → IsMoveFault d text → IsMoveFault e text → d ≡ e
one_fault text d e x y = grind arith

-- a text's answer is its only move
only_move : (text : List ℕ) (r : Result Triple MoveFault) → TellsMove text r → (m : Triple) → MoveText m text → r ≡ Ok m
only_move text (Ok n) tells m h = ap (λ (x : Triple). Ok x) (one_move text n m tells h)
only_move text (Err e) tells m h = absurd (no_fault text m e h tells)

-- or its only fault
only_fault : (text : List ℕ) (r : Result Triple MoveFault) → TellsMove text r →
    (e : MoveFault) → IsMoveFault e text → r ≡ Err e
only_fault text (Ok m) tells e h = absurd (no_fault text m e tells h)
only_fault text (Err d) tells e h = ap (λ (x : MoveFault). Err x) (one_fault text d e tells h)

-- a text is read as the move whose text it is
pub move_is_read : (m : Triple) (text : List ℕ) → MoveText m text → move_read text ≡ Ok m
move_is_read m text h = only_move text (move_read text) (read_tells text) m h

pub read_is_move : (m : Triple) (text : List ℕ) → move_read text ≡ Ok m → MoveText m text
read_is_move m text e = subst (TellsMove text) e (read_tells text)

-- a text without a move is read as its first fault
pub fault_is_read : (f : MoveFault) (text : List ℕ) → IsMoveFault f text → move_read text ≡ Err f
fault_is_read f text h = only_fault text (move_read text) (read_tells text) f h

pub read_is_fault : (f : MoveFault) (text : List ℕ) → move_read text ≡ Err f → IsMoveFault f text
read_is_fault f text e = subst (TellsMove text) e (read_tells text)

-- an answer that gives the move or the first fault is that of the function
pub told_is_read : (text : List ℕ) (r : Result Triple MoveFault) → TellsMove text r → r ≡ move_read text
told_is_read text (Ok m) h = sym (move_is_read m text h)
told_is_read text (Err e) h = sym (fault_is_read e text h)

-- no text of six bytes or more is a move's, whatever the rest is
pub long_is_fault : (text : List ℕ) → 5 < length text → move_read text ≡ Err Length
long_is_fault text h = fault_is_read Length text (wrong_length (length text) (inr h))

-- six bytes are enough to decide
pub read_of_front : (n : ℕ) (text : List ℕ) → 5 < n → move_read (take n text) ≡ move_read text
read_of_front n text h =
    elim (cases_lt 5 (length text)) [
      | inl long ↦ long_is_fault (take n text) (rw (length-take n text) (omega arith)) ∙ sym (long_is_fault text long)
      | inr short ↦ ap move_read (take_all n text (omega arith))
    ]
