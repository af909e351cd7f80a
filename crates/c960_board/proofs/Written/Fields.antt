-- No field of the written text is empty or contains a space.
use Rattle.std.proofs.Common.{◌≡◌, ◌≢◌, ℕ, zero, suc, ◌+◌, ◌*◌, ◌/◌, ◌%◌, ◌<◌, ◌≤◌, ◌^◌, false, List, [], ◌∷◌, ◌++◌, length, get_or, take, drop, Option, Some, None, sym, ap, subst, ◌∙◌, arith, inl, inr, decimal, length-append}
use Rattle.std.specs.Prelude.{◌⊎◌}
use Rattle.std.proofs.lemmas.Fmt.{decimal_by_steps, decimal_nonempty}
use Rattle.c960_board.specs.declared.piece.Colour.{Colour}
use Rattle.c960_board.specs.declared.piece.Colour.TheVariants.{White, Black}
use Rattle.c960_board.specs.declared.rights.CastlingRights.{CastlingRights}
use Rattle.c960_board.specs.Pieces.{Cell}
use Rattle.c960_board.specs.Fen.Letters.{turn_text, right_letter}
use Rattle.c960_board.specs.Fen.Fields.{Lacks, IsField}
use Rattle.c960_board.specs.Fen.Placement.{SpellsRanks}
use Rattle.c960_board.specs.Fen.Rights.{SpellsRights, SpellsNoRights}
use Rattle.c960_board.specs.Fen.Target.{target_text}
use Rattle.c960_board.proofs.Reading.Cuts.{Lacks-cons}
use Rattle.c960_board.proofs.Reading.RanksText.{Lacks-low}

-- no byte occurs in the empty text
lacks-none : (s : ℕ) → Lacks s []
lacks-none s = λ k l. absurd (omega arith)

-- one text after another
lacks-append : (s : ℕ) (l m : List ℕ) → Lacks s l → Lacks s m → Lacks s (l ++ m)
lacks-append s [] m p q = q
lacks-append s (b ∷ bs) m p q =
    Lacks-cons s b (bs ++ m) (p 0 (omega arith)) (lacks-append s bs m (λ k l. p (suc k) (omega arith)) q)

-- ---- the placement

-- the text of several ranks has no space
ranks_lack : (n : ℕ) (text : List ℕ) (cells : List Cell) → SpellsRanks n text cells → Lacks 32 text
ranks_lack zero text cells r = Lacks-low 32 (omega arith) false text cells r.spelt
ranks_lack (suc n) text cells r =
    let high = Lacks-low 32 (omega arith) false r.0 (drop (8 * suc n) cells) r.3.spelt in
    let low = ranks_lack n r.1 (take (8 * suc n) cells) r.4 in
    subst (Lacks 32) (sym r.2) (lacks-append 32 r.0 (47 ∷ r.1) high (Lacks-cons 32 47 r.1 (omega arith) low))

-- the field of the placement
pub ranks_field : (text : List ℕ) (cells : List Cell) → SpellsRanks 7 text cells → IsField text
ranks_field text cells r =
    record { some = omega (arith, ap length r.2, length-append r.0 (47 ∷ r.1)); spaceless = ranks_lack 7 text cells r }

-- ---- one or two bytes

-- a field of one byte
byte_field : (b : ℕ) → b ≢ 32 → IsField (b ∷ [])
byte_field b ne = record { some = omega arith; spaceless = Lacks-cons 32 b [] ne (lacks-none 32) }

-- the field of the side to move
pub turn_field : (c : Colour) → IsField (turn_text c)
turn_field White = byte_field 119 (omega arith)
turn_field Black = byte_field 98 (omega arith)

-- the field of the target
pub target_field : (t : Option ℕ) → IsField (target_text t)
target_field None = byte_field 45 (omega arith)
target_field (Some s) =
    record {
      some = omega arith;
      spaceless = Lacks-cons 32 (97 + s % 8) ((49 + s / 8) ∷ []) (omega arith) (Lacks-cons 32 (49 + s / 8) [] (omega arith) (lacks-none 32));
    }

-- ---- the rights

-- a right's letter is not a space
right_no_space : (c : Colour) (f : ℕ) → right_letter c f ≢ 32
right_no_space White f e = omega arith
right_no_space Black f e = omega arith

-- the field of the rights
pub rights_field : (text : List ℕ) (r : CastlingRights) → SpellsNoRights text r ⊎ SpellsRights text r → IsField text
rights_field text r (inl h) = subst IsField (sym h.is_dash) (byte_field 45 (omega arith))
rights_field text r (inr h) =
    record {
      some = h.some;
      spaceless = λ k l (e : get_or text k 0 ≡ 32). let right = h.letters k l in right_no_space right.colour right.file (sym right.letter ∙ e);
    }

-- ---- the counters

-- a number in decimal has no space
decimal_lacks : (n : ℕ) → n < 2 ^ 64 → Lacks 32 (decimal n)
decimal_lacks n l =
    decimal_by_steps (λ _ ds. Lacks 32 ds)
    (λ m h. Lacks-cons 32 (48 + m) [] (omega arith) (lacks-none 32))
    (λ m ds h p. lacks-append 32 ds ((48 + m % 10) ∷ []) p (Lacks-cons 32 (48 + m % 10) [] (omega arith) (lacks-none 32))) n l

-- the field of a counter
pub number_field : (n : ℕ) → n ≤ 65535 → IsField (decimal n)
number_field n l = record { some = decimal_nonempty n (omega arith); spaceless = decimal_lacks n (omega arith) }
