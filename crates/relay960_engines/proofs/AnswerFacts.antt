-- Lemmas on the answer to a text in FEN.
use Rattle.std.proofs.Common.{◌≡◌, ◌↔◌, ℕ, List, Option, Bool, true, false, refl, sym, subst, inr}
use Rattle.std.proofs.Common.{Result, Ok, Err, IsErrAnd, IfErr}
use Rattle.std.specs.Io.KnownBytes.{Appends}
use Rattle.c960_board.specs.declared.parts.Parts.{Parts}
use Rattle.c960_board.specs.Fen.Text.{FenText}
use Rattle.c960_board.specs.Moves.{Triple}
use Rattle.c960_rules.specs.Check.{IsLawful}
use Rattle.c960_rules.specs.Legal.{Legal, Mate, Stale}
use Rattle.c960_rules.specs.declared.side_to_move.State.{State}
use Rattle.c960_rules.specs.declared.side_to_move.State.TheVariants.{Going, Checkmate, Stalemate}
use Rattle.relay960_engines.specs.declared.fault.RunFault.{RunFault}
use Rattle.relay960_engines.specs.declared.fault.RunFault.TheVariants.{Read, Write, TooLong, OutOfMemory, BadStart}
use Rattle.relay960_engines.specs.Moves.{IsAnswer, Answered, Failed, FailedText, Listed, moves_lines, unlawful_line}
use Rattle.relay960_engines.specs.Writing.{AppendsPart}

-- a position that is not lawful has the line that says so
pub unlawful_answer : (fen : List ℕ) (p : Parts) → FenText p fen → (IsLawful p → ⊥) → IsAnswer fen false unlawful_line
unlawful_answer fen p t n = inr (record { position = p; fen_text = t; not_lawful = n; text = refl })

-- a lawful position has its lines
pub lawful_answer : (fen : List ℕ) (p q : Parts) (s : State) → FenText p fen → IsLawful p → q ≡ p
    → (s ≡ Going) ↔ ((m : Triple) × Legal q m) → (s ≡ Checkmate) ↔ Mate q → (s ≡ Stalemate) ↔ Stale q
    → Listed fen (moves_lines q s)
lawful_answer fen p q s t l same going mate stale = record {
  position = q;
  fen_text = subst (λ x. FenText x fen) (sym same) t;
  lawful = subst IsLawful (sym same) l;
  state = s;
  is_state = record { going = going; checkmate = mate; stalemate = stale };
  text = refl;
}

-- the whole answer is written
pub answered : (fen : List ℕ) (good : Bool) (bytes : List ℕ) (a b : Option (List ℕ)) → IsAnswer fen good bytes
    → Appends a b bytes → Answered fen good a b
answered fen good bytes a b is written = record { bytes = bytes; answer = is; written = written }

-- a fault with a lawful position leaves a part of its lines, or nothing
pub failed : (fen : List ℕ) (bytes : List ℕ) (e : RunFault) (a b : Option (List ℕ)) → Listed fen bytes
    → FailedText bytes e a b → Failed fen e a b
failed fen bytes Write a b is part = record { good = true; bytes = bytes; answer = is; written = part }
failed fen bytes OutOfMemory a b is kept = record { bytes = bytes; answer = is; kept = kept }
failed fen bytes Read a b is none = absurd none
failed fen bytes TooLong a b is none = absurd none
failed fen bytes BadStart a b is none = absurd none

-- a fault with a position that is not lawful leaves a part of its line
pub failed_unlawful : (fen : List ℕ) (e : RunFault) (a b : Option (List ℕ)) → IsAnswer fen false unlawful_line
    → e ≡ Write → AppendsPart a b unlawful_line → Failed fen e a b
failed_unlawful fen Write a b is same part = record { good = false; bytes = unlawful_line; answer = is; written = part }
failed_unlawful fen OutOfMemory a b is same part = cc
failed_unlawful fen Read a b is same part = cc
failed_unlawful fen TooLong a b is same part = cc
failed_unlawful fen BadStart a b is same part = cc

-- `?` passes the fault on
pub passed_on : {T E : Type 0} (r : Result T E) (e : E) (P : E → Type 0) → IsErrAnd r (λ x. x ≡ e) → P e → IfErr r P
passed_on (Ok x) e P h p = tt
passed_on (Err x) e P h p = subst P (sym h) p
