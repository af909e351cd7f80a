-- The tables of the texts of ranks, by computation over all sets of files.
use Rattle.std.proofs.Common.{◌≡◌, ℕ, ◌<◌, List, [], length, map, get_or, refl, ap, ◌∙◌, zero-add}
use Rattle.std.specs.List.{range_with_len}
use Rattle.std.proofs.lemmas.List.FromFn.{get_or-map-range_with_len}
use Rattle.c960_board.specs.declared.fen.shape.TheConstants.{DIGITS, LENGTHS, PLACES}
use Rattle.c960_board.specs.Inner.PieceLetters.{digits}
use Rattle.c960_board.specs.Inner.RankShape.{digits_text, marks, place_of}

digits_table : DIGITS ≡ map digits_text (range_with_len 0 256)
unfolding digits_text marks
digits_table = refl

places_table : PLACES ≡ map (λ files. digits (place_of files) 8) (range_with_len 0 256)
unfolding digits place_of marks
places_table = refl

lengths_table : LENGTHS ≡ map (λ files. length (marks files)) (range_with_len 0 256)
unfolding marks
lengths_table = refl

-- their entries
pub digits_entry : (files : ℕ) → files < 256 → get_or DIGITS files [] ≡ digits_text files
digits_entry files below =
    ap (λ (l : List (List ℕ)). get_or l files []) digits_table ∙ get_or-map-range_with_len digits_text 0 256 files files [] below (zero-add files)

pub places_entry : (files : ℕ) → files < 256 → get_or PLACES files 0 ≡ digits (place_of files) 8
places_entry files below =
    ap (λ (l : List ℕ). get_or l files 0) places_table
    ∙ get_or-map-range_with_len (λ x. digits (place_of x) 8) 0 256 files files 0 below (zero-add files)

pub lengths_entry : (files : ℕ) → files < 256 → get_or LENGTHS files 0 ≡ length (marks files)
lengths_entry files below =
    ap (λ (l : List ℕ). get_or l files 0) lengths_table
    ∙ get_or-map-range_with_len (λ x. length (marks x)) 0 256 files files 0 below (zero-add files)
