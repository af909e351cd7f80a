-- A whole line is read, and so are whole lines before anything else.
use Rattle.std.proofs.Common.{refl, ◌≡◌, ℕ, Bool, true, false, cond, List, [], ◌∷◌, ◌++◌, take, drop, get_or, ◌∙◌, sym, ap, arith, append_assoc}
use Rattle.std.specs.Prelude.{◌==◌, ◌&&◌, slice_index}
use Rattle.std.specs.Str.{bytes_eq}
use Rattle.std.proofs.lemmas.List.{take_at, drop_at, drop-drop, get_or-drop, append-nil}
use Rattle.std.proofs.lemmas.List.Folds.{list_all-append}
use Rattle.std.proofs.lemmas.Slice.Eq.{bytes_eq-Decides}
use Rattle.chained_lines.specs.Lines.{Line, are_lines, bytes_of, counts, file_of, has_no_feed, is_mark, is_no_feed, last_seal, line_in, mark_of, read_lines, reading, seal_after, seal_of, text_of}
use Rattle.chained_lines.proofs.Feeds.{length-seal, seal_no_feed}

-- what is read once the end of a line has come
abbrev pub at_feed : List ℕ → List ℕ → List ℕ → List Line
at_feed before text bytes = cond (counts before text) (line_in text ∷ reading (take 16 text) [] bytes) []

-- a text without a line feed is read over
pub read_over : (before text more bytes : List ℕ) → has_no_feed more ≡ true → reading before text (more ++ bytes) ≡ reading before (text ++ more) bytes
unfolding reading
read_over before text [] bytes ok = ap (λ (t : List ℕ). reading before t bytes) (sym (append-nil text))
read_over before text (byte ∷ more) bytes ok =
    let is_not : (byte == 10) ≡ false = grind (arith, ok) in
    let rest : has_no_feed more ≡ true = grind (arith, ok) in
    ap (λ (b : Bool). cond b (at_feed before text (more ++ bytes)) (reading before (text ++ byte ∷ []) (more ++ bytes))) is_not
    ∙ read_over before (text ++ byte ∷ []) more bytes rest
    ∙ ap (λ (t : List ℕ). reading before t bytes) (append_assoc text (byte ∷ []) more)

-- without one, nothing is read
pub read_none : (before text more : List ℕ) → has_no_feed more ≡ true → reading before text more ≡ []
unfolding reading
read_none before text more ok =
    ap (λ (l : List ℕ). reading before text l) (sym (append-nil more)) ∙ read_over before text more [] ok

pub read_to_feed : (before text bytes : List ℕ) → has_no_feed text ≡ true → read_lines before (text ++ 10 ∷ bytes) ≡ at_feed before text bytes
unfolding reading
read_to_feed before text bytes ok = read_over before [] text (10 ∷ bytes) ok

-- the text of a line behind its seal
abbrev pub whole_text : List ℕ → Line → List ℕ
whole_text before l = seal_after before l ++ text_of l

pub text_no_feed : (before : List ℕ) (l : Line) → has_no_feed l.body ≡ true → has_no_feed (whole_text before l) ≡ true
text_no_feed before l ok =
    list_all-append is_no_feed (seal_after before l) (text_of l)
    ∙ ap (λ (b : Bool). b && has_no_feed (text_of l)) (seal_no_feed before (text_of l))
    ∙ mark_too l.is_first l.body ok
  where
    mark_too : (is_first : Bool) (body : List ℕ) → has_no_feed body ≡ true → has_no_feed (mark_of is_first ∷ body) ≡ true
    mark_too true body ok = ok
    mark_too false body ok = ok

-- ---- A line that was written counts, and is that line.

module _ (before : List ℕ) (l : Line) where
  seal : List ℕ
  seal = seal_after before l

  pub sealed_part : take 16 (whole_text before l) ≡ seal_after before l
  sealed_part = take_at (seal_after before l) (text_of l) 16 (length-seal before (text_of l))

  pub text_part : drop 16 (whole_text before l) ≡ text_of l
  text_part = drop_at (seal_after before l) (text_of l) 16 (length-seal before (text_of l))

  pub mark_part : slice_index (whole_text before l) 16 ≡ mark_of l.is_first
  mark_part =
      let at : get_or (whole_text before l) 16 0 ≡ get_or (drop 16 (whole_text before l)) 0 0 = sym (get_or-drop 16 (whole_text before l) 0 0) in
      at ∙ ap (λ (t : List ℕ). get_or t 0 0) text_part

  body_part : drop 17 (whole_text before l) ≡ l.body
  body_part = sym (drop-drop 1 16 (whole_text before l)) ∙ ap (λ (t : List ℕ). drop 1 t) text_part

  pub whole_counts : counts before (whole_text before l) ≡ true
  whole_counts =
      let same : bytes_eq (take 16 (whole_text before l)) (seal_of before (drop 16 (whole_text before l))) ≡ true =
      (bytes_eq-Decides (take 16 (whole_text before l)) (seal_of before (drop 16 (whole_text before l)))).1
      (sealed_part ∙ ap (λ (t : List ℕ). seal_of before t) (sym text_part)) in
      let mark : is_mark (slice_index (whole_text before l) 16) ≡ true = ap is_mark mark_part ∙ marks l.is_first in
      ap (λ (b : Bool). b && is_mark (slice_index (whole_text before l) 16)) same ∙ mark
    where
      marks : (is_first : Bool) → is_mark (mark_of is_first) ≡ true
      marks true = refl
      marks false = refl

  pub whole_is : line_in (whole_text before l) ≡ l
  whole_is =
      let first : (slice_index (whole_text before l) 16 == 62) ≡ l.is_first = ap (λ (n : ℕ). n == 62) mark_part ∙ firsts l.is_first in
      ap (λ (b : Bool). record { is_first = b; body = drop 17 (whole_text before l) }) first
      ∙ ap (λ (t : List ℕ). record { is_first = l.is_first; body = t }) body_part
    where
      firsts : (is_first : Bool) → (mark_of is_first == 62) ≡ is_first
      firsts true = refl
      firsts false = refl

  -- its bytes, as text and line feed
  pub split : (bytes : List ℕ) → bytes_of before l ++ bytes ≡ whole_text before l ++ 10 ∷ bytes
  split bytes =
      append_assoc (whole_text before l) (10 ∷ []) bytes

  pub line_first : has_no_feed l.body ≡ true → (bytes : List ℕ)
      → read_lines before (bytes_of before l ++ bytes) ≡ l ∷ read_lines (seal_after before l) bytes
  line_first ok bytes =
      ap (λ (t : List ℕ). read_lines before t) (split bytes)
      ∙ read_to_feed before (whole_text before l) bytes (text_no_feed before l ok)
      ∙ ap (λ (b : Bool). cond b (line_in (whole_text before l) ∷ reading (take 16 (whole_text before l)) [] bytes) []) whole_counts
      ∙ ap (λ (k : Line). k ∷ reading (take 16 (whole_text before l)) [] bytes) whole_is
      ∙ ap (λ (t : List ℕ). l ∷ reading t [] bytes) sealed_part

-- ---- Lines.

pub whole_first : (before : List ℕ) (ls : List Line) (junk : List ℕ) → are_lines ls ≡ true
    → read_lines before (file_of before ls ++ junk) ≡ ls ++ read_lines (last_seal before ls) junk
unfolding file_of last_seal
whole_first before [] junk ok = refl
whole_first before (l ∷ ls) junk ok =
    let this : has_no_feed l.body ≡ true = grind (arith, ok) in
    let others : are_lines ls ≡ true = grind (arith, ok) in
    ap (λ (t : List ℕ). read_lines before t) (append_assoc (bytes_of before l) (file_of (seal_after before l) ls) junk)
    ∙ line_first before l this (file_of (seal_after before l) ls ++ junk)
    ∙ ap (λ (t : List Line). l ∷ t) (whole_first (seal_after before l) ls junk others)
