-- All that is written to a spectator's connection are whole frames.
use Rattle.std.proofs.Common.{◌≡◌, ◌≢◌, ℕ, ◌+◌, ◌≤◌, true, is_some, Option, Some, None, List, [], ◌∷◌, ◌++◌, map, length, drop, refl, sym, ap, ◌∙◌, arith, append_assoc, append-nil, length-append, inl, inr}
use Rattle.std.specs.List.{concat}
use Rattle.std.proofs.lemmas.Bool.Decides.{leb_tells}
use Rattle.std.proofs.lemmas.List.{append_cancel_left, map-append, nil_from_length}
use Rattle.std.proofs.lemmas.List.Folds.{concat-append}
use Rattle.relay_frames.specs.Frames.{text_frame}
use Rattle.c960_game.specs.declared.outcome.Outcome.{Outcome}
use Rattle.relay_watching.specs.Audience.{Spectator, new_spectator, with_bytes}
use Rattle.relay_watching.specs.Between.{IsWhole}
use Rattle.relay_watching.specs.Course.{Course}
use Rattle.relay_watching.specs.Progress.{WasSent, due}
use Rattle.relay_watching.specs.Promised.{Joining, promised_texts, done_frame, close_frames, promised_frames}
use Rattle.relay_watching.specs.Wire.{WireFrame, told, other, bytes_of, told_of, others_of, IsWire}
use Rattle.relay_watching.proofs.Promises.{Continues, promised_frames_grow}

-- ---- Frames of both kinds.

told_of-append : (xs ys : List WireFrame) → told_of (xs ++ ys) ≡ told_of xs ++ told_of ys
told_of-append [] ys = refl
told_of-append (told f ∷ xs) ys = ap (λ l. f ∷ l) (told_of-append xs ys)
told_of-append (other f ∷ xs) ys = told_of-append xs ys

others_of-append : (xs ys : List WireFrame) → others_of (xs ++ ys) ≡ others_of xs ++ others_of ys
others_of-append [] ys = refl
others_of-append (told f ∷ xs) ys = others_of-append xs ys
others_of-append (other f ∷ xs) ys = ap (λ l. f ∷ l) (others_of-append xs ys)

told_of-told : (fs : List (List ℕ)) → told_of (map told fs) ≡ fs
told_of-told [] = refl
told_of-told (f ∷ fs) = ap (λ l. f ∷ l) (told_of-told fs)

others_of-told : (fs : List (List ℕ)) → others_of (map told fs) ≡ []
others_of-told [] = refl
others_of-told (f ∷ fs) = others_of-told fs

bytes_of-told : (fs : List (List ℕ)) → map bytes_of (map told fs) ≡ fs
bytes_of-told [] = refl
bytes_of-told (f ∷ fs) = ap (λ l. f ∷ l) (bytes_of-told fs)

bytes-append : (xs ys : List WireFrame) → concat (map bytes_of (xs ++ ys)) ≡ concat (map bytes_of xs) ++ concat (map bytes_of ys)
bytes-append xs ys = ap concat (map-append bytes_of xs ys) ∙ concat-append (map bytes_of xs) (map bytes_of ys)

-- ---- Two ways to cut a list.

same_head : {X : Type 0} (x y : X) (xs ys : List X) → x ∷ xs ≡ y ∷ ys → x ≡ y
same_head x y xs ys is = cc is

same_tail : {X : Type 0} (x y : X) (xs ys : List X) → x ∷ xs ≡ y ∷ ys → xs ≡ ys
same_tail x y xs ys is = cc is

-- of two front parts the longer one begins with the shorter one
longer_front : {X : Type 0} (xs rest ys more : List X) → xs ++ rest ≡ ys ++ more → length xs ≤ length ys
    → (ys ≡ xs ++ drop (length xs) ys) × (rest ≡ drop (length xs) ys ++ more)
longer_front [] rest ys more is within = (refl, is)
longer_front (x ∷ xs) rest [] more is within = absurd (omega arith)
longer_front (x ∷ xs) rest (y ∷ ys) more is within =
    let later = longer_front xs rest ys more (same_tail x y (xs ++ rest) (ys ++ more) is) (omega arith) in
    (rw (same_head x y (xs ++ rest) (ys ++ more) is) (ap (λ l. y ∷ l) later.0), later.1)

-- what is not empty at the end of a list ends as the list does
last_of : {X : Type 0} (xs rest before : List X) (z : X) → xs ++ rest ≡ before ++ z ∷ [] → rest ≢ [] → (b : List X) × (rest ≡ b ++ z ∷ [])
last_of [] rest before z is some = (before, is)
last_of (x ∷ xs) rest [] z is some =
    let none : length (xs ++ rest) ≡ 0 = ap length (same_tail x z (xs ++ rest) [] is) in
    absurd (some (nil_from_length rest (omega (arith, none, length-append xs rest))))
last_of (x ∷ xs) rest (y ∷ before) z is some = last_of xs rest before z (same_tail x y (xs ++ rest) (before ++ z ∷ []) is) some

-- ---- The state of what was written.

-- Up to the last frame that was injected it is whole frames. After them comes a part of what is promised.
pub record Stands (c : Course) (s : Spectator) : Type 0 where
  pub front : List WireFrame
  pub rest : List (List ℕ)
  pub part : List ℕ
  pub all : told_of front ++ rest ≡ promised_frames c s.joining
  pub others : others_of front ≡ s.others
  pub written : s.written ≡ concat (told_of front) ++ part
  pub wire : s.wire ≡ concat (map bytes_of front) ++ part
  pub some : is_some c.outcome ≡ true → rest ≢ []

promised_some : (c : Course) (j : Joining) → promised_frames c j ≢ []
unfolding promised_frames
promised_some c j = λ none. cc none

pub stands_newcomer : (c : Course) (j : Joining) → Stands c (new_spectator c j)
stands_newcomer c j = record {
  front = [];
  rest = promised_frames c j;
  part = [];
  all = refl;
  others = refl;
  written = refl;
  wire = refl;
  some = λ over. promised_some c j;
}

pub stands_goes_on : (c d : Course) (more : List (List ℕ)) (s : Spectator) → Continues c d more → s.joining.place ≤ length c.moves → Stands c s → Stands d s
stands_goes_on c d more s on within st = record {
  front = st.front;
  rest = st.rest ++ more;
  part = st.part;
  all =
      sym (append_assoc (told_of st.front) st.rest more) ∙ ap (λ l. l ++ more) st.all
      ∙ sym (promised_frames_grow c d more s.joining on within);
  others = st.others;
  written = st.written;
  wire = st.wire;
  some = λ over none. on.some (nil_from_length more (omega (arith, length-append st.rest more, ap length none)));
}

pub stands_with_bytes : (c : Course) (bytes : List ℕ) (n : ℕ) (s : Spectator) → Stands c s → Stands c (with_bytes bytes n s)
stands_with_bytes c bytes n s st = record {
  front = st.front;
  rest = st.rest;
  part = st.part ++ bytes;
  all = st.all;
  others = st.others;
  written = ap (λ l. l ++ bytes) st.written ∙ append_assoc (concat (told_of st.front)) st.part bytes;
  wire = ap (λ l. l ++ bytes) st.wire ∙ append_assoc (concat (map bytes_of st.front)) st.part bytes;
  some = st.some;
}

-- ---- A frame is injected.

abbrev with_other : List ℕ → Spectator → Spectator
with_other f s = record s { wire = s.wire ++ f; others = s.others ++ f ∷ [] }

-- the part after the front is whole frames, and these others follow
stands_behind : (c : Course) (f : List ℕ) (s : Spectator) (st : Stands c s) (mid rest : List (List ℕ)) → st.rest ≡ mid ++ rest → st.part ≡ concat mid
    → (is_some c.outcome ≡ true → rest ≢ []) → Stands c (with_other f s)
stands_behind c f s st mid rest is part some =
    let front = st.front ++ (map told mid ++ other f ∷ []) in
    let told_front : told_of front ≡ told_of st.front ++ mid =
    told_of-append st.front (map told mid ++ other f ∷ [])
    ∙ ap (λ l. told_of st.front ++ l) (told_of-append (map told mid) (other f ∷ []) ∙ append-nil (told_of (map told mid)) ∙ told_of-told mid) in
    let other_front : others_of front ≡ others_of st.front ++ f ∷ [] =
    others_of-append st.front (map told mid ++ other f ∷ [])
    ∙ ap (λ l. others_of st.front ++ l) (others_of-append (map told mid) (other f ∷ []) ∙ ap (λ l. l ++ f ∷ []) (others_of-told mid)) in
    let bytes_front : concat (map bytes_of front) ≡ concat (map bytes_of st.front) ++ (concat mid ++ f) =
    bytes-append st.front (map told mid ++ other f ∷ [])
    ∙ ap (λ l. concat (map bytes_of st.front) ++ l)
    (bytes-append (map told mid) (other f ∷ []) ∙ ap (λ l. concat l ++ (f ++ [])) (bytes_of-told mid) ∙ ap (λ l. concat mid ++ l) (append-nil f)) in
    record {
      front = front;
      rest = rest;
      part = [];
      all = rw told_front (append_assoc (told_of st.front) mid rest ∙ ap (λ l. told_of st.front ++ l) (sym is) ∙ st.all);
      others = other_front ∙ ap (λ l. l ++ f ∷ []) st.others;
      written =
          st.written ∙ ap (λ l. concat (told_of st.front) ++ l) part ∙ sym (concat-append (told_of st.front) mid)
          ∙ ap concat (sym told_front) ∙ sym (append-nil (concat (told_of front)));
      wire =
          ap (λ l. l ++ f) (st.wire ∙ ap (λ l. concat (map bytes_of st.front) ++ l) part)
          ∙ append_assoc (concat (map bytes_of st.front)) (concat mid) f ∙ sym bytes_front ∙ sym (append-nil (concat (map bytes_of front)));
      some = some;
    }

-- if more whole frames were written than those up to the last that was injected
stands_further : (c : Course) (f : List ℕ) (s : Spectator) (whole : IsWhole c s.joining s.written) (st : Stands c s)
    → length (told_of st.front) ≤ length whole.sent → Stands c (with_other f s)
stands_further c f s whole st more =
    let mid = drop (length (told_of st.front)) whole.sent in
    let cut = longer_front (told_of st.front) st.rest whole.sent whole.rest (st.all ∙ sym whole.all) more in
    let same : concat (told_of st.front) ++ st.part ≡ concat (told_of st.front) ++ concat mid =
    sym st.written ∙ whole.whole ∙ ap concat cut.0 ∙ concat-append (told_of st.front) mid in
    stands_behind c f s st mid whole.rest cut.1 (append_cancel_left (concat (told_of st.front)) st.part (concat mid) same) whole.open_still

-- if these are all
stands_there : (c : Course) (f : List ℕ) (s : Spectator) (whole : IsWhole c s.joining s.written) (st : Stands c s)
    → length whole.sent ≤ length (told_of st.front) → Stands c (with_other f s)
stands_there c f s whole st fewer =
    let mid = drop (length whole.sent) (told_of st.front) in
    let cut = longer_front whole.sent whole.rest (told_of st.front) st.rest (whole.all ∙ sym st.all) fewer in
    let size : length (concat (told_of st.front)) ≡ length (concat whole.sent) + length (concat mid) =
    ap length (ap concat cut.0 ∙ concat-append whole.sent mid) ∙ length-append (concat whole.sent) (concat mid) in
    let same : length (concat (told_of st.front)) + length st.part ≡ length (concat whole.sent) =
    sym (length-append (concat (told_of st.front)) st.part) ∙ ap length (sym st.written ∙ whole.whole) in
    stands_behind c f s st [] st.rest refl (nil_from_length st.part (omega (arith, size, same))) st.some

pub stands_with_other : (c : Course) (f : List ℕ) (s : Spectator) → IsWhole c s.joining s.written → Stands c s → Stands c (with_other f s)
stands_with_other c f s whole st = elim (leb_tells (length (told_of st.front)) (length whole.sent)) [
  | inl p ↦ stands_further c f s whole st p.1
  | inr p ↦ stands_there c f s whole st (omega (arith, p.1))
]

-- ---- Hence everything that is written is whole frames.

close_of : (o : Option Outcome) → is_some o ≡ true → close_frames o ≡ done_frame ∷ []
close_of (Some outcome) over = refl
close_of None over = cc over

ends_with_close : (c : Course) (j : Joining) → is_some c.outcome ≡ true → (before : List (List ℕ)) × (promised_frames c j ≡ before ++ done_frame ∷ [])
unfolding promised_frames
ends_with_close c j over = (map text_frame (promised_texts c j), ap (λ l. map text_frame (promised_texts c j) ++ l) (close_of c.outcome over))

wire_closed : (c : Course) (s : Spectator) (st : Stands c s) → is_some c.outcome ≡ true
    → (before : List WireFrame) × (st.front ++ map told st.rest ≡ before ++ told done_frame ∷ [])
wire_closed c s st over =
    let end = ends_with_close c s.joining over in
    let last = last_of (told_of st.front) st.rest end.0 done_frame (st.all ∙ end.1) (st.some over) in (
      st.front ++ map told last.0,
      ap (λ l. st.front ++ l) (ap (map told) last.1 ∙ map-append told last.0 (done_frame ∷ []))
          ∙ sym (append_assoc st.front (map told last.0) (told done_frame ∷ [])),
    )

pub wire_of : (c : Course) (s : Spectator) → WasSent c s.joining s.written s.progress → Stands c s
    → IsWire c s.joining s.wire s.progress s.others
wire_of c s sent st =
    let left = due c s.progress in
    let behind : concat (told_of st.front) ++ (st.part ++ left) ≡ concat (told_of st.front) ++ concat st.rest =
    sym (append_assoc (concat (told_of st.front)) st.part left) ∙ ap (λ l. l ++ left) (sym st.written) ∙ sent.whole
    ∙ ap concat (sym st.all) ∙ concat-append (told_of st.front) st.rest in
    record {
      frames = st.front ++ map told st.rest;
      whole =
          ap (λ l. l ++ left) st.wire ∙ append_assoc (concat (map bytes_of st.front)) st.part left
          ∙ ap (λ l. concat (map bytes_of st.front) ++ l)
          (append_cancel_left (concat (told_of st.front)) (st.part ++ left) (concat st.rest) behind ∙ ap concat (sym (bytes_of-told st.rest)))
          ∙ sym (bytes-append st.front (map told st.rest));
      promised = told_of-append st.front (map told st.rest) ∙ ap (λ l. told_of st.front ++ l) (told_of-told st.rest) ∙ st.all;
      others =
          others_of-append st.front (map told st.rest) ∙ ap (λ l. others_of st.front ++ l) (others_of-told st.rest)
          ∙ append-nil (others_of st.front) ∙ st.others;
      closed = wire_closed c s st;
    }
