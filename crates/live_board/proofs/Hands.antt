-- Views after a part was handed out or taken in.
use Rattle.std.proofs.Common.{◌≡◌, ℕ, zero, suc, ◌+◌, ◌-◌, ◌%◌, ◌<◌, List, [], ◌∷◌, true≢false, None, sym, ◌∙◌, arith}
use mathlib.Core.Option.{some, some-ne-none}
use lib.ListN.{get_elem?}
use Rattle.live_board.specs.declared.words.TheConstants.{MARK}
use Rattle.live_board.specs.declared.view.Part.{Part}
use Rattle.live_board.specs.declared.view.View.{View}
use Rattle.live_board.specs.Words.{place_in, cursor_of}
use Rattle.live_board.specs.Views.{first_of, others, kept_part, given_part, followed}
use Rattle.live_board.specs.Sound.{IsSound}

-- a part behind the first, and the first
pub others_at : (ps : List Part) (i : ℕ) (x : Part) → get_elem? (others ps) i ≡ some x → get_elem? ps (suc i) ≡ some x
others_at [] i x e = absurd (some-ne-none x (sym e))
others_at (p ∷ ps) i x e = e

pub first_at : (ps : List Part) (i : ℕ) (x : Part) → get_elem? (first_of ps) i ≡ some x → get_elem? ps 0 ≡ some x
first_at [] i x e = absurd (some-ne-none x (sym e))
first_at (p ∷ ps) zero x e = e
first_at (p ∷ ps) (suc i) x e = absurd (some-ne-none x (sym e))

down : (i j : ℕ) → suc i ≡ suc j → i ≡ j
down i j e = cc

pub kept_sound : (v : View) → IsSound v → IsSound (kept_part v)
kept_sound v s = record {
  parts = λ i p d. s.parts (suc i) p (others_at v.parts i p d);
  board = λ o. let b = s.board o in record {
    limits = b.limits;
    start = b.start;
    room = b.room;
    noted = b.noted;
    checked = b.checked;
    agree = λ i p d n e. b.agree (suc i) p (others_at v.parts i p d) n e;
    inside = λ i p d. b.inside (suc i) p (others_at v.parts i p d);
    once = λ i j p q d e same. down i j (b.once (suc i) (suc j) p q (others_at v.parts i p d) (others_at v.parts j q e) same);
    stretch = λ i p d k l. b.stretch (suc i) p (others_at v.parts i p d) k l;
  };
}

pub given_sound : (v : View) → IsSound v → IsSound (given_part v)
given_sound v s = record { parts = λ i p d. s.parts 0 p (first_at v.parts i p d); board = λ o. absurd (true≢false (sym o)) }

-- the view of a board that has stored an open cursor
pub followed_is : (w v : View) (k from n : ℕ) → w ≡ followed (k + 2 - 2) (place_in n) v → n ≡ cursor_of from None → from < MARK → w ≡ followed k from v
followed_is w v k from n is word low =
    let at-k : k + 2 - 2 ≡ k = omega arith in
    let here : n % MARK ≡ from = omega (arith, word, low) in
    is ∙ (λ i. followed (at-k i) (here i) v)
