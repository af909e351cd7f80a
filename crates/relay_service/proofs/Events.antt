-- One event more, at the end of a list of events.
use Rattle.std.proofs.Common.{◌≡◌, ℕ, List, [], ◌∷◌, ◌++◌, Bool, true, false, true≢false, ◌||◌, inl, inr, refl, sym, ap, ◌∙◌, subst}
use Rattle.relay_hall.specs.Runs.{AllSayWhileThere, HallEvent, IsOrderly, SaysNoMore, SaysWhileThere, count_after, counts_after, goes_now, has_gone, says_now}
use Rattle.relay_service.specs.Calling.Connections.{Turn, happens, passes}
use Rattle.relay_service.specs.Calling.Running.{came, failed, was_answered, was_pinged, was_sent_away, wrote}
use Rattle.relay_service.specs.Runs.{AreMadeBy, MadeBy, counts_by, has_left, holders_after, leaves_by}

-- ---- Tests.

pub neither : (a b : Bool) → (a || b) ≡ false → (a ≡ false) × (b ≡ false)
neither true b is = absurd (true≢false is)
neither false b is = (refl, is)

pub none_of : (a b : Bool) → a ≡ false → b ≡ false → (a || b) ≡ false
none_of a b x y = ap (λ (t : Bool). t || b) x ∙ y

left_of : (a b : Bool) → a ≡ true → (a || b) ≡ true
left_of a b x = ap (λ (t : Bool). t || b) x

right_of : (a b : Bool) → b ≡ true → (a || b) ≡ true
right_of true b y = refl
right_of false b y = y

-- ---- Who has gone.

quiet_then : (who : ℕ) (es : List HallEvent) (e : HallEvent) → SaysNoMore who es → says_now who e ≡ false → SaysNoMore who (es ++ e ∷ [])
quiet_then who [] e quiet is = (is, tt)
quiet_then who (d ∷ es) e (first, quiet) is = (first, quiet_then who es e quiet is)

pub orderly_then : (es : List HallEvent) (e : HallEvent) → IsOrderly es → ((who : ℕ) → has_gone who es ≡ true → says_now who e ≡ false) → IsOrderly (es ++ e ∷ [])
orderly_then [] e o quiet = ((λ who goes. tt), tt)
orderly_then (d ∷ es) e (o, os) quiet = (
  (λ who goes. quiet_then who es e (o who goes) (quiet who (left_of (goes_now who d) (has_gone who es) goes))),
  orderly_then es e os (λ who gone. quiet who (right_of (goes_now who d) (has_gone who es) gone)),
)

pub not_gone_then : (i : ℕ) (es : List HallEvent) (e : HallEvent) → has_gone i es ≡ false → goes_now i e ≡ false → has_gone i (es ++ e ∷ []) ≡ false
not_gone_then i [] e gone goes = none_of (goes_now i e) false goes refl
not_gone_then i (d ∷ es) e gone goes =
    let n = neither (goes_now i d) (has_gone i es) gone in
    none_of (goes_now i d) (has_gone i (es ++ e ∷ [])) n.0 (not_gone_then i es e n.1 goes)

-- ---- Who is there.

pub say_then : (count : List ℕ → ℕ) (es : List HallEvent) (e : HallEvent) → AllSayWhileThere count es → SaysWhileThere (counts_after count es) e
    → AllSayWhileThere count (es ++ e ∷ [])
say_then count [] e all says = (says, tt)
say_then count (d ∷ es) e (first, all) says = (first, say_then (count_after count d) es e all says)

pub counts_then : (count : List ℕ → ℕ) (es : List HallEvent) (e : HallEvent) (q : List ℕ) → counts_after count (es ++ e ∷ []) q ≡ count_after (counts_after count es) e q
counts_then count [] e q = refl
counts_then count (d ∷ es) e q = counts_then (count_after count d) es e q

-- ---- What the turns make.

made_more : (x : Turn) (events rest new : List HallEvent) → MadeBy x events rest → MadeBy x (events ++ new) (rest ++ new)
made_more (happens i (came bytes)) events rest new is = ap (λ (es : List HallEvent). es ++ new) is
made_more (happens i (was_answered some m)) events rest new (inl (who, step, mine, is)) = inl (who, step, mine, ap (λ (es : List HallEvent). es ++ new) is)
made_more (happens i (was_answered some m)) events rest new (inr is) = inr (ap (λ (es : List HallEvent). es ++ new) is)
made_more (happens i (failed m)) events rest new (inl (who, step, mine, is)) = inl (who, step, mine, ap (λ (es : List HallEvent). es ++ new) is)
made_more (happens i (failed m)) events rest new (inr is) = inr (ap (λ (es : List HallEvent). es ++ new) is)
made_more (happens i (wrote bytes)) events rest new is = ap (λ (es : List HallEvent). es ++ new) is
made_more (happens i (was_pinged some)) events rest new is = ap (λ (es : List HallEvent). es ++ new) is
made_more (happens i (was_sent_away some code)) events rest new is = ap (λ (es : List HallEvent). es ++ new) is
made_more (passes e told) events rest new is = ap (λ (es : List HallEvent). es ++ new) is

pub made_then : (xs : List Turn) (x : Turn) (events new : List HallEvent) → AreMadeBy xs events → MadeBy x new [] → AreMadeBy (xs ++ x ∷ []) (events ++ new)
made_then [] x events new is made = ([], subst (λ (es : List HallEvent). MadeBy x (es ++ new) []) (sym is) made, refl)
made_then (y ∷ ys) x events new (rest, first, others) made = (rest ++ new, made_more y events rest new first, made_then ys x rest new others made)

one_left : (i : ℕ) (x : Turn) (events rest : List HallEvent) → MadeBy x events rest → has_gone i events ≡ (leaves_by i x || has_gone i rest)
one_left i (happens j (came bytes)) events rest is = ap (has_gone i) is
one_left i (happens j (was_answered some m)) events rest (inl (who, step, mine, is)) = ap (has_gone i) is
one_left i (happens j (was_answered some m)) events rest (inr is) = ap (has_gone i) is
one_left i (happens j (failed m)) events rest (inl (who, step, mine, is)) = ap (has_gone i) is
one_left i (happens j (failed m)) events rest (inr is) = ap (has_gone i) is
one_left i (happens j (wrote bytes)) events rest is = ap (has_gone i) is
one_left i (happens j (was_pinged some)) events rest is = ap (has_gone i) is
one_left i (happens j (was_sent_away some code)) events rest is = ap (has_gone i) is
one_left i (passes e told) events rest is = ap (has_gone i) is

pub all_left : (i : ℕ) (xs : List Turn) (events : List HallEvent) → AreMadeBy xs events → has_left i xs ≡ has_gone i events
all_left i [] events is = sym (ap (has_gone i) is)
all_left i (x ∷ xs) events (rest, first, others) =
    ap (λ (t : Bool). leaves_by i x || t) (all_left i xs rest others) ∙ sym (one_left i x events rest first)

one_count : (q : List ℕ) (count : List ℕ → ℕ) (x : Turn) (events rest : List HallEvent) → MadeBy x events rest → counts_after count events q ≡ counts_after (counts_by count x) rest q
one_count q count (happens j (came bytes)) events rest is = ap (λ (es : List HallEvent). counts_after count es q) is
one_count q count (happens j (was_answered some m)) events rest (inl (who, step, mine, is)) = ap (λ (es : List HallEvent). counts_after count es q) is
one_count q count (happens j (was_answered some m)) events rest (inr is) = ap (λ (es : List HallEvent). counts_after count es q) is
one_count q count (happens j (failed m)) events rest (inl (who, step, mine, is)) = ap (λ (es : List HallEvent). counts_after count es q) is
one_count q count (happens j (failed m)) events rest (inr is) = ap (λ (es : List HallEvent). counts_after count es q) is
one_count q count (happens j (wrote bytes)) events rest is = ap (λ (es : List HallEvent). counts_after count es q) is
one_count q count (happens j (was_pinged some)) events rest is = ap (λ (es : List HallEvent). counts_after count es q) is
one_count q count (happens j (was_sent_away some code)) events rest is = ap (λ (es : List HallEvent). counts_after count es q) is
one_count q count (passes e told) events rest is = ap (λ (es : List HallEvent). counts_after count es q) is

pub all_counts : (q : List ℕ) (count : List ℕ → ℕ) (xs : List Turn) (events : List HallEvent) → AreMadeBy xs events → counts_after count events q ≡ holders_after count xs q
all_counts q count [] events is = ap (λ (es : List HallEvent). counts_after count es q) is
all_counts q count (x ∷ xs) events (rest, first, others) = one_count q count x events rest first ∙ all_counts q (counts_by count x) xs rest others
