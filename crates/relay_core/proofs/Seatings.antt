-- What the tags of the followers' boards tell, and what a change of the followers keeps of them.
use Rattle.std.proofs.Common.{◌≡◌, ℕ, ◌+◌, ◌<◌, ◌≤◌, ◌-◌, suc, zero, nat_eq, Bool, true, false, ◌&&◌, ◌==◌, not, cond, is_some, List, [], ◌∷◌, ◌++◌, length, take, map, count_by, slice_get, slice_index, Some, option_map, refl, sym, ap, ◌∙◌, true≢false, arith}
use Rattle.std.specs.List.{position, swap_remove}
use Rattle.std.specs.Map.{keys_of, lookup, set_value}
use Rattle.std.proofs.lemmas.List.{length-map, map-append}
use Rattle.std.proofs.lemmas.List.Quantifiers.{position-Some}
use Rattle.std.proofs.lemmas.List.Sums.{count_by_more_no, count_by_more_yes}
use Rattle.std.proofs.lemmas.Bool.{eq-eqb}
use Rattle.std.proofs.lemmas.Option.{get_or_from_slice_get, slice_get-map}
use Rattle.std.proofs.lemmas.Map.Entries.{length-keys_of}
use Rattle.indexmap.specs.IndexMap.{set_value_at, swap_remove_entry}
use Rattle.indexmap.proofs.MapLemmas.{swap_remove-default, swap_remove_entry-found}
use Rattle.indexmap.proofs.SetLemmas.{map-swap_remove}
use Rattle.c960_board.specs.Moves.{Triple}
use Rattle.relay_core.specs.Held.{HeldFollower}
use Rattle.relay_core.specs.Held.Followers.{boards_of, closed_at, offered, queued}
use Rattle.relay_core.specs.Inner.Seating.{IsSeating, tags_of}
use Rattle.relay_core.specs.Inner.Tag.{tag_of}
use Rattle.relay_core.specs.Inner.TagRow.{PassesOver}
use Rattle.relay_core.specs.Name.{same_name}
use Rattle.relay_core.proofs.NameFacts.{apart}
use Rattle.relay_core.proofs.lemmas.Orders.{one_written}
use Rattle.relay_core.proofs.lemmas.Lists.{done_as_they_are, done_up_to, set_value-map}

-- there is an entry at each place of a list
entry_at : {X : Type 0} (xs : List X) (i : ℕ) → i < length xs → (x : X) × (slice_get xs i ≡ Some x)
entry_at [] i inside = absurd (omega (arith, inside))
entry_at (x ∷ xs) zero inside = (x, refl)
entry_at (x ∷ xs) (suc i) inside = entry_at xs i (omega (arith, inside))

-- there are as many tags as followers
pub as_many : (tags : List ℕ) (es : List (ℕ × HeldFollower)) → tags ≡ tags_of es → length tags ≡ length es
as_many tags es tagged = ap length tagged ∙ length-map es (λ e. tag_of e.1.board)

-- the followers that a search for the board's tag passes over follow other boards
pub others : (board tags : List ℕ) (es : List (ℕ × HeldFollower)) (from to : ℕ) → tags ≡ tags_of es → PassesOver tags (tag_of board) from to
    → (k : ℕ) (e : ℕ × HeldFollower) → from ≤ k → k < to → slice_get es k ≡ Some e → same_name board e.1.board ≡ false
others board tags es from to tagged passed k e not_before below at =
    let there : slice_get (tags_of es) k ≡ Some (tag_of e.1.board) =
    slice_get-map (λ (x : ℕ × HeldFollower). tag_of x.1.board) es k ∙ ap (option_map (λ (x : ℕ × HeldFollower). tag_of x.1.board)) at in
    let its : slice_index tags k ≡ tag_of e.1.board =
    ap (λ ts. slice_index ts k) tagged ∙ get_or_from_slice_get (tags_of es) k (tag_of e.1.board) 0 there in
    apart board e.1.board (λ same. true≢false (sym (eq-eqb (slice_index tags k) (tag_of board) (its ∙ sym same)) ∙ passed k not_before below))

-- ---- How many of the first followers follow a board.

module _ (board : List ℕ) (es : List (ℕ × HeldFollower)) (i : ℕ) (inside : i < length es) where
  abbrev counted_up_to : ℕ → ℕ
  counted_up_to n = count_by (λ (e : ℕ × HeldFollower). same_name board e.1.board) (take n es)

  -- the follower that is read there is that of the entry
  read_there : (f : HeldFollower) → slice_get (map (λ e. e.1) es) i ≡ Some f → (e : ℕ × HeldFollower) → slice_get es i ≡ Some e → e.1 ≡ f
  read_there f read e at =
      let same : Some e.1 ≡ Some f =
      sym (slice_get-map (λ (x : ℕ × HeldFollower). x.1) es i ∙ ap (option_map (λ (x : ℕ × HeldFollower). x.1)) at) ∙ read in cc

  pub one_more_counted : (f : HeldFollower) → slice_get (map (λ e. e.1) es) i ≡ Some f → same_name board f.board ≡ true
      → counted_up_to (i + 1) ≡ counted_up_to i + 1
  one_more_counted f read follows =
      let there = entry_at es i inside in
      count_by_more_yes (λ (e : ℕ × HeldFollower). same_name board e.1.board) es i there.0 inside
      (ap (λ (e : ℕ × HeldFollower). same_name board e.1.board) (get_or_from_slice_get es i there.0 there.0 there.1)
      ∙ ap (λ (g : HeldFollower). same_name board g.board) (read_there f read there.0 there.1) ∙ follows)

  none_counted : ((e : ℕ × HeldFollower) → slice_get es i ≡ Some e → same_name board e.1.board ≡ false)
      → counted_up_to (i + 1) ≡ counted_up_to i
  none_counted other =
      let there = entry_at es i inside in
      count_by_more_no (λ (e : ℕ × HeldFollower). same_name board e.1.board) es i there.0 inside
      (ap (λ (e : ℕ × HeldFollower). same_name board e.1.board) (get_or_from_slice_get es i there.0 there.0 there.1) ∙ other there.0 there.1)

  pub read_not_counted : (f : HeldFollower) → slice_get (map (λ e. e.1) es) i ≡ Some f → same_name board f.board ≡ false
      → counted_up_to (i + 1) ≡ counted_up_to i
  read_not_counted f read other =
      none_counted (λ e at. ap (λ (g : HeldFollower). same_name board g.board) (read_there f read e at) ∙ other)

-- nobody of a stretch of followers of other boards is counted
pub none_of_stretch_counted : (board : List ℕ) (es : List (ℕ × HeldFollower)) (i n : ℕ) → i + n ≤ length es
    → ((k : ℕ) (e : ℕ × HeldFollower) → i ≤ k → k < i + n → slice_get es k ≡ Some e → same_name board e.1.board ≡ false)
    → count_by (λ e. same_name board e.1.board) (take (i + n) es) ≡ count_by (λ e. same_name board e.1.board) (take i es)
none_of_stretch_counted board es i zero inside other = ap (λ k. count_by (λ (e : ℕ × HeldFollower). same_name board e.1.board) (take k es)) (omega arith)
none_of_stretch_counted board es i (suc n) inside other =
    let count : ℕ → ℕ = λ k. count_by (λ (e : ℕ × HeldFollower). same_name board e.1.board) (take k es) in
    let all : i + suc n ≡ (i + 1) + n = omega arith in
    ap count all
    ∙ none_of_stretch_counted board es (i + 1) n (omega (arith, inside)) (λ k e from to at. other k e (omega (arith, from)) (omega (arith, to)) at)
    ∙ none_counted board es i (omega (arith, inside)) (λ e at. other i e (omega arith) (omega arith) at)

-- nor is anybody whom a search for the board's tag passes over
pub others_not_counted : (board tags : List ℕ) (es : List (ℕ × HeldFollower)) (from to : ℕ) → from ≤ to → to ≤ length tags
    → tags ≡ tags_of es → PassesOver tags (tag_of board) from to
    → count_by (λ e. same_name board e.1.board) (take to es) ≡ count_by (λ e. same_name board e.1.board) (take from es)
others_not_counted board tags es from to behind inside tagged passed =
    let all : from + (to - from) ≡ to = omega (arith, behind) in
    ap (λ k. count_by (λ (e : ℕ × HeldFollower). same_name board e.1.board) (take k es)) (sym all)
    ∙ none_of_stretch_counted board es from (to - from) (omega (arith, all, inside, as_many tags es tagged)) (λ k e not_before below at.
    others board tags es from to tagged passed k e not_before (omega (arith, below, all)) at)

-- ---- What a move offered to the followers keeps.

-- a follower of another board is not changed
pub not_offered : (board : List ℕ) (place : ℕ) (m : Triple) (f : HeldFollower) → same_name board f.board ≡ false → offered board place m f ≡ f
not_offered board place m f other =
    ap (λ b. cond (b && not (is_some f.cut)) (cond (length f.queue == f.capacity) (closed_at place f) (queued m f)) f) other

-- nor are those that a search for the board's tag passes over
pub others_as_they_are : (board : List ℕ) (place : ℕ) (m : Triple) (tags : List ℕ) (es : List (ℕ × HeldFollower)) (from to : ℕ) → from ≤ to
    → tags ≡ tags_of es → PassesOver tags (tag_of board) from to
    → done_up_to (offered board place m) from es ≡ done_up_to (offered board place m) to es
others_as_they_are board place m tags es from to behind tagged passed =
    let all : from + (to - from) ≡ to = omega (arith, behind) in
    done_as_they_are (offered board place m) es from (to - from) (λ k e not_before below at.
    not_offered board place m e.1 (others board tags es from to tagged passed k e not_before (omega (arith, below, all)) at))
    ∙ ap (λ k. done_up_to (offered board place m) k es) all

-- nobody changes its board
pub offered_board : (board : List ℕ) (place : ℕ) (m : Triple) (f : HeldFollower) → (offered board place m f).board ≡ f.board
offered_board board place m f = by (same_name board f.board && not (is_some f.cut)) (length f.queue == f.capacity)
  where
    by : (follows full : Bool) → (cond follows (cond full (closed_at place f) (queued m f)) f).board ≡ f.board
    by true true = refl
    by true false = refl
    by false full = refl

-- ---- Who joins and who leaves.

-- the tag of one that joins comes last
pub joined_tags : (tags : List ℕ) (es : List (ℕ × HeldFollower)) (who : ℕ) (f : HeldFollower) → tags ≡ tags_of es
    → tags ++ tag_of f.board ∷ [] ≡ tags_of (es ++ (who, f) ∷ [])
joined_tags tags es who f tagged =
    ap (λ ts. ts ++ tag_of f.board ∷ []) tagged ∙ sym (map-append (λ e. tag_of e.1.board) es ((who, f) ∷ []))

-- one that is found has a place in the map
is_inside : (who : ℕ) (es : List (ℕ × HeldFollower)) (i : ℕ) → position (nat_eq who) (keys_of es) ≡ Some i → i < length es
is_inside who es i found = omega (arith, (position-Some (nat_eq who) (keys_of es) i who found).0, length-keys_of es)

-- the last tag takes the place of the tag of one that leaves, as the last entry does
pub left_tags : (tags : List ℕ) (es : List (ℕ × HeldFollower)) (who i t : ℕ) → tags ≡ tags_of es
    → position (nat_eq who) (keys_of es) ≡ Some i → swap_remove tags i t ≡ tags_of (swap_remove_entry (nat_eq who) es)
left_tags tags es who i t tagged found =
    let inside = is_inside who es i found in
    let e = (entry_at es i inside).0 in
    let some : 0 < length es = omega (arith, inside) in
    ap (λ ts. swap_remove ts i t) tagged
    ∙ swap_remove-default (tags_of es) i t (tag_of e.1.board) (omega (arith, some, length-map es (λ x. tag_of x.1.board)))
    ∙ sym (map-swap_remove (λ (x : ℕ × HeldFollower). tag_of x.1.board) es i e some)
    ∙ ap tags_of (sym (swap_remove_entry-found (nat_eq who) es i e found))

-- ---- A follower that is changed, but goes on following its board.

-- followers of the same boards have the same tags
same_tags : (es fs : List (ℕ × HeldFollower)) → boards_of fs ≡ boards_of es → tags_of fs ≡ tags_of es
same_tags es fs same = by_board fs ∙ ap (map (λ b. tag_of b.1)) same ∙ sym (by_board es)
  where
    by_board : (gs : List (ℕ × HeldFollower)) → tags_of gs ≡ map (λ b. tag_of b.1) (boards_of gs)
    by_board [] = refl
    by_board (g ∷ gs) = ap (λ ts. tag_of g.1.board ∷ ts) (by_board gs)

-- one that is written by its spectator
pub seat_written : (order tags : List ℕ) (es fs : List (ℕ × HeldFollower)) (who : ℕ) (f g : HeldFollower) → IsSeating order tags es
    → lookup (nat_eq who) es ≡ Some f → fs ≡ set_value (nat_eq who) es g → g.board ≡ f.board → IsSeating order tags fs
seat_written order tags es fs who f g was there written same = record {
  ordered = one_written order es fs was.ordered who g written;
  tagged = was.tagged
      ∙ sym (same_tags es fs (ap boards_of written ∙ set_value-map (nat_eq who) (λ (h : HeldFollower). h.board) es f g there same));
}

-- one that is written by its place in the map: the boards stay, and so the tags stay
boards_at : (es : List (ℕ × HeldFollower)) (i k : ℕ) (f g : HeldFollower) → slice_get es i ≡ Some (k, f) → g.board ≡ f.board
    → boards_of (set_value_at es i g) ≡ boards_of es
boards_at [] zero k f g there same = refl
boards_at [] (suc i) k f g there same = refl
boards_at (e ∷ es) zero k f g there same =
    let is : e ≡ (k, f) = cc in ap (λ b. (e.0, b) ∷ boards_of es) (same ∙ ap (λ (x : ℕ × HeldFollower). x.1.board) (sym is))
boards_at (e ∷ es) (suc i) k f g there same = ap (λ bs. (e.0, e.1.board) ∷ bs) (boards_at es i k f g there same)

pub tags_at : (es : List (ℕ × HeldFollower)) (i k : ℕ) (f g : HeldFollower) → slice_get es i ≡ Some (k, f) → g.board ≡ f.board
    → tags_of (set_value_at es i g) ≡ tags_of es
tags_at es i k f g there same = same_tags es (set_value_at es i g) (boards_at es i k f g there same)
