-- When a seat is a writer's, and notes.
use Rattle.std.specs.Prelude.{min}
use Rattle.std.proofs.Common.{◌≡◌, ℕ, ◌+◌, ◌-◌, ◌<◌, ◌≤◌, ◌≢◌, List, [], ◌∷◌, set, get_or, length, replicate, true, sym, refl, ap, ◌∙◌, eqb, eqb-true, ⊎_elim, arith}
use Rattle.atomic_table.specs.Seated.{TableId}
use Rattle.atomic_table.specs.declared.shared.Seat.{Seat}
use Rattle.atomic_table.proofs.Lists.{at_index, at_set}
use mathlib.Core.Option.{some}
use lib.ListN.{get_elem?}
use Rattle.live_board.specs.Limits.{AreBoardLimits}
use Rattle.live_board.specs.declared.setup.BoardSetup.{BoardSetup}
use Rattle.live_board.specs.declared.note.Note.{Note}
use Rattle.live_board.specs.declared.note.Note.TheVariants.{Vacant, Open, Closed}
use Rattle.live_board.specs.declared.view.View.{View}
use Rattle.live_board.specs.Words.{header_word, note_after, word_count}
use Rattle.live_board.specs.Views.{starting}
use Rattle.live_board.specs.Sound.{IsSound, Follows}
use Rattle.live_board.proofs.Allowed.{table_made}
use Rattle.live_board.proofs.lemmas.Cases.{pick}
use Rattle.live_board.proofs.SoundViews.{sound}
use Rattle.live_board.specs.Carried.{Carries}
use Rattle.live_board.specs.Seats.{NoneBefore, NoneVacantBefore, least_vacant_with, past, IsTableWriter}
use Rattle.live_board.proofs.lemmas.Notes.{same_open, vacant_open, vacant_closed, closed_open}
use Rattle.c960_board.specs.declared.numbering.TheConstants.{STARTS}

pub writer_of : {id : TableId} {key : BoardSetup} {seat : Seat (Unit {0}) View} {setup : BoardSetup} {len least vacant : ℕ} {notes : List Note} {room : ℕ} (v : View) → seat.me.0 ≡ v → seat.table_id ≡ id → id.words ≡ word_count setup.limits → key ≡ setup
    → v.owns ≡ true → v.setup ≡ setup → len ≡ length v.log → notes ≡ v.notes → NoneBefore least notes → least ≤ len → NoneVacantBefore vacant notes → room ≡ setup.limits.followers → seat.me.1 ≡ [] → IsSound seat.me.0
    → IsTableWriter id key seat setup len least vacant notes room
writer_of v is table words key owns setup-is len-is notes-are least-is least-low vacant-is room-is none-held sound = record {
  table = table;
  words = words;
  key_is = key;
  owns = ap (λ (u : View). u.owns) is ∙ owns;
  setup_is = ap (λ (u : View). u.setup) is ∙ setup-is;
  len_is = len-is ∙ ap (λ (u : View). length u.log) (sym is);
  notes_are = notes-are ∙ ap (λ (u : View). u.notes) (sym is);
  least_is = least-is;
  least_low = least-low;
  vacant_is = vacant-is;
  room_is = room-is;
  none_held = none-held;
  sound = sound;
}

-- the first view of a board is sound
pub starting_sound : (z : BoardSetup) → z.start < STARTS → AreBoardLimits z.limits → IsSound (starting z)
starting_sound z numbered limits =
    let made = table_made z numbered limits (header_word z.start z.limits.capacity ∷ replicate (z.limits.followers + z.limits.plies + 1) 0) refl in
    sound z made.now _ made.shows 0 (starting z) refl

-- the note that a step at the cursor k sets
pub set_at : (l : List Note) (k : ℕ) (n m : Note) → n ≡ m → set l k n ≡ set l (k + 2 - 2) m
set_at l k n m e = let here : k ≡ k + 2 - 2 = omega arith in λ i. set l (here i) (e i)

-- the note that a load sets, if x was noted
pub noted_is : (l : List Note) (k r : ℕ) (x : Note) → get_or l k Vacant ≡ x → set l k (note_after x r) ≡ set l (k + 2 - 2) (note_after (get_or l (k + 2 - 2) Vacant) r)
noted_is l k r x is = let here : k ≡ k + 2 - 2 = omega arith in λ i. set l (here i) (note_after ((sym is ∙ ap (λ (j : ℕ). get_or l j Vacant) here) i) r)

-- the note that a writer has read
pub noted_there : {id : TableId} {key : BoardSetup} {seat : Seat (Unit {0}) View} {setup : BoardSetup} {len least vacant : ℕ} {notes : List Note} {room : ℕ} → IsTableWriter id key seat setup len least vacant notes room → (k : ℕ) (n : Note) (v : View) → seat.me.0 ≡ v → k < v.setup.limits.followers
    → n ≡ get_or notes k n → get_elem? v.notes k ≡ some n
noted_there {notes = notes} i k n v is inside found =
    let b = i.sound.board i.owns in
    let low : k < length notes = omega (arith, inside, b.noted, ap length i.notes_are, ap (λ (u : View). u.setup.limits.followers) is) in
    ap (λ (u : View). get_elem? u.notes k) (sym is)
    ∙ ap (λ (l : List Note). get_elem? l k) (sym i.notes_are) ∙ at_index notes k n low found

-- the slot of a part that a writer carries
pub carried_inside : {id : TableId} {key : BoardSetup} {seat : Seat (Unit {0}) View} {setup : BoardSetup} {len least vacant : ℕ} {notes : List Note} {room : ℕ} → IsTableWriter id key seat setup len least vacant notes room → (v : View) (k : ℕ) → seat.me.0 ≡ v → Carries v k
    → k < v.setup.limits.followers
carried_inside i v k is c =
    let inside = ((i.sound.board i.owns).inside c.0 c.1 (ap (λ (u : View). get_elem? u.parts c.0) is ∙ c.2)).0 in
    omega (arith, inside, c.3, ap (λ (u : View). u.setup.limits.followers) is)

-- how many cursors a writer has, by its fields and by the view that callers see
pub same_followers : {id : TableId} {key : BoardSetup} {seat : Seat (Unit {0}) View} {setup : BoardSetup} {len least vacant : ℕ} {notes : List Note} {room : ℕ} → IsTableWriter id key seat setup len least vacant notes room → (v : View) → seat.me.0 ≡ v → setup.limits.followers ≡ v.setup.limits.followers
same_followers i v is = ap (λ (z : BoardSetup). z.limits.followers) (sym i.setup_is) ∙ ap (λ (u : View). u.setup.limits.followers) is

-- ---- The least place that is noted.

none_before_zero : (l : List Note) → NoneBefore 0 l
none_before_zero l k j b e = omega arith

-- a note is set that is not of an open follower before the place
pub none_before_set : (least k : ℕ) (l : List Note) (m : Note) → NoneBefore least l → ((j b : ℕ) → m ≡ Open j b → least ≤ b) → NoneBefore least (set l k m)
none_before_set least k l m all mine i j b e =
    ⊎_elim (λ (x : (i ≡ k) × (m ≡ Open j b)). mine j b x.1) (λ (x : (i ≢ k) × (get_elem? l i ≡ some (Open j b))). all i j b x.1) (at_set l k i m (Open j b) e)

-- what follows from a note is noted at no place before it
follows_later : (least : ℕ) (n m : Note) → ((j b : ℕ) → n ≡ Open j b → least ≤ b) → Follows n m → (j b : ℕ) → m ≡ Open j b → least ≤ b
follows_later least Vacant m low f j b e = absurd (vacant_open j b (sym f ∙ e))
follows_later least (Open joined next) m low f j b e =
    ⊎_elim (λ (x : m ≡ Vacant). absurd (vacant_open j b (sym x ∙ e)))
    (λ (x : (c : ℕ) × (m ≡ Open joined c) × (next ≤ c)). let same = same_open joined j x.0 b (sym x.1 ∙ e) in let old = low joined next refl in let more = x.2 in omega arith) f
follows_later least (Closed c) m low f j b e =
    ⊎_elim (λ (x : m ≡ Vacant). absurd (vacant_open j b (sym x ∙ e))) (λ (x : m ≡ Closed c). absurd (closed_open c j b (sym x ∙ e))) f

-- a cursor is loaded
pub none_before_noted : (least k : ℕ) (l : List Note) (n m : Note) → NoneBefore least l → get_elem? l k ≡ some n → Follows n m → NoneBefore least (set l k m)
none_before_noted least k l n m all there f = none_before_set least k l m all (follows_later least n m (λ j b e. all k j b (there ∙ ap some e)) f)

-- the notes of a writer after the cursor k was loaded
pub none_before_loaded : {id : TableId} {key : BoardSetup} {seat : Seat (Unit {0}) View} {setup : BoardSetup} {len least vacant : ℕ} {notes : List Note} {room : ℕ} → IsTableWriter id key seat setup len least vacant notes room → (k : ℕ) (n m : Note) → get_elem? seat.me.0.notes k ≡ some n
    → Follows n m → NoneBefore least (set notes k m)
none_before_loaded {notes = notes} i k n m there f = none_before_noted _ k notes n m i.least_is (ap (λ (l : List Note). get_elem? l k) i.notes_are ∙ there) f

-- ---- The slot before which none is noted vacant.

-- none of the other slots before it is noted vacant, and a note is set that is not vacant before it
pub none_vacant_set : (vacant k : ℕ) (l : List Note) (m : Note) → ((i : ℕ) → i < vacant → i ≢ k → get_elem? l i ≡ some Vacant → ⊥) → (m ≡ Vacant → vacant ≤ k) → NoneVacantBefore vacant (set l k m)
none_vacant_set vacant k l m others mine i less e =
    ⊎_elim (λ (x : (i ≡ k) × (m ≡ Vacant)). let low = mine x.1 in let here = x.0 in absurd (omega arith)) (λ (x : (i ≢ k) × (get_elem? l i ≡ some Vacant)). others i less x.0 x.1) (at_set l k i m Vacant e)

-- the slot is not vacant then
none_vacant_past : (vacant k : ℕ) (l : List Note) (m : Note) → NoneVacantBefore vacant l → (m ≡ Vacant → ⊥) → NoneVacantBefore (past vacant k) (set l k m)
none_vacant_past vacant k l m all ne = pick (λ (x : ℕ). NoneVacantBefore x (set l k m)) (eqb k vacant) (vacant + 1) vacant
    (λ same. let here = eqb-true k vacant same in none_vacant_set (vacant + 1) k l m (λ i less other e. all i (omega arith) e) (λ e. absurd (ne e)))
    (λ _. none_vacant_set vacant k l m (λ i less other e. all i less e) (λ e. absurd (ne e)))

-- the note m is made of the slot k, and that slot becomes what it is then
pub none_vacant_noted : (vacant k : ℕ) (l : List Note) (m : Note) → NoneVacantBefore vacant l → NoneVacantBefore (least_vacant_with vacant k m) (set l k m)
none_vacant_noted vacant k l m all = by_note m
  where
    by_note : (m : Note) → NoneVacantBefore (least_vacant_with vacant k m) (set l k m)
    by_note Vacant = none_vacant_set (min vacant k) k l Vacant (λ i less ne e. all i (omega arith) e) (λ e. omega arith)
    by_note (Open j b) = none_vacant_past vacant k l (Open j b) all (λ e. vacant_open j b (sym e))
    by_note (Closed c) = none_vacant_past vacant k l (Closed c) all (λ e. vacant_closed c (sym e))
