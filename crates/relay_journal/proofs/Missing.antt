-- The missing entries lead to the boards that there are.
use Rattle.std.proofs.Common.{refl, ◌≡◌, ℕ, nat_lt, Bool, true, false, cond, List, [], ◌∷◌, ◌++◌, length, map, drop, Option, None, Some, inl, inr, ◌∙◌, sym, ap, arith, append_assoc, length-append}
use Rattle.std.specs.Map.{lookup}
use Rattle.std.proofs.lemmas.List.{append-nil, drop_at}
use Rattle.c960_board.specs.declared.piece.Colour.{Colour}
use Rattle.c960_board.specs.Moves.{Triple}
use Rattle.c960_game.specs.declared.ending.Ending.{Ending}
use Rattle.c960_game.specs.declared.ending.Ending.TheVariants as by
use Rattle.c960_game.specs.declared.outcome.Outcome.{Outcome}
use Rattle.c960_game.specs.Ending.{named_outcome}
use Rattle.c960_game.specs.Ends.{own_outcome}
use Rattle.relay_core.specs.Name.{same_name}
use Rattle.relay_hall.proofs.lemmas.Sweeping.{flipped, missed}
use Rattle.relay_hall.specs.Steps.{change_value}
use Rattle.relay_journal.specs.Differences.{AllGoOn, GoesOn, end_entry, ending_for, ends_as, missing, missing_of, moved_outcome, turn_of}
use Rattle.relay_journal.specs.declared.entry.Entry.{Entry}
use Rattle.relay_journal.specs.declared.entry.Entry.TheVariants.{Plays}
use Rattle.relay_journal.specs.Kept.{KeptBoard, kept_end, kept_move, new_kept, replayed}
use Rattle.relay_journal.proofs.Changes.{KeptRows, change_behind, change_first}
use Rattle.relay_journal.proofs.Sweeps.{push_other, replayed-append}

same_board : (a b : KeptBoard) → a.start ≡ b.start → a.log ≡ b.log → a.outcome ≡ b.outcome → a.key ≡ b.key → a ≡ b
same_board a b start log outcome key = λ i. record { start = start i; log = log i; outcome = outcome i; key = key i }

-- ---- Moves of one board.

-- a board after these moves
abbrev moved : KeptBoard → List Triple → KeptBoard
moved b [] = b
moved b (m ∷ ms) = moved (kept_move m b) ms

-- after one at least
moved_some : (b : KeptBoard) (m : Triple) (ms : List Triple) → moved b (m ∷ ms) ≡ record b { log = b.log ++ m ∷ ms; outcome = own_outcome b.start (b.log ++ m ∷ ms) }
moved_some b m [] = refl
moved_some b m (n ∷ ns) =
    moved_some (kept_move m b) n ns
    ∙ ap (λ (l : List Triple). record b { log = l; outcome = own_outcome b.start l }) (append_assoc b.log (m ∷ []) (n ∷ ns))

-- a board whose missing moves were made
abbrev halfway : KeptBoard → KeptBoard → KeptBoard
halfway old new = record new { outcome = moved_outcome old new }

moved_is : (old new : KeptBoard) → GoesOn old new → moved old (drop (length old.log) new.log) ≡ halfway old new
moved_is old new on = by_more on.more (ap (λ (l : List Triple). drop (length old.log) l) on.log ∙ drop_at old.log on.more (length old.log) refl) on.log
  where
    by_more : (more : List Triple) → drop (length old.log) new.log ≡ more → new.log ≡ old.log ++ more → moved old (drop (length old.log) new.log) ≡ halfway old new
    by_more [] is log =
        let size = ap length log ∙ length-append old.log [] in
        let none : nat_lt (length old.log) (length new.log) ≡ false = grind (arith, size) in
        ap (λ (ms : List Triple). moved old ms) is
        ∙ same_board old (halfway old new) (sym on.start) (sym (log ∙ append-nil old.log)) (sym (ap (λ (t : Bool). cond t (own_outcome new.start new.log) old.outcome) none)) (sym on.key)
    by_more (m ∷ ms) is log =
        let size = ap length log ∙ length-append old.log (m ∷ ms) in
        let some : nat_lt (length old.log) (length new.log) ≡ true = grind (arith, size) in
        let made : KeptBoard = record old { log = old.log ++ m ∷ ms; outcome = own_outcome old.start (old.log ++ m ∷ ms) } in
        ap (λ (ms : List Triple). moved old ms) is ∙ moved_some old m ms
        ∙ same_board made (halfway old new) (sym on.start) (sym log)
        (ap (λ (n : ℕ). own_outcome n (old.log ++ m ∷ ms)) (sym on.start) ∙ ap (λ (l : List Triple). own_outcome new.start l) (sym log)
        ∙ sym (ap (λ (t : Bool). cond t (own_outcome new.start new.log) old.outcome) some))
        (sym on.key)

-- an ending that names the outcome is found
found : (turn : Colour) (ending : Ending) → (same : Ending) × (ending_for turn (named_outcome ending) ≡ Some same) × (named_outcome same ≡ named_outcome ending)
found turn (by.Resigns side) = (by.Resigns side, refl, refl)
found turn by.Agreed = (by.Agreed, refl, refl)
found turn by.Abandoned = (by.Abandoned, refl, refl)
found turn (by.ClaimThreefold side) = (by.ClaimThreefold turn, refl, refl)
found turn (by.ClaimFifty side) = (by.ClaimFifty turn, refl, refl)
found turn (by.LosesOnTime side) = (by.LosesOnTime side, refl, refl)
found turn (by.Decided result) = (by.Decided result, refl, refl)

-- no entry, if the outcome was there
pub ends_none : (name : List ℕ) (turn : Colour) (o : Option Outcome) → ends_as name turn o o ≡ []
ends_none name turn None = refl
ends_none name turn (Some o) = refl

-- ---- One board among others.

module _ (pre rest : KeptRows) (name : List ℕ) (none : lookup (same_name name) pre ≡ None) where
  -- the board of this name is this
  abbrev with : KeptBoard → KeptRows
  with b = pre ++ (name, b) ∷ rest

  changes : (f : KeptBoard → KeptBoard) (b : KeptBoard) → change_value (same_name name) f (with b) ≡ with (f b)
  changes f b = change_behind name f pre ((name, b) ∷ rest) none ∙ ap (λ (l : KeptRows). pre ++ l) (change_first name f b rest)

  plays : (b : KeptBoard) (ms : List Triple) → replayed (with b) (map (λ m. Plays name m) ms) ≡ with (moved b ms)
  plays b [] = refl
  plays b (m ∷ ms) = ap (λ (l : KeptRows). replayed l (map (λ x. Plays name x) ms)) (changes (kept_move m) b) ∙ plays (kept_move m b) ms

  module _ (old new : KeptBoard) (on : GoesOn old new) where
    turn : Colour
    turn = turn_of new

    ended : replayed (with (halfway old new)) (ends_as name (turn_of new) (moved_outcome old new) new.outcome) ≡ with new
    ended = elim on.outcome [ inl same ↦ as_it_was same | inr (before, ending, is) ↦ by_ending before ending is ]
      where
        as_it_was : new.outcome ≡ moved_outcome old new → replayed (with (halfway old new)) (ends_as name (turn_of new) (moved_outcome old new) new.outcome) ≡ with new
        as_it_was same =
            ap (λ (o : Option Outcome). replayed (with (halfway old new)) (ends_as name (turn_of new) (moved_outcome old new) o)) same
            ∙ ap (λ (js : List Entry). replayed (with (halfway old new)) js) (ends_none name (turn_of new) (moved_outcome old new))
            ∙ ap (λ (o : Option Outcome). with (record new { outcome = o })) (sym same)

        by_ending : moved_outcome old new ≡ None → (ending : Ending) → new.outcome ≡ Some (named_outcome ending)
            → replayed (with (halfway old new)) (ends_as name (turn_of new) (moved_outcome old new) new.outcome) ≡ with new
        by_ending before ending is =
            let that = found (turn_of new) ending in
            ap (λ (o : Option Outcome). replayed (with (halfway old new)) (ends_as name (turn_of new) o new.outcome)) before
            ∙ ap (λ (o : Option Outcome). replayed (with (halfway old new)) (ends_as name (turn_of new) None o)) is
            ∙ ap (λ (o : Option Ending). replayed (with (halfway old new)) (end_entry name o)) that.1
            ∙ changes (kept_end that.0) (halfway old new)
            ∙ ap (λ (o : Outcome). with (record new { outcome = Some o })) that.2
            ∙ ap (λ (o : Option Outcome). with (record new { outcome = o })) (sym is)

    pub one_board : replayed (with old) (missing_of name old new) ≡ with new
    one_board =
        replayed-append (with old) (map (λ m. Plays name m) (drop (length old.log) new.log)) (ends_as name (turn_of new) (moved_outcome old new) new.outcome)
        ∙ ap (λ (l : KeptRows). replayed l (ends_as name (turn_of new) (moved_outcome old new) new.outcome))
        (plays old (drop (length old.log) new.log) ∙ ap (λ (b : KeptBoard). with b) (moved_is old new on))
        ∙ ended

-- ---- All boards.

-- none of these names is there, and no two are one
abbrev AllNew : KeptRows → KeptRows → Type 0
AllNew pre [] = Unit {0}
AllNew pre (e ∷ es) = (lookup (same_name e.0) pre ≡ None) × AllNew pre es

abbrev pub AreApart : KeptRows → Type 0
AreApart [] = Unit {0}
AreApart (e ∷ es) = (lookup (same_name e.0) es ≡ None) × AreApart es

all_new : (es : KeptRows) → AllNew [] es
all_new [] = tt
all_new (e ∷ es) = (refl, all_new es)

new_push : (n : List ℕ) (b : KeptBoard) (pre es : KeptRows) → AllNew pre es → lookup (same_name n) es ≡ None → AllNew (pre ++ (n, b) ∷ []) es
new_push n b pre [] new none = tt
new_push n b pre (e ∷ es) new none =
    let m = missed (same_name n) e es none in
    (push_other e.0 n b pre new.0 (flipped n e.0 m.0), new_push n b pre es new.1 m.1)

all : (pre old new : KeptRows) → AllNew pre new → AreApart new → AllGoOn old new → replayed (pre ++ old) (missing old new) ≡ pre ++ new
all pre [] [] fresh apart on = refl
all pre [] (e ∷ es) fresh apart on =
    let b = new_kept e.1.start e.1.key in
    let rest = all (pre ++ (e.0, e.1) ∷ []) [] es (new_push e.0 e.1 pre es fresh.1 apart.0) apart.1 on.1 in
    ap (λ (l : KeptRows). replayed (l ++ (e.0, b) ∷ []) (missing_of e.0 b e.1 ++ missing [] es)) (append-nil pre)
    ∙ replayed-append (pre ++ (e.0, b) ∷ []) (missing_of e.0 b e.1) (missing [] es)
    ∙ ap (λ (l : KeptRows). replayed l (missing [] es)) (one_board pre [] e.0 fresh.0 b e.1 on.0)
    ∙ ap (λ (l : KeptRows). replayed l (missing [] es)) (sym (append-nil (pre ++ (e.0, e.1) ∷ [])))
    ∙ rest ∙ append_assoc pre ((e.0, e.1) ∷ []) es
all pre (o ∷ os) [] fresh apart on = absurd on
all pre (o ∷ os) (e ∷ es) fresh apart on =
    let rest = all (pre ++ (e.0, e.1) ∷ []) os es (new_push e.0 e.1 pre es fresh.1 apart.0) apart.1 on.2 in
    ap (λ (n : List ℕ). replayed (pre ++ (n, o.1) ∷ os) (missing_of e.0 o.1 e.1 ++ missing os es)) (sym on.0)
    ∙ replayed-append (pre ++ (e.0, o.1) ∷ os) (missing_of e.0 o.1 e.1) (missing os es)
    ∙ ap (λ (l : KeptRows). replayed l (missing os es)) (one_board pre os e.0 fresh.0 o.1 e.1 on.1)
    ∙ ap (λ (l : KeptRows). replayed l (missing os es)) (sym (append_assoc pre ((e.0, e.1) ∷ []) os))
    ∙ rest ∙ append_assoc pre ((e.0, e.1) ∷ []) es

pub missing_leads : (old new : KeptRows) → AreApart new → AllGoOn old new → replayed old (missing old new) ≡ new
missing_leads old new apart on = all [] old new (all_new new) apart on
