-- The names of the boards that a relay's history has opened.
use Rattle.std.proofs.Common.{◌≡◌, ℕ, ◌<◌, ◌≤◌, nat_le, Bool, true, false, ◌||◌, cond, is_some, List, [], ◌∷◌, ◌++◌, length, map, Option, Some, None, option_map, refl, sym, ap, subst, ◌∙◌, true≢false, arith}
use Rattle.std.specs.Map.{lookup}
use Rattle.std.proofs.lemmas.Bool.Decides.{nat_tests}
use Rattle.std.proofs.lemmas.List.{map-append, length-map}
use Rattle.c960_board.specs.declared.numbering.TheConstants.{STARTS}
use Rattle.c960_game.specs.declared.refusal.Refusal.TheVariants.{BoardExists, BadStart, TooManyBoards}
use Rattle.c960_game.specs.Limits.{LimitNumbers}
use Rattle.relay_core.specs.declared.step.Step.{Step}
use Rattle.relay_core.specs.declared.step.Step.TheVariants.{Open, Submit, End, Follow, Take, Leave}
use Rattle.relay_core.specs.declared.reply.Reply.{Reply}
use Rattle.relay_core.specs.declared.reply.Reply.TheVariants.{Opened, Refused}
use Rattle.relay_core.specs.History.{History, is_accepted, opened, start_of}
use Rattle.relay_core.specs.Name.{same_name}
use Rattle.relay_core.specs.Replies.{IsAllowed}
use Rattle.relay_core.specs.Stands.{Stands, game_of}
use Rattle.relay_core.specs.State.{RelayRecord}
use Rattle.relay_core.proofs.lemmas.Grounds.{told}
use Rattle.relay_core.proofs.lemmas.Names.{same_name_is, is_same_name}
use Rattle.relay_pushing.specs.Connections.{is_among}
use Rattle.relay_tests.specs.Keeping.{IsKeeping, Knows, Makes, board_opened, names_with}

-- ---- Which boards are known.

same_tests : (a b : Bool) → (a ≡ true → b ≡ true) → (b ≡ true → a ≡ true) → a ≡ b
same_tests true b there back = sym (there refl)
same_tests false true there back = back refl
same_tests false false there back = refl

same_name_sym : (a b : List ℕ) → same_name a b ≡ same_name b a
same_name_sym a b =
    same_tests (same_name a b) (same_name b a) (λ e. is_same_name b a (sym (same_name_is a b e)))
    (λ e. is_same_name a b (sym (same_name_is b a e)))

-- a board is among the names exactly if its look-up finds an entry
among_names : (board : List ℕ) (xs : List (List ℕ × ℕ)) → is_among board (map (λ e. e.0) xs) ≡ is_some (lookup (same_name board) xs)
among_names board [] = refl
among_names board (x ∷ xs) = by (same_name x.0 board) (same_name board x.0) (same_name_sym x.0 board) (among_names board xs)
  where
    by : (a b : Bool) → a ≡ b → is_among board (map (λ e. e.0) xs) ≡ is_some (lookup (same_name board) xs)
        → (a || is_among board (map (λ e. e.0) xs)) ≡ is_some (cond b (Some x.1) (lookup (same_name board) xs))
    by true true e rest = refl
    by true false e rest = cc
    by false true e rest = cc
    by false false e rest = rest

some_mapped : {A B : Type 0} (f : A → B) (o : Option A) → is_some (option_map f o) ≡ is_some o
some_mapped f None = refl
some_mapped f (Some a) = refl

-- a relay has exactly the boards that were opened
has_opened : (limits : LimitNumbers) (r : RelayRecord) (h : History) (board : List ℕ) → Stands limits r h
    → is_some (lookup (same_name board) r.boards) ≡ is_some (start_of h board)
has_opened limits r h board st = ap is_some (st.boards board) ∙ some_mapped (game_of limits h board) (start_of h board)

-- so the names show what any history at which the relay stands has opened
pub known_by_names : (r : RelayRecord) (names : List (List ℕ)) (room : ℕ) (board : List ℕ) (known : Bool) → IsKeeping r names room
    → known ≡ is_among board names → Knows r board known
known_by_names r names room board known kept is limits h st =
    is ∙ ap (is_among board) kept.named ∙ among_names board (opened kept.history)
    ∙ sym (has_opened r.limits r kept.history board kept.stands) ∙ has_opened limits r h board st

-- ---- One more step.

-- a board is opened only if fewer than the limit were
had_room : (limits : LimitNumbers) (h : History) (b : List ℕ) (n : ℕ) (reply : Reply) → IsAllowed limits h (Open b n) reply
    → is_accepted reply ≡ true → length (opened h) < limits.boards
had_room limits h b n reply ok took =
    by (is_some (start_of h b)) (nat_le STARTS n) (nat_le limits.boards (length (opened h))) refl
    (ap is_accepted (sym (told limits h (Open b n) reply ok took)) ∙ took)
  where
    by : (there bad full : Bool) → nat_le limits.boards (length (opened h)) ≡ full
        → is_accepted (cond there (Refused BoardExists) (cond bad (Refused BadStart) (cond full (Refused TooManyBoards) Opened))) ≡ true
        → length (opened h) < limits.boards
    by true bad full e g = absurd (true≢false (sym g))
    by false true full e g = absurd (true≢false (sym g))
    by false false true e g = absurd (true≢false (sym g))
    by false false false e g = grind (arith, nat_tests)

-- the names of the extended history
named_after : (names : List (List ℕ)) (h : History) (step : Step) (reply : Reply) → names ≡ map (λ e. e.0) (opened h)
    → names_with names (board_opened step reply) ≡ map (λ e. e.0) (opened ((step, reply) ∷ h))
named_after names h (Open b n) reply e = by (is_accepted reply)
  where
    by : (took : Bool) → names_with names (cond took (Some b) None) ≡ map (λ e. e.0) (cond took (opened h ++ (b, n) ∷ []) (opened h))
    by true = ap (λ l. l ++ b ∷ []) e ∙ sym (map-append (λ e. e.0) (opened h) ((b, n) ∷ []))
    by false = e
named_after names h (Submit b m) reply e = e
named_after names h (End b ending) reply e = e
named_after names h (Follow who b from) reply e = e
named_after names h (Take who) reply e = e
named_after names h (Leave who) reply e = e

module _ (old later : RelayRecord) (names : List (List ℕ)) (room : ℕ) (step : Step) (reply : Reply) (kept : IsKeeping old names room)
    (made : Makes old step reply later) where
  -- the extended history
  new : Stands old.limits later ((step, reply) ∷ kept.history)
  new = made old.limits kept.history kept.stands

  -- the keeper goes on, with the name of the board that was opened
  pub keeps : (o : Option (List ℕ)) → o ≡ board_opened step reply → IsKeeping later (names_with names o) room
  keeps o e = record {
    history = (step, reply) ∷ kept.history;
    stands = subst (λ (l : LimitNumbers). Stands l later ((step, reply) ∷ kept.history)) (sym new.given) new;
    named = ap (names_with names) e ∙ named_after names kept.history step reply kept.named;
    fits = subst (λ (l : LimitNumbers). l.boards ≤ room) (sym new.given) kept.fits;
  }

-- there is room for the name of a board that was opened
pub fits : (old later : RelayRecord) (names : List (List ℕ)) (room : ℕ) (step : Step) (reply : Reply) → IsKeeping old names room
    → Makes old step reply later → (board : List ℕ) → Some board ≡ board_opened step reply → length names < room
fits old later names room (Open b n) reply kept made board e =
    let few = had_room old.limits kept.history b n reply (new old later names room (Open b n) reply kept made).lawful.0
    (by (is_accepted reply) e) in
    let count : length names ≡ length (opened kept.history) = simp length-map at (ap length kept.named) in
    omega (arith, few, count, kept.fits)
  where
    by : (took : Bool) → Some board ≡ cond took (Some b) None → took ≡ true
    by true g = refl
    by false g = cc
fits old later names room (Submit b m) reply kept made board e = cc
fits old later names room (End b ending) reply kept made board e = cc
fits old later names room (Follow who b from) reply kept made board e = cc
fits old later names room (Take who) reply kept made board e = cc
fits old later names room (Leave who) reply kept made board e = cc
