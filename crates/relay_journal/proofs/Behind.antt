-- What a scribe sees to be missing is what is missing.
use Rattle.std.proofs.Common.{refl, ◌≡◌, ℕ, zero, suc, ◌+◌, ◌<◌, nat_lt, Bool, true, false, cond, is_some, List, [], ◌∷◌, ◌++◌, map, length, drop, take, Option, None, Some, inl, inr, ◌∙◌, sym, ap, arith, append_assoc, length-append}
use Rattle.std.specs.Prelude.{◌==◌, ◌&&◌, nat_le, slice_get, option_map}
use Rattle.std.specs.Option.{option_or}
use Rattle.std.proofs.lemmas.List.{append-nil, length-take-le, map-append, take_more}
use Rattle.std.proofs.lemmas.Option.{get_or_from_slice_get, none-some, slice_get_within}
use Rattle.c960_board.specs.declared.piece.Colour.{Colour}
use Rattle.c960_board.specs.Moves.{Triple}
use Rattle.c960_board.specs.Pieces.{other}
use Rattle.c960_game.specs.declared.outcome.Outcome.{Outcome}
use Rattle.c960_game.specs.declared.outcome.Outcome.TheVariants.{Checkmate, Fivefold, SeventyFive, Stalemate}
use Rattle.c960_game.specs.Draws.{auto_outcome, draw_of}
use Rattle.c960_game.specs.Ends.{outcome_of, own_outcome}
use Rattle.c960_game.specs.Positions.{last_position}
use Rattle.c960_game.specs.Times.{times}
use Rattle.c960_rules.specs.Tests.Check.{in_check}
use Rattle.c960_rules.specs.Tests.Legal.{legal_list}
use Rattle.relay_hall.specs.Reading.{ShownBoard, shown_at}
use Rattle.relay_hall.specs.Record.{FloorRecord, HallBoard}
use Rattle.relay_journal.specs.declared.entry.Entry.{Entry}
use Rattle.relay_journal.specs.declared.entry.Entry.TheVariants.{Opens, Plays}
use Rattle.relay_journal.specs.declared.noted.Noted.{Noted}
use Rattle.relay_journal.specs.Behind.{behind_all, behind_noted, behind_one, kept_shown}
use Rattle.relay_journal.specs.Differences.{AllGoOn, GoesOn, ends_as, missing, missing_of, moved_outcome, turn_of}
use Rattle.relay_journal.specs.Kept.{KeptBoard, kept_board, kept_of, new_kept}
use Rattle.relay_journal.specs.Scribes.{noted_of}
use Rattle.relay_journal.proofs.Changes.{KeptRows}
use Rattle.relay_journal.proofs.Missing.{ends_none}

-- ---- One board.

-- what a game has by itself is no entry
module _ (name : List ℕ) (turn : Colour) where
  mates : (none check : Bool) (side : Colour) (draw : Option Outcome) → ends_as name turn None draw ≡ []
      → ends_as name turn None (option_or (cond none (Some (cond check (Checkmate side) Stalemate)) None) draw) ≡ []
  mates true true side draw rest = refl
  mates true false side draw rest = refl
  mates false check side draw rest = rest

  draws : (five seventy : Bool) → ends_as name turn None (cond five (Some Fivefold) (cond seventy (Some SeventyFive) None)) ≡ []
  draws true seventy = refl
  draws false true = refl
  draws false false = refl

  own : (n : ℕ) (l : List Triple) → ends_as name turn None (own_outcome n l) ≡ []
  unfolding own_outcome outcome_of auto_outcome draw_of
  own n l =
      let p = last_position n l in
      mates (length (legal_list p) == 0) (in_check p.placement p.turn) (other p.turn) (draw_of (times n l) p.half_moves)
      (draws (nat_le 5 (times n l)) (nat_le 150 p.half_moves))

over_or_not : (o : Option Outcome) (js ks : List Entry) → cond (is_some o && false) js ks ≡ ks
over_or_not None js ks = refl
over_or_not (Some x) js ks = refl

over_so : (name : List ℕ) (turn : Colour) (o p : Option Outcome) → cond (is_some o && true) [] (ends_as name turn None p) ≡ ends_as name turn o p
over_so name turn None p = refl
over_so name turn (Some x) p = refl

abbrev EndIs : List ℕ → KeptBoard → KeptBoard → Type 0
EndIs name old new =
    cond (is_some old.outcome && (length old.log == length new.log)) [] (ends_as name (turn_of new) None new.outcome)
    ≡ ends_as name (turn_of new) (moved_outcome old new) new.outcome

end_is : (name : List ℕ) (old new : KeptBoard) → GoesOn old new → EndIs name old new
end_is name old new on = by_more on.more on.log
  where
    by_more : (more : List Triple) → new.log ≡ old.log ++ more → EndIs name old new
    by_more [] log =
        let size = ap length log ∙ length-append old.log [] in
        let same : (length old.log == length new.log) ≡ true = grind (arith, size) in
        let none : nat_lt (length old.log) (length new.log) ≡ false = grind (arith, size) in
        ap (λ (t : Bool). cond (is_some old.outcome && t) [] (ends_as name (turn_of new) None new.outcome)) same
        ∙ over_so name (turn_of new) old.outcome new.outcome
        ∙ sym (ap (λ (t : Bool). ends_as name (turn_of new) (cond t (own_outcome new.start new.log) old.outcome) new.outcome) none)
    by_more (m ∷ ms) log =
        let size = ap length log ∙ length-append old.log (m ∷ ms) in
        let other : (length old.log == length new.log) ≡ false = grind (arith, size) in
        let some : nat_lt (length old.log) (length new.log) ≡ true = grind (arith, size) in
        let moved : moved_outcome old new ≡ own_outcome new.start new.log = ap (λ (t : Bool). cond t (own_outcome new.start new.log) old.outcome) some in
        ap (λ (t : Bool). cond (is_some old.outcome && t) [] (ends_as name (turn_of new) None new.outcome)) other
        ∙ over_or_not old.outcome [] (ends_as name (turn_of new) None new.outcome)
        ∙ elim on.outcome [ inl same ↦ by_itself same moved | inr (before, ending, is) ↦ ap (λ (o : Option Outcome). ends_as name (turn_of new) o new.outcome) (sym before) ]
      where
        by_itself : new.outcome ≡ moved_outcome old new → moved_outcome old new ≡ own_outcome new.start new.log
            → ends_as name (turn_of new) None new.outcome ≡ ends_as name (turn_of new) (moved_outcome old new) new.outcome
        by_itself same moved =
            ap (λ (o : Option Outcome). ends_as name (turn_of new) None o) (same ∙ moved)
            ∙ own name (turn_of new) new.start new.log
            ∙ sym (ends_none name (turn_of new) (moved_outcome old new))
            ∙ ap (λ (o : Option Outcome). ends_as name (turn_of new) (moved_outcome old new) o) (sym same)

board_is : (name : List ℕ) (old new : KeptBoard) → GoesOn old new → behind_noted (name, new) (noted_of old) ≡ missing_of name old new
board_is name old new on = ap (λ (js : List Entry). map (λ m. Plays name m) (drop (length old.log) new.log) ++ js) (end_is name old new on)

-- ---- All boards.

pub behind_is : (old new : KeptRows) → AllGoOn old new → behind_all (map (λ (e : List ℕ × KeptBoard). noted_of e.1) old) new ≡ missing old new
behind_is [] [] on = refl
behind_is [] (e ∷ es) on =
    ap (λ (js : List Entry). (Opens e.0 e.1.start e.1.key ∷ js) ++ behind_all [] es) (board_is e.0 (new_kept e.1.start e.1.key) e.1 on.0)
    ∙ ap (λ (js : List Entry). Opens e.0 e.1.start e.1.key ∷ (missing_of e.0 (new_kept e.1.start e.1.key) e.1 ++ js)) (behind_is [] es on.1)
behind_is (o ∷ os) [] on = absurd on
behind_is (o ∷ os) (e ∷ es) on =
    ap (λ (js : List Entry). js ++ behind_all (map (λ (x : List ℕ × KeptBoard). noted_of x.1) os) es) (board_is e.0 o.1 e.1 on.1)
    ∙ ap (λ (js : List Entry). missing_of e.0 o.1 e.1 ++ js) (behind_is os es on.2)

-- ---- One board after another.

behind_push : (ns : List Noted) (es : KeptRows) (e : List ℕ × KeptBoard)
    → behind_all ns (es ++ e ∷ []) ≡ behind_all ns es ++ behind_one e (slice_get ns (length es))
behind_push [] [] e = append-nil (behind_one e None)
behind_push (n ∷ ns) [] e = append-nil (behind_one e (Some n))
behind_push [] (x ∷ es) e =
    ap (λ (js : List Entry). behind_one x None ++ js) (behind_push [] es e)
    ∙ sym (append_assoc (behind_one x None) (behind_all [] es) (behind_one e None))
behind_push (n ∷ ns) (x ∷ es) e =
    ap (λ (js : List Entry). behind_one x (Some n) ++ js) (behind_push ns es e)
    ∙ sym (append_assoc (behind_one x (Some n)) (behind_all ns es) (behind_one e (slice_get ns (length es))))

-- what is kept of the board of this place
pub kept_at : (f : FloorRecord) (at : ℕ) (b : ShownBoard) → shown_at f at ≡ Some b → slice_get (kept_of f) at ≡ Some (kept_shown b)
kept_at f at b is = placed f.boards at is
  where
    placed : (es : List (List ℕ × HallBoard)) (i : ℕ) → option_map (λ (e : List ℕ × HallBoard). record { name = e.0; game = e.1.game; owner = e.1.owner }) (slice_get es i) ≡ Some b
        → slice_get (map (λ (e : List ℕ × HallBoard). (e.0, kept_board e.1)) es) i ≡ Some (kept_shown b)
    placed [] i is = absurd (grind (arith, is))
    placed (e ∷ es) zero is = ap (λ (o : Option ShownBoard). option_map kept_shown o) is
    placed (e ∷ es) (suc i) is = placed es i is

-- and there is one at each place below their number
pub shown_there : (f : FloorRecord) (at : ℕ) → at < length f.boards → shown_at f at ≡ None → ⊥
shown_there f at within none = there f.boards at within none
  where
    there : (es : List (List ℕ × HallBoard)) (i : ℕ) → i < length es
        → option_map {U = ShownBoard} (λ (e : List ℕ × HallBoard). record { name = e.0; game = e.1.game; owner = e.1.owner }) (slice_get es i) ≡ None → ⊥
    there [] i lt none = absurd (omega (arith, lt))
    there (e ∷ es) zero lt none = none-some _ (sym none)
    there (e ∷ es) (suc i) lt none = there es i (omega (arith, lt)) none

pub next_is : (es : KeptRows) (at : ℕ) (e : List ℕ × KeptBoard) → slice_get es at ≡ Some e → (take (at + 1) es ≡ take at es ++ e ∷ []) × (length (take at es) ≡ at)
next_is es at e is =
    let within = slice_get_within es at e is in (
      take_more es at e within ∙ ap (λ (x : List ℕ × KeptBoard). take at es ++ x ∷ []) (get_or_from_slice_get es at e e is),
      length-take-le at es (omega (arith, within)),
    )

pub behind_next : (ns : List Noted) (es : KeptRows) (at : ℕ) (e : List ℕ × KeptBoard) → slice_get es at ≡ Some e
    → behind_all ns (take (at + 1) es) ≡ behind_all ns (take at es) ++ behind_one e (slice_get ns at)
behind_next ns es at e is =
    let next = next_is es at e is in
    ap (λ (xs : KeptRows). behind_all ns xs) next.0 ∙ behind_push ns (take at es) e
    ∙ ap (λ (i : ℕ). behind_all ns (take at es) ++ behind_one e (slice_get ns i)) next.1

-- ---- What is noted of them.

pub noted_next : (es : KeptRows) (at : ℕ) (e : List ℕ × KeptBoard) → slice_get es at ≡ Some e
    → map (λ (x : List ℕ × KeptBoard). noted_of x.1) (take (at + 1) es) ≡ map (λ (x : List ℕ × KeptBoard). noted_of x.1) (take at es) ++ noted_of e.1 ∷ []
noted_next es at e is =
    ap (λ (xs : KeptRows). map (λ (x : List ℕ × KeptBoard). noted_of x.1) xs) (next_is es at e is).0
    ∙ map-append (λ (x : List ℕ × KeptBoard). noted_of x.1) (take at es) (e ∷ [])
