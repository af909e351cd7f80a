-- What is kept of boards whose games are ended because they are left.
use Rattle.std.proofs.Common.{refl, ◌≡◌, ℕ, Bool, true, false, cond, is_some, List, [], ◌∷◌, ◌++◌, map, None, Some, ◌∙◌, sym, ap, append_assoc}
use Rattle.std.specs.Prelude.{◌&&◌, not}
use Rattle.std.specs.Map.{lookup}
use Rattle.c960_game.specs.declared.ending.Ending.TheVariants.{Abandoned}
use Rattle.c960_game.specs.declared.outcome.Outcome.TheVariants.{Abandoned as AbandonedOutcome}
use Rattle.relay_core.specs.Name.{same_name}
use Rattle.relay_hall.proofs.lemmas.Sweeping.{IsApart, flipped, missed}
use Rattle.relay_hall.specs.declared.owner.Owner.{Owner}
use Rattle.relay_hall.specs.Record.{HallBoard}
use Rattle.relay_hall.specs.Steps.{change_value}
use Rattle.relay_hall.specs.Times.{swept_board}
use Rattle.relay_journal.specs.Entries.{ends_in}
use Rattle.relay_journal.specs.declared.entry.Entry.{Entry}
use Rattle.relay_journal.specs.declared.entry.Entry.TheVariants.{Ends}
use Rattle.relay_journal.specs.Kept.{KeptBoard, kept_board, kept_end, replay_one, replayed}
use Rattle.relay_journal.proofs.Changes.{KeptRows, Rows, change_behind, change_first, kept_rows}

pub replayed-append : (boards : KeptRows) (xs ys : List Entry) → replayed boards (xs ++ ys) ≡ replayed (replayed boards xs) ys
replayed-append boards [] ys = refl
replayed-append boards (x ∷ xs) ys = replayed-append (replay_one boards x) xs ys

-- none of these names is there
abbrev AllNew : KeptRows → Rows → Type 0
AllNew pre [] = Unit {0}
AllNew pre (e ∷ es) = (lookup (same_name e.0) pre ≡ None) × AllNew pre es

all_new : (es : Rows) → AllNew [] es
all_new [] = tt
all_new (e ∷ es) = (refl, all_new es)

pub push_other : (q n : List ℕ) (b : KeptBoard) (pre : KeptRows) → lookup (same_name q) pre ≡ None → same_name q n ≡ false → lookup (same_name q) (pre ++ (n, b) ∷ []) ≡ None
push_other q n b [] none other = ap (λ (t : Bool). cond t (Some b) None) other
push_other q n b (e ∷ pre) none other =
    let m = missed (same_name q) e pre none in
    ap (λ (t : Bool). cond t (Some e.1) (lookup (same_name q) (pre ++ (n, b) ∷ []))) m.0 ∙ push_other q n b pre m.1 other

-- a board more before them, whose name is none of theirs
new_push : (n : List ℕ) (b : KeptBoard) (pre : KeptRows) (es : Rows) → AllNew pre es → lookup (same_name n) es ≡ None → AllNew (pre ++ (n, b) ∷ []) es
new_push n b pre [] new none = tt
new_push n b pre (e ∷ es) new none =
    let m = missed (same_name n) e es none in
    (push_other e.0 n b pre new.0 (flipped n e.0 m.0), new_push n b pre es new.1 m.1)

module _ (gone : Owner → Bool) where
  abbrev swept_rows : Rows → Rows
  swept_rows es = map (λ (e : List ℕ × HallBoard). (e.0, swept_board gone e.1)) es

  -- the entry of one board
  one : (pre rest : KeptRows) (e : List ℕ × HallBoard) → lookup (same_name e.0) pre ≡ None
      → replayed (pre ++ (e.0, kept_board e.1) ∷ rest) (cond (gone e.1.owner && not (is_some e.1.game.outcome)) (Ends e.0 Abandoned ∷ []) [])
      ≡ pre ++ (e.0, kept_board (swept_board gone e.1)) ∷ rest
  one pre rest e none = by (gone e.1.owner) (is_some e.1.game.outcome)
    where
      ended : change_value (same_name e.0) (kept_end Abandoned) (pre ++ (e.0, kept_board e.1) ∷ rest) ≡ pre ++ (e.0, kept_end Abandoned (kept_board e.1)) ∷ rest
      ended =
          change_behind e.0 (kept_end Abandoned) pre ((e.0, kept_board e.1) ∷ rest) none
          ∙ ap (λ (l : KeptRows). pre ++ l) (change_first e.0 (kept_end Abandoned) (kept_board e.1) rest)

      by : (left over : Bool)
          → replayed (pre ++ (e.0, kept_board e.1) ∷ rest) (cond (left && not over) (Ends e.0 Abandoned ∷ []) [])
          ≡ pre ++ (e.0, kept_board (cond left (record e.1 { game = cond over e.1.game (record e.1.game { outcome = Some AbandonedOutcome }) }) e.1)) ∷ rest
      by false over = refl
      by true true = refl
      by true false = ended

  all : (pre : KeptRows) (es : Rows) → AllNew pre es → IsApart es → replayed (pre ++ kept_rows es) (ends_in gone es) ≡ pre ++ kept_rows (swept_rows es)
  all pre [] new apart = refl
  all pre (e ∷ es) new apart =
      let entry = cond (gone e.1.owner && not (is_some e.1.game.outcome)) (Ends e.0 Abandoned ∷ []) [] in
      let b : KeptBoard = kept_board (swept_board gone e.1) in
      let next = all (pre ++ (e.0, b) ∷ []) es (new_push e.0 b pre es new.1 apart.0) apart.1 in
      replayed-append (pre ++ (e.0, kept_board e.1) ∷ kept_rows es) entry (ends_in gone es)
      ∙ ap (λ (l : KeptRows). replayed l (ends_in gone es)) (one pre (kept_rows es) e new.0)
      ∙ ap (λ (l : KeptRows). replayed l (ends_in gone es)) (sym (append_assoc pre ((e.0, b) ∷ []) (kept_rows es)))
      ∙ next ∙ append_assoc pre ((e.0, b) ∷ []) (kept_rows (swept_rows es))

  pub kept_swept : (es : Rows) → IsApart es → replayed (kept_rows es) (ends_in gone es) ≡ kept_rows (swept_rows es)
  kept_swept es apart = all [] es (all_new es) apart
