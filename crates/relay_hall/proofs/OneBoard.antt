-- What a call does to one board, and what a hall shows of it.
use Rattle.std.proofs.Common.{◌≡◌, ◌<◌, ℕ, List, length, None, Result, Ok, Err, OnErr, OnOk, inl, inr, refl, sym, ap, ◌∙◌, subst}
use Rattle.std.proofs.Math.Nat.{lt_of_not-le}
use Rattle.std.proofs.lemmas.Map.{length-set_value}
use Rattle.std.proofs.lemmas.Option.{none-some}
use Rattle.c960_board.specs.Moves.{Triple}
use Rattle.c960_game.proofs.lemmas.LogFacts.{position_made}
use Rattle.c960_game.specs.GameRecord.{GameRecord}
use Rattle.c960_game.specs.Positions.{position_at}
use Rattle.c960_game.specs.Record.{with_move}
use Rattle.relay_core.proofs.lemmas.Lists.{set_value-map}
use Rattle.relay_core.specs.Name.{same_name}
use Rattle.live_board.proofs.lemmas.Tries.{tidied_below, unmoved_below}
use Rattle.live_board.specs.Board.{game_of}
use Rattle.live_board.specs.declared.limits.BoardLimits.{BoardLimits}
use Rattle.live_board.specs.declared.view.View.{View}
use Rattle.live_board.specs.TableWriter.{Joined, Searched, Submitted}
use Rattle.live_board.specs.Views.{published, storing}
use Rattle.relay_hall.specs.declared.hosted.Hosted.{Hosted}
use Rattle.relay_hall.specs.Hosting.{Entries, Swapped, Turned, game_in, games, limits_at, limits_each, limits_in, rows, shown_board}
use Rattle.relay_hall.specs.Steps.{change_value, with_game}
use Rattle.relay_hall.proofs.Lists.{changed_shown}

-- ---- A view.

pub moved_game : (m : Triple) (v w : View) → Submitted m v w → game_of w ≡ with_move (game_of v) m
moved_game m v w sub = ap game_of sub.2 ∙ ap (λ (u : View). game_of (published m (storing m u))) (tidied_below v.setup.limits.followers v sub.0 sub.1).same

pub moved_setup : (m : Triple) (v w : View) → Submitted m v w → w.setup ≡ v.setup
moved_setup m v w sub = ap (λ (x : View). x.setup) sub.2 ∙ ap (λ (x : View). x.setup) (tidied_below v.setup.limits.followers v sub.0 sub.1).same

-- joining does not change the setup
pub searched_setup : (v w : View) → Searched v w → w.setup ≡ v.setup
searched_setup v w (inl same) = ap (λ (u : View). u.setup) same
searched_setup v w (inr checked) = (unmoved_below _ v w checked).setup

pub joined_setup : (k p : ℕ) (v w : View) → Joined k p v w → w.setup ≡ v.setup
joined_setup k p v w h = ap (λ (u : View). u.setup) h.3 ∙ searched_setup v h.0 h.1

-- so the game is the same
pub game_stays : (v w : View) → w.setup ≡ v.setup → w.log ≡ v.log → w.outcome ≡ v.outcome → game_of w ≡ game_of v
game_stays v w setup log outcome = λ i. record { start = (setup i).start; plies = (setup i).limits.plies; log = log i; outcome = outcome i }

-- if there is no position, the place lies past the moves
pub past : (n : ℕ) (l : List Triple) (place : ℕ) → position_at n l place ≡ None → length l < place
past n l place none = lt_of_not-le (λ made. none-some _ (sym none ∙ position_made n l place made))

-- what was done was not refused
pub not_refused : {A E : Type 0} (a : A) (e : E) → Ok a ≡ Err e → ⊥
not_refused a e h = subst (λ r. OnOk r ⊥) (sym h) tt

-- ---- A board of the map.

module _ (f : GameRecord → GameRecord) where
  pub turned_shown : (b c : Hosted) → Turned f b c → shown_board c ≡ with_game f (shown_board b)
  turned_shown b c t = λ i. record { table = t.table i; game = t.game i; owner = t.owner i }

  module _ (name : List ℕ) (old new : Entries) (s : Swapped (Turned f) name old new) where
    pub rows_changed : rows new ≡ change_value (same_name name) (with_game f) (rows old)
    rows_changed = ap rows s.4 ∙ changed_shown (same_name name) shown_board (with_game f) old s.0 s.1 s.2 (turned_shown s.0 s.1 s.3)

    pub games_changed : games new ≡ change_value (same_name name) f (games old)
    games_changed = ap games s.4 ∙ changed_shown (same_name name) game_in f old s.0 s.1 s.2 s.3.game

    pub limits_stay : limits_at new ≡ limits_at old
    limits_stay = ap limits_at s.4 ∙ set_value-map (same_name name) limits_in old s.0 s.1 s.2 s.3.limits

    pub keys_stay : (l : BoardLimits) → limits_each l new ≡ limits_each l old
    keys_stay l = ap (limits_each l) s.4 ∙ set_value-map (same_name name) (λ (h : Hosted). l) old s.0 s.1 s.2 refl

    pub as_many : length new ≡ length old
    as_many = ap length s.4 ∙ length-set_value (same_name name) old s.1

-- if the game stays too, all that is shown does
module _ (name : List ℕ) (old new : Entries) (s : Swapped (Turned (λ g. g)) name old new) where
  pub rows_stay : rows new ≡ rows old
  rows_stay = ap rows s.4 ∙ set_value-map (same_name name) shown_board old s.0 s.1 s.2 (turned_shown (λ g. g) s.0 s.1 s.3)

  pub games_stay : games new ≡ games old
  games_stay = ap games s.4 ∙ set_value-map (same_name name) game_in old s.0 s.1 s.2 s.3.game

-- ---- What follows from what was done, or from what was refused.

pub onto : {A E P Q : Type 0} → (P → Q) → (r : Result A E) → OnOk r P → OnOk r Q
onto f (Ok done) p = f p
onto f (Err fault) p = tt

pub onto_err : {A E P Q : Type 0} → (P → Q) → (r : Result A E) → OnErr r P → OnErr r Q
onto_err f (Ok done) p = tt
onto_err f (Err fault) p = f p
