-- What a game keeps in memory, at its opening and after one move more.
use Rattle.std.proofs.Common.{◌≡◌, ℕ, ◌+◌, ◌/◌, ◌%◌, ◌<◌, ◌≤◌, List, [], ◌∷◌, ◌++◌, length, length-append, None, is_some, true, false, cond, refl, sym, ap, subst, ◌∙◌, arith, inl, inr}
use Rattle.std.specs.Prelude.{◌==◌}
use Rattle.std.specs.Vec.{vec_capacity}
use Rattle.std.proofs.lemmas.Bool.{eqb-true, eqb-false}
use Rattle.c960_board.specs.declared.numbering.TheConstants.{STARTS}
use Rattle.c960_board.specs.declared.parts.Parts.{Parts}
use Rattle.c960_board.specs.Moves.{Triple}
use Rattle.c960_board.specs.Start.{start}
use Rattle.c960_board.proofs.lemmas.Tests.{none_of}
use Rattle.c960_rules.specs.After.{after}
use Rattle.c960_rules.specs.Legal.{Legal}
use Rattle.c960_game.specs.declared.kept_positions.TheConstants.{MILE, RECENT}
use Rattle.c960_game.specs.declared.limits.TheConstants.{MOST_PLIES}
use Rattle.c960_game.specs.declared.game.Game.TheInside.{Inside}
use Rattle.c960_game.specs.Ends.{own_outcome}
use Rattle.c960_game.specs.Game960.{MayFollow}
use Rattle.c960_game.specs.Inner.KeptPositions.{AreMilestones, IsKept, record_of}
use Rattle.c960_game.specs.Positions.{last_position}
use Rattle.c960_game.specs.Record.{IsGame, opened, with_move}
use Rattle.c960_game.specs.GameRecord.{GameRecord}
use Rattle.c960_game.specs.Times.{recent_positions}
use Rattle.c960_game.proofs.Bounds.{half_moves_bound, number_bound}
use Rattle.c960_game.proofs.lemmas.DrawFacts.{going, tells_going}
use Rattle.c960_game.proofs.lemmas.GameFacts.{start_goes_on}
use Rattle.c960_game.proofs.lemmas.LogFacts.{no_move, one_move_more, last_more, position_after_none}
use Rattle.c960_game.proofs.MilestoneFacts.{first_milestone, next_milestone, no_milestone}
use Rattle.c960_game.proofs.RecentFacts.{length_recent, recent_none, recent_anew, recent_more}

-- ---- The record.

-- an opened game is one
pub opened_is_game : (n plies : ℕ) → n < STARTS → plies ≤ MOST_PLIES → IsGame (opened n plies)
opened_is_game n plies numbered most = record {
  legal = no_move n numbered;
  ended = inl (sym (start_goes_on n numbered));
  within = omega arith;
  most_plies = most;
}

-- a game without an outcome has none by itself
pub goes_on : (g : GameRecord) → IsGame g → is_some g.outcome ≡ false → own_outcome g.start g.log ≡ None
goes_on g game going = elim game.ended [ inl e ↦ sym e ∙ none_of g.outcome going | inr w ↦ w.0 ]

-- a legal move may follow in it
pub may_follow : (g : GameRecord) (m : Triple) → IsGame g → is_some g.outcome ≡ false
    → Legal (last_position g.start g.log) m → MayFollow g.start g.log m
may_follow g m game going legal = record {
  going = tells_going g.start g.log (goes_on g game going);
  legal = legal;
}

-- with one more legal move it is a game, if the log has room
pub game_more : (g : GameRecord) (m : Triple) → IsGame g → is_some g.outcome ≡ false → length g.log < g.plies
    → Legal (last_position g.start g.log) m → IsGame (with_move g m)
game_more g m game going room legal = record {
  legal = one_move_more g.start g.log m game.legal (may_follow g m game going legal);
  ended = inl refl;
  within = omega (arith, length-append g.log (m ∷ []));
  most_plies = game.most_plies;
}

-- what may follow keeps the log within the greatest number of plies
pub log_more : (g : GameRecord) (m : Triple) → IsGame g → length g.log < g.plies → length (g.log ++ m ∷ []) ≤ MOST_PLIES
log_more g m game room = omega (arith, length-append g.log (m ∷ []), game.most_plies)

-- ---- The memory.

-- the counters of the present position have room for one move more
short : (a : Inside) → IsKept a → length a.moves.items ≤ MOST_PLIES
short a kept = omega (arith, kept.game.within, kept.game.most_plies)

pub half_moves_room : (a : Inside) → IsKept a → a.position.half_moves < 65535
half_moves_room a kept = rw kept.position (omega (arith, half_moves_bound a.start a.moves.items, short a kept))

pub number_room : (a : Inside) → IsKept a → a.position.number < 65535
number_room a kept = rw kept.position (omega (arith, number_bound a.start a.moves.items, short a kept))

-- what is kept, in the words of the record
pub game_is : (a : Inside) (g : GameRecord) → IsKept a → record_of a ≡ g → IsGame g
game_is a g kept e = subst (λ (r : GameRecord). IsGame r) e kept.game

pub position_is : (a : Inside) (g : GameRecord) → IsKept a → record_of a ≡ g → a.position ≡ last_position g.start g.log
position_is a g kept e = kept.position ∙ ap (λ (r : GameRecord). last_position r.start r.log) e

pub recent_is : (a : Inside) (g : GameRecord) → IsKept a → record_of a ≡ g → a.recent.items ≡ recent_positions g.start g.log
recent_is a g kept e = kept.recent ∙ ap (λ (r : GameRecord). recent_positions r.start r.log) e

pub milestones_are : (a : Inside) (g : GameRecord) → IsKept a → record_of a ≡ g → AreMilestones g.start g.log a.milestones.items
milestones_are a g kept e = subst (λ (r : GameRecord). AreMilestones r.start r.log a.milestones.items) e kept.milestones

-- ---- Room.

-- while the game goes on there is room for one more recent position: the counter is below 150
pub recent_room : (a : Inside) → IsKept a → is_some a.outcome ≡ false → length a.recent.items < RECENT
recent_room a kept open_game =
    let w = (going a.start a.moves.items).0 (goes_on (record_of a) kept.game open_game) in
    let below : (last_position a.start a.moves.items).half_moves < 150 = w.2 in
    rw kept.recent (omega (arith, length_recent a.start a.moves.items))

-- while the log has room there is room for the next milestone
pub milestone_room : (a : Inside) → IsKept a → length a.moves.items < a.plies → (length a.moves.items + 1) % MILE ≡ 0
    → length a.milestones.items < a.plies / MILE + 1
milestone_room a kept free full = omega (arith, kept.milestones.count)

-- ---- The opening.

pub kept_opened : (a : Inside) → a.start < STARTS → record_of a ≡ opened a.start a.plies → a.plies ≤ MOST_PLIES
    → a.position ≡ start a.start → a.recent.items ≡ start a.start ∷ [] → a.milestones.items ≡ start a.start ∷ []
    → vec_capacity a.moves ≡ a.plies → vec_capacity a.recent ≡ RECENT → vec_capacity a.milestones ≡ a.plies / MILE + 1
    → IsKept a
kept_opened a numbered e most position recent milestones moves_room recent_room milestones_room =
    let log : a.moves.items ≡ [] = ap (λ (g : GameRecord). g.log) e in
    record {
      game = rw e (opened_is_game a.start a.plies numbered most);
      position = position ∙ sym (rw log (position_after_none (start a.start)));
      recent = recent ∙ sym (rw log (recent_none a.start));
      milestones = rw (log, milestones) (first_milestone a.start);
      moves_room = moves_room;
      recent_room = recent_room;
      milestones_room = milestones_room;
    }

-- ---- One move more.

-- the recent positions, as they are kept
recent_step : (n : ℕ) (l : List Triple) (m : Triple)
    → cond ((after (last_position n l) m).half_moves == 0) (after (last_position n l) m ∷ [])
    (recent_positions n l ++ after (last_position n l) m ∷ [])
    ≡ recent_positions n (l ++ m ∷ [])
recent_step n l m =
    let next = after (last_position n l) m in
    elim (next.half_moves == 0) as (λ b. (next.half_moves == 0) ≡ b
    → cond b (next ∷ []) (recent_positions n l ++ next ∷ []) ≡ recent_positions n (l ++ m ∷ [])) [
      | true ↦ λ e. sym (recent_anew n l m (eqb-true next.half_moves 0 e))
      | false ↦ λ e. sym (recent_more n l m (eqb-false next.half_moves 0 e))
    ] refl

-- and the milestones
milestone_step : (n : ℕ) (l : List Triple) (m : Triple) (milestones : List Parts) → AreMilestones n l milestones
    → AreMilestones n (l ++ m ∷ [])
    (cond ((length l + 1) % MILE == 0) (milestones ++ after (last_position n l) m ∷ []) milestones)
milestone_step n l m milestones kept =
    let next = after (last_position n l) m in
    elim ((length l + 1) % MILE == 0) as (λ b. ((length l + 1) % MILE == 0) ≡ b
    → AreMilestones n (l ++ m ∷ []) (cond b (milestones ++ next ∷ []) milestones)) [
      | true ↦ λ e. next_milestone n l m milestones kept (eqb-true ((length l + 1) % MILE) 0 e)
      | false ↦ λ e. no_milestone n l m milestones kept (eqb-false ((length l + 1) % MILE) 0 e)
    ] refl

-- what is new in memory after a move that leads to a position
pub record IsMore (a b : Inside) (next : Parts) : Type 0 where
  pub position : b.position ≡ next
  pub recent : b.recent.items ≡ cond (next.half_moves == 0) (next ∷ []) (a.recent.items ++ next ∷ [])
  pub milestones :
      b.milestones.items
      ≡ cond ((length a.moves.items + 1) % MILE == 0) (a.milestones.items ++ next ∷ []) a.milestones.items
  pub moves_room : vec_capacity b.moves ≡ vec_capacity a.moves
  pub recent_room : vec_capacity b.recent ≡ vec_capacity a.recent
  pub milestones_room : vec_capacity b.milestones ≡ vec_capacity a.milestones

-- a game with one move more
pub kept_more : (a b : Inside) (m : Triple) (next : Parts) → IsKept a → is_some a.outcome ≡ false
    → length a.moves.items < a.plies → Legal (last_position a.start a.moves.items) m
    → next ≡ after (last_position a.start a.moves.items) m → record_of b ≡ with_move (record_of a) m → IsMore a b next
    → IsKept b
kept_more a b m next kept open_game free legal leads e new =
    let n = a.start in
    let l = a.moves.items in
    let plies : b.plies ≡ a.plies = ap (λ (g : GameRecord). g.plies) e in
    let recent = rw (kept.recent, leads) at new.recent in
    let milestones = rw leads at new.milestones in
    record {
      game = rw e (game_more (record_of a) m kept.game open_game free legal);
      position =
          new.position ∙ leads ∙ sym (last_more n l m)
          ∙ sym (ap (λ (g : GameRecord). last_position g.start g.log) e);
      recent = recent ∙ recent_step n l m ∙ sym (ap (λ (g : GameRecord). recent_positions g.start g.log) e);
      milestones =
          subst (λ (g : GameRecord). AreMilestones g.start g.log b.milestones.items) (sym e)
          (subst (λ ps. AreMilestones n (l ++ m ∷ []) ps) (sym milestones) (milestone_step n l m a.milestones.items kept.milestones));
      moves_room = new.moves_room ∙ kept.moves_room ∙ sym plies;
      recent_room = new.recent_room ∙ kept.recent_room;
      milestones_room = new.milestones_room ∙ kept.milestones_room ∙ ap (λ k. k / MILE + 1) (sym plies);
    }
