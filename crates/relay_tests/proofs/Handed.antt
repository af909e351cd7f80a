-- The board that a relay at a history hands out.
use Rattle.std.proofs.Common.{◌≡◌, ℕ, List, Option, None, Some, option_map, refl, ap, sym, subst, ◌∙◌}
use Rattle.std.specs.Map.{lookup}
use Rattle.std.proofs.lemmas.Option.{none-some, same_Some}
use Rattle.c960_game.specs.Game960.{Game960}
use Rattle.c960_game.specs.Limits.{LimitNumbers}
use Rattle.c960_game.specs.GameRecord.{GameRecord}
use Rattle.relay_core.specs.Headline.{Headline}
use Rattle.relay_core.specs.History.{History, start_of, log, end_of}
use Rattle.relay_core.specs.Name.{same_name}
use Rattle.relay_core.specs.Stands.{game_of as history_game}
use Rattle.relay_core.specs.State.{RelayRecord}
use Rattle.live_board.specs.Seats.{BoardSeat}
use Rattle.relay_live.specs.Live.{game}
use Rattle.relay_tests.specs.Handing.{HandedOut}

-- depending on whether the name was opened
by_start : (limits : LimitNumbers) (h : History) (name : List ℕ) (found : Option BoardSeat) (start : Option ℕ) → start_of h name ≡ start
    → ((n : ℕ) → start_of h name ≡ Some n → Game960 n (log h name))
    → option_map game found ≡ option_map (history_game limits h name) start → HandedOut h name found
by_start limits h name None None opened legal shown = opened
by_start limits h name None (Some n) opened legal shown = absurd (none-some _ shown)
by_start limits h name (Some b) None opened legal shown = absurd (none-some _ (sym shown))
by_start limits h name (Some b) (Some n) opened legal shown =
    let same : game b ≡ history_game limits h name n = same_Some _ _ shown in
    let start : b.knows.setup.start ≡ n = ap (λ (g : GameRecord). g.start) same in
    record {
      start = opened ∙ ap Some (sym start);
      log = ap (λ (g : GameRecord). g.log) same;
      outcome = ap (λ (g : GameRecord). g.outcome) same ∙ ap (λ (k : ℕ). end_of h k name) (sym start);
      legal = subst (λ (g : GameRecord). Game960 g.start g.log) (sym same) (legal n opened);
    }

pub handed : (limits : LimitNumbers) (r : RelayRecord) (h : History) (name : List ℕ) (found : Option BoardSeat) → Headline limits r h
    → option_map game found ≡ lookup (same_name name) r.boards → HandedOut h name found
handed limits r h name found at shown =
    by_start limits h name found (start_of h name) refl (at.games name) (shown ∙ at.stands.boards name)
