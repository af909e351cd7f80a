use Rattle.std.proofs.Common.{◌≡◌, ℕ, Bool, true, false, true≢false, is_some, is_none, nat_eq, eq-eqb, Some, ◌&&◌, refl, sym, ap, ◌∙◌, subst}
use Rattle.c960_game.specs.Game960.{Game960}
use Rattle.c960_game.specs.GameRecord.{GameRecord}
use Rattle.std.specs.Map.{lookup}
use Rattle.relay_core.specs.Name.{same_name}
use Rattle.relay_hall.specs.Record.{nobody_yet}
use Rattle.relay_hall.specs.Owning.{is_left_by}
use Rattle.relay_hall.proofs.lemmas.Runs.{known, nobody, runs, stand}
use Rattle.std.proofs.lemmas.Option.{none-some}
use Rattle.relay_hall.proofs.lemmas.Counting.{all_counted, all_may}
use Rattle.relay_hall.proofs.lemmas.Holding.{handed_of, left_only, runs_held}
use Rattle.relay_hall.proofs.lemmas.Leaving.{over_at_last}
use Rattle.relay_hall.proofs.lemmas.InTime.{in_time, runs_here, runs_in_time}
use Rattle.relay_hall.specs.Runs.{has_gone}
use Rattle.relay_hall.proofs.laws.whatever_happens.Goals as goal

not_so : (t : Bool) → (t ≡ true → ⊥) → t ≡ false
not_so true f = absurd (f refl)
not_so false f = refl

pub returns-clause-stands : goal.returns-clause-stands
returns-clause-stands c = λ limits grace es ts h l r. stand limits l.floor h (runs limits (nobody_yet limits grace) _ (nobody limits grace) es ts h l r)

pub returns-clause-games : goal.returns-clause-games
returns-clause-games c = λ limits grace es ts h l r name b there.
    let at = runs limits (nobody_yet limits grace) _ (nobody limits grace) es ts h l r in
    let k = known limits l.floor h at name b there in
    let legal = c.logs_are_legal_games.ensures limits h at.stands.lawful name k.0 k.1 in
    let start : k.0 ≡ b.game.start = ap (λ (g : GameRecord). g.start) k.2 in
    let moves = ap (λ (g : GameRecord). g.log) k.2 in (
      subst (λ (g : GameRecord). Game960 g.start g.log) k.2 legal.0,
      sym moves,
      k.1 ∙ ap (λ (n : ℕ). Some n) start,
    )

pub returns-clause-there : goal.returns-clause-there
returns-clause-there c = λ limits grace es ts h l r orderly name b there keyless on.
    let mine : is_left_by b.owner.opener b.owner ≡ true = (λ i. is_none (keyless i) && nat_eq b.owner.opener b.owner.opener) ∙ eq-eqb b.owner.opener b.owner.opener refl in
    not_so (has_gone b.owner.opener es) (λ gone. true≢false (sym (over_at_last b.owner.opener (nobody_yet limits grace) _ es orderly gone ts h l r name b there mine) ∙ ap is_some on))

pub returns-clause-held : goal.returns-clause-held
returns-clause-held c = λ limits grace es ts h l r here name b there key has on.
    in_time l (runs_in_time (nobody_yet limits grace) _ (λ q until waits. absurd (none-some _ waits)) es ts h l r)
    (runs_here (nobody_yet limits grace) _ (λ q n is. absurd (none-some _ is)) es ts h l r) key
    (runs_held (nobody_yet limits grace) _ (λ q x at. absurd (none-some x at)) es ts h l r
    (all_may (nobody_yet limits grace) _ (λ q. 0) (λ q. refl) es ts h l r here) name b there key has (ap is_some on))

pub returns-clause-counted : goal.returns-clause-counted
returns-clause-counted c = λ limits grace es ts h l r. all_counted (nobody_yet limits grace) _ (λ q. 0) (λ q. refl) es ts h l r

pub returns-clause-kept : goal.returns-clause-kept
returns-clause-kept c = left_only

pub returns-clause-handed : goal.returns-clause-handed
returns-clause-handed c = λ k speaker who name from joined position handed l s.
    handed_of k.floor name from (lookup (same_name name) k.floor.boards) refl joined position handed s.0.0
