use Rattle.std.proofs.Common.{ℕ, Option, ap, ◌∙◌}
use Rattle.c960_rules.specs.Reaches.{is_target}
use Rattle.c960_rules.specs.Inner.Listing.{is_on_end_rank}
use Rattle.c960_rules.specs.Inner.Wheres.{where_set}
use Rattle.c960_rules.proofs.WhereFacts.{where_or}
use Rattle.c960_rules.proofs.listing.special_goals.Goals as goal

pub returns : goal.returns
returns c =
    let p = c.args.position.now in
    where_or is_on_end_rank (is_target p.target) c.end_ranks.result c.target_set.result c.end_ranks.ensures
    (c.target_set.ensures ∙ ap (λ (o : Option ℕ). where_set (λ t. is_target o t)) c.target.ensures)
