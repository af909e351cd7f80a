use Rattle.std.proofs.Common.{sym, ◌∙◌, refl, false}
use Rattle.std.specs.Prelude.{◌==◌}
use Rattle.c960_rules.proofs.AttackerFacts.{same_back}
use Rattle.c960_rules.proofs.WhereFacts.{where_agree, where_nothing}
use Rattle.c960_rules.proofs.goals.target_set.Goals as goal

pub returns-in-Some : goal.returns-in-Some
returns-in-Some c =
    let u = c.in-Some.square in
    let is = c.in-Some.is in
    rw is (c.only.ensures ∙ where_agree (λ t. t == u) (λ t. u == t) (λ i l. same_back i u))

pub returns-in-None : goal.returns-in-None
returns-in-None c = let is = c.in-None.is in rw is (sym (where_nothing (λ t. false) (λ i l. refl)))
