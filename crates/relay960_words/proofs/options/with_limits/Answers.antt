use Rattle.std.proofs.Common.{rules, codes, List, ◌∷◌, [], subst, sym}
use Rattle.std.proofs.lemmas.Result.{IfOk-weaker}
use Rattle.c960_game.specs.declared.limits.TheConstants.{MOST_BOARDS, MOST_CAPACITY, MOST_FOLLOWERS, MOST_PLIES}
use Rattle.clap.specs.Words.{Rule}
use Rattle.clap.specs.declared.builder.arg.Arg.{Arg}
use Rattle.relay960_words.specs.CommandLine.{option_rule}
use Rattle.relay960_words.proofs.Adding.{HaveRules, added-in-turn}
use Rattle.relay960_words.proofs.options.with_limits.Goals as goal

pub returns : goal.returns
returns c =
    let rs : List Rule =
    option_rule (codes "boards") 1 MOST_BOARDS (codes "16") ∷
    option_rule (codes "followers") 1 MOST_FOLLOWERS (codes "64") ∷
    option_rule (codes "capacity") 1 MOST_CAPACITY (codes "64") ∷
    option_rule (codes "plies") 1 MOST_PLIES (codes "1024") ∷ [] in
    let xs : List Arg =
    c.number_option.result ∷ c.number_option-2.result ∷ c.number_option-3.result ∷ c.number_option-4.result ∷
    [] in
    let have : HaveRules xs rs = (
      c.number_option.ensures.local,
      search rules,
      (
        c.number_option-2.ensures.local,
        search rules,
        (
          c.number_option-3.ensures.local,
          search rules,
          (c.number_option-4.ensures.local, search rules, tt),
        ),
      ),
    ) in
    IfOk-weaker c.args-2.result _ _
    (λ r added. added-in-turn _ r _ rs added (subst (λ (l : List Arg). HaveRules l rs) (sym c.in_ok-options.ensures.items) have))
    c.args-2.ensures
