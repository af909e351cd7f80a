use Rattle.std.proofs.Common.{rules, codes, List, ◌∷◌, [], subst, sym}
use Rattle.std.proofs.lemmas.Result.{IfOk-weaker}
use Rattle.clap.specs.Words.{Rule}
use Rattle.clap.specs.declared.builder.arg.Arg.{Arg}
use Rattle.relay960_words.specs.CommandLine.{flag_rule, option_rule, text_rule}
use Rattle.relay960_words.proofs.Adding.{HaveRules, added-in-turn}
use Rattle.relay960_words.proofs.options.with_service.Goals as goal

pub returns : goal.returns
returns c =
    let rs : List Rule =
    option_rule (codes "port") 1 65535 (codes "9600") ∷
    option_rule (codes "connections") 1 1000000 (codes "1000000") ∷
    flag_rule (codes "forever") ∷
    flag_rule (codes "until-input-ends") ∷
    option_rule (codes "grace") 0 3600 (codes "0") ∷
    option_rule (codes "idle") 0 86400 (codes "600") ∷
    flag_rule (codes "log") ∷
    text_rule (codes "watch") ∷
    option_rule (codes "watch-threads") 1 64 (codes "2") ∷
    option_rule (codes "watch-most") 1 1000000 (codes "100000") ∷
    text_rule (codes "journal") ∷ [] in
    let xs : List Arg =
    c.number_option.result ∷ c.number_option-2.result ∷ c.flag_option.result ∷ c.flag_option-2.result ∷
    c.number_option-3.result ∷ c.number_option-4.result ∷ c.flag_option-3.result ∷ c.text_option.result ∷
    c.number_option-5.result ∷ c.number_option-6.result ∷ c.text_option-2.result ∷ [] in
    let have : HaveRules xs rs = (
      c.number_option.ensures.local,
      search rules,
      (
        c.number_option-2.ensures.local,
        search rules,
        (
          c.flag_option.ensures.local,
          search rules,
          (
            c.flag_option-2.ensures.local,
            search rules,
            (
              c.number_option-3.ensures.local,
              search rules,
              (
                c.number_option-4.ensures.local,
                search rules,
                (
                  c.flag_option-3.ensures.local,
                  search rules,
                  (
                    c.text_option.ensures.local,
                    search rules,
                    (
                      c.number_option-5.ensures.local,
                      search rules,
                      (
                        c.number_option-6.ensures.local,
                        search rules,
                        (c.text_option-2.ensures.local, search rules, tt),
                      ),
                    ),
                  ),
                ),
              ),
            ),
          ),
        ),
      ),
    ) in
    IfOk-weaker c.args-2.result _ _
    (λ r added. added-in-turn _ r _ rs added (subst (λ (l : List Arg). HaveRules l rs) (sym c.in_ok-options.ensures.items) have))
    c.args-2.ensures
