use Rattle.std.proofs.Common.{ap, ap₂, Option, Some, [], ◌∷◌, ◌∙◌}
use Rattle.clap.specs.Words.{Rule, rule_of}
use Rattle.clap.specs.declared.builder.action.ArgAction.TheVariants.{Set}
use Rattle.clap.specs.declared.builder.arg.Arg.{Arg}
use Rattle.clap.specs.declared.builder.value_parser.ValueParser.{ValueParser}
use Rattle.relay960_words.proofs.options.number_option.Goals as goal

pub returns-clause-rule : goal.returns-clause-rule
returns-clause-rule c =
    let given = c.value_parser.ensures.given in
    let parser = given.1 ∙ ap (λ (p : ValueParser). Some p) (given.2 ∙ c.number_parser.ensures) in
    let named = ap rule_of c.long.ensures ∙ ap (λ (r : Rule). record r { long = Some c.args.name.now }) c.new.ensures.rule in
    let helped = ap rule_of c.help.ensures ∙ named in
    let acted = ap rule_of c.action.ensures ∙ ap (λ (r : Rule). record r { action = Some Set }) helped in
    let parsed = ap rule_of c.value_parser.ensures.others ∙ ap₂ (λ (r : Rule) (p : Option ValueParser). record r { parser = p }) acted parser in
    ap rule_of c.default_value.ensures ∙ ap (λ (r : Rule). record r { defaults = c.args.default.now ∷ [] }) parsed

pub returns-clause-local : goal.returns-clause-local
returns-clause-local c =
    let global = λ (a : Arg). a.global in
    let acted = ap global c.action.ensures ∙ (ap global c.help.ensures ∙ (ap global c.long.ensures ∙ c.new.ensures.optional.1)) in
    ap global c.default_value.ensures ∙ (ap global c.value_parser.ensures.others ∙ acted)
