-- Arguments that a command takes in turn, as `Command::args` adds them.
use Rattle.std.proofs.Common.{List, [], ◌∷◌, ◌≡◌, ◌∙◌, false, ap, sym}
use Rattle.clap.specs.Words.{App, AddsArg, AddsInTurn, Rule, app_of, rule_of, with_rule}
use Rattle.clap.specs.declared.builder.arg.Arg.{Arg}
use Rattle.clap.specs.declared.builder.command.Command.{Command}

-- a command with these rules in turn
abbrev pub with_rules : App → List Rule → App
with_rules a [] = a
with_rules a (r ∷ rs) = with_rules (with_rule a r) rs

-- each argument has its rule, and none is global
abbrev pub HaveRules : List Arg → List Rule → Type 0
HaveRules [] [] = Unit {0}
HaveRules (x ∷ xs) (r ∷ rs) = (x.global ≡ false) × (rule_of x ≡ r) × HaveRules xs rs
HaveRules [] (r ∷ rs) = ⊥
HaveRules (x ∷ xs) [] = ⊥

-- a command that takes arguments in turn has their rules in turn
pub added-in-turn : (old new : Command) (xs : List Arg) (rs : List Rule) → AddsInTurn AddsArg old xs new → HaveRules xs rs
    → app_of new ≡ with_rules (app_of old) rs
added-in-turn old new [] [] same have = ap app_of (sym same)
added-in-turn old new (x ∷ xs) (r ∷ rs) added have =
    added-in-turn added.0 new xs rs added.2 have.2 ∙ ap (λ (a : App). with_rules a rs) (added.1.shape have.0 ∙ ap (with_rule (app_of old)) have.1)
added-in-turn old new [] (r ∷ rs) same have = absurd have
added-in-turn old new (x ∷ xs) [] added have = absurd have
