use Rattle.std.proofs.Common.{rules, codes, ◌≡◌, ◌≢◌, ◌∙◌, false, true, Some, subst}
use Rattle.clap.specs.Words.{found_of, rows_of}
use Rattle.clap.specs.declared.parser.matches.ValueSource.TheVariants.{CommandLine}
use Rattle.relay960_words.specs.CommandLine.{HasFlag}
use Rattle.relay960_words.proofs.Reading.{number_read, source-rows}
use Rattle.relay960_words.proofs.words.connections_of.Goals as goal

pub returns-then-not-branch : goal.returns-then-not-branch
returns-then-not-branch c =
    let f = found_of c.args.given.now in
    let n = c.in_ok-value_of.ensures in
    let unset : c.in_ok-flag_of.field-0 ≡ false = search rules in
    (subst (HasFlag (rows_of f) (codes "forever")) unset c.in_ok-flag_of.ensures, number_read f (codes "connections") c.in_ok-value_of.field-0 n.0 n.1 n.2.0.0.0 n.2.0.1)

pub returns-in_default : goal.returns-in_default
returns-in_default c =
    let f = found_of c.args.given.now in
    let set : c.in_ok-flag_of.field-0 ≡ true = search rules in
    let other : c.value_source.result ≢ Some CommandLine = search rules in
    (subst (HasFlag (rows_of f) (codes "forever")) set c.in_ok-flag_of.ensures, λ given. other (c.value_source.ensures ∙ (source-rows f (codes "connections") ∙ given)))
