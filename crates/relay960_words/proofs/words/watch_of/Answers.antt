use Rattle.std.proofs.Common.{rules, codes, sym, ◌≡◌, ◌∙◌, None, Some}
use Rattle.clap.specs.Words.{first_value, found_of}
use Rattle.clap.proofs.WalkLemmas.{first_value-rows}
use Rattle.relay960_words.proofs.Reading.{number_read}
use Rattle.relay960_words.proofs.words.watch_of.Goals as goal

pub returns-in_default : goal.returns-in_default
returns-in_default c =
    let f = found_of c.args.given.now in
    let none : first_value f (codes "watch") ≡ None = search rules in
    sym (first_value-rows f (codes "watch")) ∙ none

pub returns : goal.returns
returns c =
    let f = found_of c.args.given.now in
    let text : first_value f (codes "watch") ≡ Some c.in-Some.text.now = search rules in
    let threads = c.in_ok-value_of.ensures in
    let most = c.in_ok-value_of-2.ensures in
    record {
      text = c.in-Some.text.now;
      given = sym (first_value-rows f (codes "watch")) ∙ text;
      address = c.in_ok-address_of.ensures;
      threads = number_read f (codes "watch-threads") c.in_ok-value_of.field-0 threads.0 threads.1 threads.2.0.0.0 threads.2.0.1;
      most = number_read f (codes "watch-most") c.in_ok-value_of-2.field-0 most.0 most.1 most.2.0.0.0 most.2.0.1;
    }
