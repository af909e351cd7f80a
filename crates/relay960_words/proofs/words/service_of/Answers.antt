use Rattle.std.proofs.Common.{codes, ◌∙◌}
use Rattle.clap.specs.Words.{found_of}
use Rattle.clap.proofs.WalkLemmas.{first_value-rows}
use Rattle.relay960_words.proofs.Reading.{number_read}
use Rattle.relay960_words.proofs.words.service_of.Goals as goal

pub returns : goal.returns
returns c =
    let f = found_of c.args.given.now in
    let p = c.in_ok-value_of.ensures in
    let g = c.in_ok-value_of-2.ensures in
    let i = c.in_ok-value_of-3.ensures in
    record {
      port = number_read f (codes "port") c.in_ok-value_of.field-0 p.0 p.1 p.2.0.0.0 p.2.0.1;
      connections = c.in_ok-connections_of.ensures;
      until_input_ends = c.in_ok-flag_of.ensures;
      grace = number_read f (codes "grace") c.in_ok-value_of-2.field-0 g.0 g.1 g.2.0.0.0 g.2.0.1;
      idle = number_read f (codes "idle") c.in_ok-value_of-3.field-0 i.0 i.1 i.2.0.0.0 i.2.0.1;
      log = c.in_ok-flag_of-2.ensures;
      limits = c.in_ok-limits_of.ensures;
      watch = c.in_ok-watch_of.ensures;
      journal = c.get_str.ensures ∙ first_value-rows f (codes "journal");
    }
