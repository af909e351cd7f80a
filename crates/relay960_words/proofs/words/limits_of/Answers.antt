use Rattle.std.proofs.Common.{codes}
use Rattle.clap.specs.Words.{found_of}
use Rattle.relay960_words.proofs.Reading.{number_read}
use Rattle.relay960_words.proofs.words.limits_of.Goals as goal

pub returns-in-Some : goal.returns-in-Some
returns-in-Some c =
    let f = found_of c.args.given.now in
    let b = c.in_ok-value_of.ensures in
    let w = c.in_ok-value_of-2.ensures in
    let q = c.in_ok-value_of-3.ensures in
    let p = c.in_ok-value_of-4.ensures in
    rw c.in-Some.ensures.value (record {
      boards = number_read f (codes "boards") c.in_ok-value_of.field-0 b.0 b.1 b.2.0.0.0 b.2.0.1;
      followers = number_read f (codes "followers") c.in_ok-value_of-2.field-0 w.0 w.1 w.2.0.0.0 w.2.0.1;
      capacity = number_read f (codes "capacity") c.in_ok-value_of-3.field-0 q.0 q.1 q.2.0.0.0 q.2.0.1;
      plies = number_read f (codes "plies") c.in_ok-value_of-4.field-0 p.0 p.1 p.2.0.0.0 p.2.0.1;
    })
