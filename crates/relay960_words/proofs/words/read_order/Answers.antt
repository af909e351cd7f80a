use Rattle.std.proofs.Common.{rules, map, ap, subst, sym, ◌≡◌, ◌≢◌, ◌∙◌}
use Rattle.clap.specs.Words.{App, HasKind, fault_of, is_simple, is_simple_and_free, kind_of, subcommand_of}
use Rattle.clap.specs.declared.error.kind.ErrorKind.TheVariants.{DisplayVersion}
use Rattle.relay960_words.proofs.Reading.{only_memory, program_is_free, program_is_simple, version_asks}
use Rattle.relay960_words.proofs.words.read_order.Goals as goal

pub returns-in-Ok-clause-order : goal.returns-in-Ok-clause-order
returns-in-Ok-clause-order g c =
    let words = map g.S.AsStr.text c.args.words.now in
    let program_is = c.in_ok-program_command.ensures in
    c.given_order.ensures ((c.in-Ok.ensures.matches (ap is_simple program_is ∙ program_is_simple)).1 ∙ ap (λ (a : App). subcommand_of a words) program_is)

pub returns-in-Ok-clause-version : goal.returns-in-Ok-clause-version
returns-in-Ok-clause-version g c = λ asked.
    let words = map g.S.AsStr.text c.args.words.now in
    let program_is = c.in_ok-program_command.ensures in
    let none = c.in-Ok.ensures.kinds (ap is_simple_and_free program_is ∙ program_is_free) in
    let same = ap (λ (a : App). fault_of a words) program_is in
    let both = sym none ∙ same ∙ asked in
    absurd cc

pub returns-in-Err-clause-order : goal.returns-in-Err-clause-order
returns-in-Err-clause-order g c =
    let words = map g.S.AsStr.text c.args.words.now in
    let program_is = c.in_ok-program_command.ensures in
    let kinds = c.in-Err.ensures.kinds (ap is_simple_and_free program_is ∙ program_is_free) in
    let version : kind_of c.in-Err.error ≡ DisplayVersion = search rules in
    version_asks words c.in-Err.error (subst (λ (a : App). HasKind (fault_of a words) c.in-Err.error) program_is kinds) version

pub returns-in-Err-2-clause-version : goal.returns-in-Err-2-clause-version
returns-in-Err-2-clause-version g c = λ asked.
    let words = map g.S.AsStr.text c.args.words.now in
    let program_is = c.in_ok-program_command.ensures in
    let kinds = c.in-Err.ensures.kinds (ap is_simple_and_free program_is ∙ program_is_free) in
    let other : kind_of c.in-Err.error ≢ DisplayVersion = search rules in
    only_memory words c.in-Err.error (subst (λ (a : App). HasKind (fault_of a words) c.in-Err.error) program_is kinds) asked other
