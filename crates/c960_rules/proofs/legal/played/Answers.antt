use Rattle.std.proofs.Common.{sym, subst}
use Rattle.c960_board.specs.declared.parts.Parts.{Parts}
use Rattle.c960_rules.specs.Check.{IsLawful}
use Rattle.c960_rules.proofs.lemmas.AfterFacts.{after_lawful}
use Rattle.c960_rules.proofs.legal.played.Goals as goal

pub of_position-requires : goal.of_position-requires
of_position-requires c =
    let lawful = after_lawful c.args.position.now c.args.m.now c.requires.legal in
    subst (λ (p : Parts). IsLawful p) (sym c.after.ensures) lawful
