use Rattle.std.proofs.Common.{◌≡◌, Option, Some, sym, ap, ◌∙◌, subst}
use Rattle.std.specs.Prelude.{MatchOption}
use Rattle.std.specs.Map.{lookup}
use Rattle.std.specs.Option.{option_copied_mut}
use Rattle.relay_core.specs.Name.{same_name}
use Rattle.relay_hall.specs.declared.hosted.Hosted.{Hosted}
use Rattle.relay_hall.specs.Hosting.{HandsAt}
use Rattle.relay_hall.proofs.boards.hand_out.Goals as goal

on_found : (o : Option Hosted) (h : Hosted) (P Q : Type 0) → o ≡ Some h → Q → MatchOption o P (λ _. Q)
on_found o h P Q is q = subst (λ (x : Option Hosted). MatchOption x P (λ _. Q)) (sym is) q

pub returns-clause-answer : goal.returns-clause-answer
returns-clause-answer c =
    let found : lookup (same_name c.args.board) c.args.boards.now.entries ≡ Some c.in-Some.hosted.now = sym c.get_mut.ensures.value ∙ ap option_copied_mut c.in-Some.is in
    subst (λ (o : Option Hosted). HandsAt o c.args.from c.follow.result) (sym found) c.follow.ensures.answer

pub returns-clause-turned : goal.returns-clause-turned
returns-clause-turned c =
    let found : lookup (same_name c.args.board) c.args.boards.now.entries ≡ Some c.in-Some.hosted.now = sym c.get_mut.ensures.value ∙ ap option_copied_mut c.in-Some.is in
    on_found (lookup (same_name c.args.board) c.args.boards.now.entries) c.in-Some.hosted.now _ _ found (c.in-Some.hosted.now, c.follow.new.self, found, c.follow.ensures.turned, (c.get_mut.follows.holds c.follow.new.self).0)
