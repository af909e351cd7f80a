use Rattle.std.proofs.Common.{length, length-append, is_some, sym, ◌∙◌, arith}
use Rattle.std.specs.Map.{lookup}
use Rattle.indexmap.proofs.CallerLemmas.{insert_entry-new}
use Rattle.relay_core.specs.Name.{same_name}
use Rattle.relay_core.specs.Refusals.{first_refusal, open_grounds}
use Rattle.relay_core.proofs.lemmas.Opened.{open_no_memory, open_refused}
use Rattle.c960_board.proofs.lemmas.Tests.{none_of}
use Rattle.relay_core.proofs.lemmas.Refusals.{opened_where}
use Rattle.relay_core.proofs.lemmas.Standing.{shown_is, stands, stays}
use Rattle.relay_live.specs.Live.{held_of, held_by}
use Rattle.relay_live.proofs.Opens.{goes, lives, told}
use Rattle.relay_live.proofs.holdings.Holdings.open.Goals as goal

pub returns-in-Err-clause-stands : goal.returns-in-Err-clause-stands
returns-in-Err-clause-stands c =
    let a = c.self.inside in
    stays (held_of a) _ _ c.self.invariant.0.kept _ (shown_is c.self.view_is)
    (open_refused (held_of a) c.args.board c.args.start c.in-Err.refusal
    (sym c.in-Err.is ∙ c.may_open.ensures
    ∙ (λ i. first_refusal (open_grounds (c.contains_key-is_named.ensures i) c.args.start (c.len.ensures.len i) (c.boards.ensures.value i)))
    ∙ told a.limits a.boards.entries a.followers.entries c.args.board c.args.start))

pub returns-in_default-open-clause-stands : goal.returns-in_default-open-clause-stands
returns-in_default-open-clause-stands c =
    let a = c.self.inside in
    stays (held_of a) _ _ c.self.invariant.0.kept _ (shown_is c.self.view_is)
    (open_no_memory (held_of a) c.args.board c.args.start c.in_default.field-0
    (sym c.in_default.is ∙ c.may_open.ensures
    ∙ (λ i. first_refusal (open_grounds (c.contains_key-is_named.ensures i) c.args.start (c.len.ensures.len i) (c.boards.ensures.value i)))
    ∙ told a.limits a.boards.entries a.followers.entries c.args.board c.args.start))

pub invariant_of-self : goal.invariant_of-self
invariant_of-self c =
    let a = c.self.inside in
    let fine = sym c.in_default.is ∙ c.may_open.ensures
    ∙ (λ i. first_refusal (open_grounds (c.contains_key-is_named.ensures i) c.args.start (c.len.ensures.len i) (c.boards.ensures.value i))) in
    let none = none_of (lookup (same_name c.args.board) a.boards.entries)
    (opened_where (is_some (lookup (same_name c.args.board) a.boards.entries)) c.args.start (length a.boards.entries) a.limits.boards c.in_default.field-0 fine).0 in
    let last = c.in-Ok-insert.ensures.entries ∙ insert_entry-new same_name a.boards c.args.board c.in-Ok.live none in (
      lives a.limits a.boards.entries c.insert.new.self.entries a.followers.entries c.args.board c.args.start c.self.invariant.0 c.in-Ok.live c.in_default.field-0 fine
          c.in-Ok.ensures.knows c.in-Ok.ensures.sound last,
      grind (arith, length-append, last, c.insert.ensures.spare, c.self.invariant.1),
    )

pub returns-clause-stands : goal.returns-clause-stands
returns-clause-stands c =
    let a = c.self.inside in
    let fine = sym c.in_default.is ∙ c.may_open.ensures
    ∙ (λ i. first_refusal (open_grounds (c.contains_key-is_named.ensures i) c.args.start (c.len.ensures.len i) (c.boards.ensures.value i))) in
    let none = none_of (lookup (same_name c.args.board) a.boards.entries)
    (opened_where (is_some (lookup (same_name c.args.board) a.boards.entries)) c.args.start (length a.boards.entries) a.limits.boards c.in_default.field-0 fine).0 in
    stands (held_of a) (held_by a.limits c.insert.new.self.entries a.followers.entries) _ _ c.self.invariant.0.kept _ (shown_is c.self.view_is)
    (goes a.limits a.boards.entries c.insert.new.self.entries a.followers.entries c.args.board c.args.start c.self.invariant.0 c.in-Ok.live c.in_default.field-0 fine
    c.in-Ok.ensures.knows c.in-Ok.ensures.sound (c.in-Ok-insert.ensures.entries ∙ insert_entry-new same_name a.boards c.args.board c.in-Ok.live none))
