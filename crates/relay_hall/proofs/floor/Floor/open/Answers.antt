use Rattle.std.proofs.Common.{refl, sym, ◌∙◌}
use Rattle.std.specs.HashMap.{spare}
use Rattle.indexmap.proofs.CallerLemmas.{insert_entry-new}
use Rattle.relay_core.specs.Name.{same_name}
use Rattle.relay_core.specs.Refusals.{first_refusal, open_grounds}
use Rattle.relay_hall.specs.Inner.{state_of}
use Rattle.relay_hall.specs.declared.hosted.Hosted.{Hosted}
use Rattle.relay_hall.proofs.Floors.{is_new, open_lives, open_makes, open_none_makes, open_refused_makes}
use Rattle.relay_hall.proofs.floor.Floor.open.Goals as goal

pub returns-in-Err : goal.returns-in-Err
returns-in-Err c =
    let a = c.self.inside in
    rw (← c.self.view_is)
    (open_refused_makes (state_of a) a.boards.entries refl c.args.board c.args.start c.in-Err.refusal
    (sym c.in-Err.is ∙ c.may_open.ensures
    ∙ (λ i. first_refusal (open_grounds (c.contains_key-is_named.ensures i) c.args.start (c.len.ensures.len i) (c.boards.ensures.value i)))))

pub returns-in_default-begin : goal.returns-in_default-begin
returns-in_default-begin c =
    let a = c.self.inside in
    rw (← c.self.view_is)
    (open_none_makes (state_of a) a.boards.entries refl c.args.board c.args.start c.in_default.field-0
    (sym c.in_default.is ∙ c.may_open.ensures
    ∙ (λ i. first_refusal (open_grounds (c.contains_key-is_named.ensures i) c.args.start (c.len.ensures.len i) (c.boards.ensures.value i)))))

pub invariant_of-self : goal.invariant_of-self
invariant_of-self c =
    let a = c.self.inside in
    let h : Hosted = record { board = c.in-Ok.live; owner = a.speaker } in
    let fine = sym c.in_default.is ∙ c.may_open.ensures
    ∙ (λ i. first_refusal (open_grounds (c.contains_key-is_named.ensures i) c.args.start (c.len.ensures.len i) (c.boards.ensures.value i))) in
    let none = is_new (state_of a) a.boards.entries refl c.args.board c.args.start c.in_default.field-0 fine in
    let last = c.in-Ok-insert.ensures.entries ∙ insert_entry-new same_name a.boards c.args.board h none in
    open_lives (state_of a) a.boards.entries refl c.args.board c.args.start c.in_default.field-0 fine c.insert.new.self.entries h last c.in-Ok.ensures.knows refl
    (spare a.boards) (spare c.insert.new.self) c.self.invariant c.insert.ensures.spare

pub returns : goal.returns
returns c =
    let a = c.self.inside in
    let h : Hosted = record { board = c.in-Ok.live; owner = a.speaker } in
    let fine = sym c.in_default.is ∙ c.may_open.ensures
    ∙ (λ i. first_refusal (open_grounds (c.contains_key-is_named.ensures i) c.args.start (c.len.ensures.len i) (c.boards.ensures.value i))) in
    let none = is_new (state_of a) a.boards.entries refl c.args.board c.args.start c.in_default.field-0 fine in
    let last = c.in-Ok-insert.ensures.entries ∙ insert_entry-new same_name a.boards c.args.board h none in
    rw (← c.self.view_is)
    (open_makes (state_of a) a.boards.entries refl c.args.board c.args.start c.in_default.field-0 fine c.insert.new.self.entries h last c.in-Ok.ensures.knows refl)
