use Rattle.std.proofs.Common.{◌<◌, ◌||◌, ◌∙◌, sym, ap₂, subst, true≢false}
use Rattle.relay_hall.specs.Keys.{is_owner}
use Rattle.relay_hall.proofs.Owned.{any_more}
use Rattle.relay_hall.proofs.boards.owns_any.Goals as goal
use Rattle.relay_hall.proofs.boards.owns_any.Goals.{in-Some, in_default}

pub loop-place-preserved : goal.loop-place-preserved
loop-place-preserved c =
    let key = c.args.speaker.now.key in
    let boards = c.args.boards.now.entries in
    elim c.match-get_index.branch [
      | in-Some w ↦
          w.owns-is
          ∙ ap₂ (λ a b. a || b) c.loop-place.invariant w.shares_with-owns.ensures
          ∙ sym (any_more (λ e. is_owner key e.1.owner.key) boards c.loop-place.place (w.in-Some.field-0-0.now, w.in-Some.hosted.now) (sym w.in-Some.ensures.entry))
      | in_default w ↦ absurd (true≢false (sym (w.in_default.ensures.found.1 (subst (λ n. c.loop-place.place < n) c.len-place-end.ensures.len c.loop-place-test.true))))
    ]
