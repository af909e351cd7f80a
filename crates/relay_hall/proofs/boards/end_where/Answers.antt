use Rattle.std.proofs.Common.{◌≡◌, Bool, ◌+◌, ℕ, suc, slice_get, sym, ap, ◌∙◌, subst, arith}
use Rattle.std.specs.Option.{option_copied_mut}
use Rattle.indexmap.specs.IndexMap.{set_value_at}
use Rattle.indexmap.proofs.CallerLemmas.{index_map_len-with_value_at}
use Rattle.relay_core.proofs.lemmas.Lists.{done_one_more, done_up_to}
use Rattle.relay_core.specs.Held.Stands.{IsKept}
use Rattle.relay_hall.specs.declared.owner.Owner.{Owner}
use Rattle.relay_hall.specs.declared.hosted.Hosted.{Hosted}
use Rattle.relay_hall.specs.Hosting.{Entries, abandoned_by, held_by}
use Rattle.relay_hall.proofs.Lists.{entry_at}
use Rattle.relay_hall.proofs.Sweeps.{kept_one}
use Rattle.relay_hall.proofs.boards.end_where.Goals as goal

pub loop-at-preserved : goal.loop-at-preserved
loop-at-preserved g c =
    let gone : Owner → Bool = g.L.Leaver.gone c.args.left.now in
    let was = c.loop-at.invariant in
    let m = c.loop-at.boards in
    let at = c.loop-at.at in
    let h = c.in-Some.hosted.now in
    let e = entry_at m.entries at h (sym c.get_index_mut.ensures.value ∙ ap option_copied_mut c.in-Some.is) in
    let next : suc at ≡ at + 1 = omega arith in
    record {
      done =
          ap (set_value_at m.entries at) c.abandon-has_ended.ensures
          ∙ ap (λ (es : Entries). set_value_at es at (abandoned_by gone h)) was.done
          ∙ done_one_more (abandoned_by gone) c.args.boards.now.entries at e.0 h (ap (λ (es : Entries). slice_get es at) (sym was.done) ∙ e.1)
          ∙ ap (λ (n : ℕ). done_up_to (abandoned_by gone) n c.args.boards.now.entries) next;
      kept = λ limits kept. subst (λ (w : Hosted). IsKept (held_by limits (set_value_at m.entries at w))) (sym c.abandon-has_ended.ensures)
          (kept_one limits m at e.0 h c.get_index_mut.ensures.unique e.1 gone (was.kept limits kept));
      room = was.room;
      counted = index_map_len-with_value_at m at c.abandon-has_ended.new.self ∙ was.counted;
    }
