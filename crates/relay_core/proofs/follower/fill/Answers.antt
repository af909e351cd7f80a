use Rattle.std.proofs.Common.{◌≡◌, sym, ap, ◌∷◌, ◌++◌, [], List, ◌∙◌, arith}
use Rattle.circular_buffer.specs.Buffer.{Buffer, buffer}
use Rattle.c960_board.specs.Moves.{Triple}
use Rattle.relay_core.proofs.lemmas.Stretches.{stretch_more}
use Rattle.relay_core.proofs.follower.fill.Goals as goal

pub loop-at-preserved : goal.loop-at-preserved
loop-at-preserved c =
    let e : c.try_push_back.new.self ≡ buffer (c.loop-at.queue.items ++ c.in-Some.m ∷ []) c.loop-at.queue.capacity =
    rw c.unwrap.ensures at c.try_push_back.ensures.ok in
    record {
      filled = ap (λ (b : Buffer Triple). b.items) e ∙ ap (λ (l : List Triple). l ++ c.in-Some.m ∷ []) c.loop-at.invariant.filled
          ∙ sym (stretch_more c.args.place c.loop-at.at c.args.game.now.log c.in-Some.m (omega arith)
          (sym c.move_at.ensures ∙ c.in-Some.is));
      capacity = ap (λ (b : Buffer Triple). b.capacity) e ∙ c.loop-at.invariant.capacity;
    }
