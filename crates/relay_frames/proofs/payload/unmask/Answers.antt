use Rattle.std.proofs.Common.{ℕ, ◌+◌, ◌-◌, arith, length-take, length-drop}
use Rattle.std.proofs.lemmas.Slice.{drop-put_mid}
use Rattle.relay_frames.proofs.payload.unmask.Goals as goal

pub returns-in-Some-clause-after : goal.returns-in-Some-clause-after
returns-in-Some-clause-after c =
    drop-put_mid c.args.start (c.args.start + c.args.size - c.args.start) c.args.bytes.now c.apply_mask.new.buf (c.args.start + c.args.size) (omega arith) (omega arith)
    (omega (arith, length-take {A = ℕ}, length-drop {A = ℕ}))
