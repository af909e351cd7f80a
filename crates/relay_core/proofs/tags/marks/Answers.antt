use Rattle.std.proofs.Common.{eqb, arith, w32}
use Rattle.std.proofs.lemmas.Simd.{length-chunk, bitmask_splat}
use lib.Lanes.{chunk}
use Rattle.relay_core.proofs.tags.marks.Goals as goal

pub returns : goal.returns
returns c =
    bitmask_splat w32 eqb (chunk c.args.at 64 c.args.tags.now) 64 c.args.tag (length-chunk c.args.at 64 c.args.tags.now c.requires) (omega arith)
