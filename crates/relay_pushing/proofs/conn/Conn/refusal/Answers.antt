use Rattle.std.proofs.Common.{refl}
use Rattle.relay_pushing.proofs.conn.Conn.refusal.Goals as goal

pub returns-then-is_owner-clause-some : goal.returns-then-is_owner-clause-some
returns-then-is_owner-clause-some g c = rw c.in-Follow.is (c.is_owner.ensures.some c.if-is_owner.true, refl)
