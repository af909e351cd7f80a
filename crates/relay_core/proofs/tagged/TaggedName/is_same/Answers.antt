use Rattle.relay_core.proofs.NameFacts.{told_apart}
use Rattle.relay_core.proofs.tagged.TaggedName.is_same.Goals as goal

pub returns-else-self-other : goal.returns-else-self-other
returns-else-self-other c =
    rw (← c.self.view_is, ← c.other.view_is)
    (told_apart c.self.inside.name c.other.inside.name c.self.inside.tag c.other.inside.tag c.self.invariant c.other.invariant
    c.if-self-other.false)
