use Rattle.std.proofs.Common.{refl}
use Rattle.relay_journal.specs.Inner.{scribe_of}
use Rattle.relay_journal.proofs.Written.{written_if_committed}
use Rattle.relay_journal.proofs.scribe.Scribe.commit.Goals as goal

pub returns-clause-written : goal.returns-clause-written
returns-clause-written g c = rw (← c.self.view_is) (λ f was.
    written_if_committed g.S.StableStorage.contents g.S.StableStorage.synced c.commit-committed.result (scribe_of c.self.inside) _ f refl
    c.is_err-self-inside.ensures.value c.commit-committed.ensures.committed c.commit-committed.ensures.unknown was)
