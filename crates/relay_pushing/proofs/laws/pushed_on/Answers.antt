use Rattle.relay_pushing.proofs.lemmas.Turns as turns
use Rattle.relay_pushing.proofs.laws.pushed_on.Goals as goal

pub returns : goal.returns
returns g c = λ s m t old mid new end first then. turns.pushed_on _ s m t old mid new end first then
