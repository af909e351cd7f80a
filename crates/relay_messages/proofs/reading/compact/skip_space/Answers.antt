use Rattle.std.proofs.Common.{◌∷◌, [], refl, inl}
use Rattle.relay_messages.proofs.reading.compact.skip_space.Goals as goal

pub returns-in-Some : goal.returns-in-Some
returns-in-Some c = record { gap = 32 ∷ []; is_gap = (inl refl, tt); written = c.in-Some.ensures }

pub returns-in-None : goal.returns-in-None
returns-in-None c = record { gap = []; is_gap = tt; written = refl }
