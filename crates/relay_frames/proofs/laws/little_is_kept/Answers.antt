use Rattle.relay_frames.proofs.lemmas.Hearings.{little_kept}
use Rattle.relay_frames.proofs.laws.little_is_kept.Goals as goal

pub returns : goal.returns
returns c = little_kept
