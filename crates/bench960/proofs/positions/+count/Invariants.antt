-- The plies fall with each call.
use Rattle.bench960.proofs.positions.+count.Given as goal

abbrev pub decreases-count : goal.decreases-count
decreases-count l = l.plies
