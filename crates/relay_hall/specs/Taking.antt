-- What a take of what was handed out may answer.
use Rattle.std.specs.Prelude.{◌≡◌}
use Rattle.relay_core.specs.declared.reply.Taken.{Taken}
use Rattle.live_board.specs.Takes.{Stays, Took, TookOfGame}
use Rattle.relay_hall.specs.declared.handed.Handed.{Handed}

-- a take of the follower gives this answer, and leads from h to k of the same board; what it has taken is of a legal game
abbrev pub Gives : Handed → Taken → Handed → Type 0
Gives h taken k = (k.board ≡ h.board) × Stays h.follower k.follower × Took h.follower k.follower taken × TookOfGame k.follower.part taken
