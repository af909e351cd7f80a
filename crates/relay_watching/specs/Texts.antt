-- The texts that a spectator is sent: the answers of the relay's protocol, byte for byte.
use Rattle.std.specs.Prelude.{ℕ, List}
use Rattle.c960_board.specs.declared.parts.Parts.{Parts}
use Rattle.c960_board.specs.Moves.{Triple}
use Rattle.c960_game.specs.declared.outcome.Outcome.{Outcome}
use Rattle.relay_core.specs.declared.reply.Reply.TheVariants.{Following, Took}
use Rattle.relay_core.specs.declared.reply.Taken.TheVariants.{Move, Over}
use Rattle.relay_messages.specs.Answers.{answer_text}
use Rattle.relay_messages.specs.declared.answer.Answer.TheVariants.{Reply}

-- of a spectator that joins at this place of the log, with this position
unfoldable pub following_answer : ℕ → Parts → List ℕ
following_answer place position = answer_text (Reply (Following place position))

-- of a move, with its place in the log
unfoldable pub move_answer : ℕ → Triple → List ℕ
move_answer place m = answer_text (Reply (Took (Move place m)))

-- of the end of the game
unfoldable pub over_answer : Outcome → List ℕ
over_answer outcome = answer_text (Reply (Took (Over outcome)))
