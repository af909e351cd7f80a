-- The texts of answers: compact JSON objects whose keys are in the order of their bytes.
use Rattle.std.specs.Prelude.{ℕ, Bool, true, false, List, [], ◌∷◌, Option, Some, None, option_map, codes, decimal}
use Rattle.std.specs.List.{concat}
use Rattle.c960_board.specs.declared.parts.Parts.{Parts}
use Rattle.c960_board.specs.Fen.Canonical.{canonical}
use Rattle.c960_board.specs.Moves.{Triple}
use Rattle.c960_board.specs.MoveTexts.{move_text}
use Rattle.c960_game.specs.declared.outcome.Outcome.{Outcome}
use Rattle.c960_game.specs.Outcome.{outcome_text}
use Rattle.c960_game.specs.Refusal.{refusal_code, refusal_name}
use Rattle.relay_core.specs.declared.reply.Account.{Account}
use Rattle.relay_core.specs.declared.reply.Reply.{Reply}
use Rattle.relay_core.specs.declared.reply.Reply.TheVariants.{Opened, Played, Ended, Following, Took, Left, Refused}
use Rattle.relay_core.specs.declared.reply.Taken.{Taken}
use Rattle.relay_core.specs.declared.reply.Taken.TheVariants.{Move, Nothing, Over, Cut}
use Rattle.relay_messages.specs.declared.answer.Answer.{Answer}
use Rattle.relay_messages.specs.declared.answer.Answer.TheVariants as answers
use Rattle.relay_messages.specs.declared.board_summary.BoardSummary.{BoardSummary}
use Rattle.relay_messages.specs.Faults.{message_fault_code, message_fault_name}

-- {"reply":"opened"} and the like
abbrev pub alone_text : List ℕ → List ℕ
alone_text reply = concat (codes "{\"reply\":\"" ∷ reply ∷ codes "\"}" ∷ [])

-- {"outcome":null,"place":0,"reply":"played"}, with the outcome's text if the move ends the game
abbrev pub played_text : ℕ → Option Outcome → List ℕ
played_text place None = concat (codes "{\"outcome\":null,\"place\":" ∷ decimal place ∷ codes ",\"reply\":\"played\"}" ∷ [])
played_text place (Some outcome) =
    concat (codes "{\"outcome\":\"" ∷ outcome_text outcome ∷ codes "\",\"place\":" ∷ decimal place ∷ codes ",\"reply\":\"played\"}" ∷ [])

-- {"outcome":"agreed","reply":"ended"} and the like
abbrev pub outcome_alone_text : Outcome → List ℕ → List ℕ
outcome_alone_text outcome reply =
    concat (codes "{\"outcome\":\"" ∷ outcome_text outcome ∷ codes "\",\"reply\":\"" ∷ reply ∷ codes "\"}" ∷ [])

-- {"fen":"FEN","joined":0,"reply":"following"}
abbrev pub following_text : ℕ → Parts → List ℕ
following_text joined position =
    concat (codes "{\"fen\":\"" ∷ canonical position ∷ codes "\",\"joined\":" ∷ decimal joined ∷ codes ",\"reply\":\"following\"}" ∷ [])

-- {"move":"e2e4","place":0,"reply":"move"}
abbrev pub moved_text : ℕ → Triple → List ℕ
moved_text place m =
    concat (codes "{\"move\":\"" ∷ move_text m ∷ codes "\",\"place\":" ∷ decimal place ∷ codes ",\"reply\":\"move\"}" ∷ [])

abbrev pub taken_text : Taken → List ℕ
taken_text (Move place m) = moved_text place m
taken_text Nothing = alone_text (codes "nothing")
taken_text (Over outcome) = outcome_alone_text outcome (codes "over")
taken_text Cut = alone_text (codes "cut")

abbrev pub flag_text : Bool → List ℕ
flag_text true = codes "true"
flag_text false = codes "false"

-- {"cut":false,"joined":0,"limit":0,"reply":"left","taken":0}
abbrev pub left_text : Account → List ℕ
left_text a =
    concat (codes "{\"cut\":" ∷ flag_text a.cut ∷ codes ",\"joined\":" ∷ decimal a.joined ∷ codes ",\"limit\":" ∷ decimal a.limit
    ∷ codes ",\"reply\":\"left\",\"taken\":" ∷ decimal a.taken ∷ codes "}" ∷ [])

-- {"code":6,"name":"Illegal","reply":"refused"}
abbrev pub refused_text : ℕ → List ℕ → List ℕ
refused_text code name = concat (codes "{\"code\":" ∷ decimal code ∷ codes ",\"name\":\"" ∷ name ∷ codes "\",\"reply\":\"refused\"}" ∷ [])

abbrev pub reply_text : Reply → List ℕ
reply_text Opened = alone_text (codes "opened")
reply_text (Played place outcome) = played_text place outcome
reply_text (Ended outcome) = outcome_alone_text outcome (codes "ended")
reply_text (Following joined position) = following_text joined position
reply_text (Took answer) = taken_text answer
reply_text (Left account) = left_text account
reply_text (Refused refusal) = refused_text (refusal_code refusal) (refusal_name refusal)

unfoldable pub answer_text : Answer → List ℕ
answer_text (answers.Reply reply) = reply_text reply
answer_text (answers.Fault fault) = refused_text (message_fault_code fault) (message_fault_name fault)

-- "e2e4", or null if there is no text
abbrev pub text_or_null : Option (List ℕ) → List ℕ
text_or_null (Some text) = concat (codes "\"" ∷ text ∷ codes "\"" ∷ [])
text_or_null None = codes "null"

-- {"board":"b1","fen":"FEN","last":"e2e4","outcome":null,"plies":12,"reply":"board","start":518}
abbrev pub board_text : BoardSummary → List ℕ
board_text b =
    concat (codes "{\"board\":\"" ∷ b.board ∷ codes "\",\"fen\":\"" ∷ canonical b.position ∷ codes "\",\"last\":"
    ∷ text_or_null (option_map move_text b.last) ∷ codes ",\"outcome\":" ∷ text_or_null (option_map outcome_text b.outcome)
    ∷ codes ",\"plies\":" ∷ decimal b.plies ∷ codes ",\"reply\":\"board\",\"start\":" ∷ decimal b.start ∷ codes "}" ∷ [])
