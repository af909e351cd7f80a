-- What is handed out is a follower of the board of its name, and its connection is told of it.
use Rattle.std.proofs.Common.{◌≡◌, ℕ, List, ◌++◌, length, Option, None, Some, Ok, Err, inl, inr, refl, sym, ap, ◌∙◌, subst, arith}
use Rattle.std.proofs.lemmas.Option.{none-some, same_Some}
use Rattle.std.specs.Map.{lookup}
use Rattle.c960_game.specs.Positions.{last_position}
use Rattle.relay_core.specs.Name.{same_name}
use Rattle.relay_core.specs.declared.reply.Reply.{Reply}
use Rattle.relay_core.specs.declared.reply.Reply.TheVariants.{Following}
use Rattle.relay_core.specs.declared.step.Step.{Step}
use Rattle.relay_core.specs.declared.step.Step.TheVariants.{Open, Submit, End, Follow, Take, Leave}
use Rattle.relay_frames.specs.Frames.{text_frame}
use Rattle.relay_messages.specs.Answers.{answer_text}
use Rattle.relay_messages.specs.declared.answer.Answer.TheVariants as answers
use Rattle.live_board.specs.declared.view.Part.{Part}
use Rattle.live_board.specs.Seats.{FollowerSeat}
use Rattle.relay_hall.specs.declared.handed.Handed.{Handed}
use Rattle.relay_hall.specs.declared.owner.Owner.{Owner}
use Rattle.relay_hall.specs.Record.{FloorRecord, HallBoard, HallRecord}
use Rattle.relay_hall.specs.Runs.{IsOneStep}
use Rattle.relay_hall.specs.Steps.{FollowsAs, Makes, board_limits, newcomer_at}
use Rattle.relay_hall.specs.Telling.{Tells}
use Rattle.relay_service.specs.Following.Boards.{IsHandedIn}
use Rattle.relay_service.specs.Following.Served.{IsOpening}

pub told_of : (f : FollowerSeat) (reply : Reply) (earlier : List ℕ) → Tells f reply → IsOpening (earlier ++ text_frame (answer_text (answers.Reply reply))) f.part
told_of f reply earlier tells = record {
  earlier = earlier;
  told =
      ap (λ (r : Reply). earlier ++ text_frame (answer_text (answers.Reply r)))
      (tells.is ∙ ap (λ (n : ℕ). Following n (last_position f.part.setup.start f.part.before)) tells.joined);
}

module _ (f : FloorRecord) (name : List ℕ) (from : Option ℕ) where
  found_in : (o : Option HallBoard) → lookup (same_name name) f.boards ≡ o → (reply : Reply) (h : Handed) → FollowsAs f name from o reply (Some h) → IsHandedIn f h
  found_in None at reply h made = absurd (none-some h (sym made.1))
  found_in (Some b) at reply h (Err refusal, hands, is, has) = absurd (none-some h (sym has))
  found_in (Some b) at reply h (Ok r, hands, is, has) = subst (IsHandedIn f) (sym (same_Some _ _ has)) (record {
    board = b;
    found = at;
    table = hands.table;
    within =
        let p = r.0.part in
        let w = hands.sound.within in
        let seen : p.seen ≡ length b.game.log = ap (λ (q : Part). q.seen) hands.part in
        let none = ap (λ (q : Part). length q.taken) hands.part in
        omega (arith, w, seen);
    part = hands.part ∙ ap (newcomer_at (board_limits f.limits) b.game r.0.part.slot) (sym (ap (λ (q : Part). q.joined) hands.part));
  })

made_in : (f l : FloorRecord) (speaker : Owner) (step : Step) (reply : Reply) (h : Handed) → Makes f speaker step reply (Some h) l → IsHandedIn l h
made_in f l speaker (Follow who name from) reply h made = subst (λ (x : FloorRecord). IsHandedIn x h) (sym made.1) (found_in f name from (lookup (same_name name) f.boards) refl reply h made.0)
made_in f l speaker (Open name start) reply h made = absurd (none-some h (sym made.1))
made_in f l speaker (Submit name m) reply h made = absurd (none-some h (sym made.2))
made_in f l speaker (End name ending) reply h made = absurd (none-some h (sym made.2))
made_in f l speaker (Take who) reply h made = absurd (none-some h (sym made.2))
made_in f l speaker (Leave who) reply h made = absurd (none-some h (sym made.2))

pub handed_in : (k l : HallRecord) (speaker : Owner) (h : Handed) → IsOneStep k speaker (Some h) l → IsHandedIn l.floor h
handed_in k l speaker h (inl (step, reply, s)) = made_in k.floor l.floor speaker step reply h s.0
handed_in k l speaker h (inr (l-is, none)) = absurd (none-some h (sym none))
