-- What a follower has taken is a stretch of the log of a legal game.
use Rattle.std.proofs.Common.{◌≡◌, ℕ, ◌+◌, ◌<◌, List, [], ◌∷◌, ◌++◌, length, take, Option, Some, sym, ap, ◌∙◌, subst, arith, length-append}
use Rattle.std.proofs.Math.Seq.{get_or-append_seam}
use Rattle.std.proofs.lemmas.List.{get_or-take, get_or-drop}
use Rattle.c960_board.specs.Moves.{Triple}
use Rattle.relay_core.specs.declared.reply.Taken.{Taken}
use Rattle.relay_core.specs.declared.reply.Taken.TheVariants.{Move, Nothing, Over, Cut}
use Rattle.live_board.specs.SharedBoard.{no_move, move_at}
use Rattle.live_board.specs.declared.view.Part.{Part}
use Rattle.live_board.specs.Views.{next_of}
use Rattle.live_board.specs.Sound.{BearsOut, IsSoundPart}
use Rattle.live_board.specs.Seats.{FollowerSeat}
use Rattle.live_board.specs.Takes.{Stays, Took, TookOfGame}
use Rattle.live_board.proofs.lemmas.Headlines.{taken_stretch}

-- the move that was taken last is the log's
last_taken : (log : List Triple) (closing : Option ℕ) (p q : Part) (m : Triple) → BearsOut log closing q → q.joined ≡ p.joined → q.taken ≡ p.taken ++ m ∷ []
    → (next_of p < length log) × (m ≡ move_at log (next_of p))
last_taken log closing p q m h joined taken =
    let long : length q.taken ≡ length p.taken + 1 = ap length taken ∙ length-append p.taken (m ∷ []) in
    let reached = h.reached in
    let high = reached.0 in
    let short = reached.1 in
    let less : length p.taken < length q.taken = omega arith in (
      omega arith,
      sym (get_or-append_seam p.taken m [] no_move) ∙ ap (λ (x : List Triple). move_at x (length p.taken)) (sym taken ∙ taken_stretch log closing q h)
          ∙ get_or-drop q.joined (take (next_of q) log) (length p.taken) no_move ∙ get_or-take (next_of q) log (q.joined + length p.taken) no_move (omega arith)
          ∙ ap (λ (k : ℕ). move_at log (k + length p.taken)) joined,
    )

-- what a take did concerns a legal game
pub took_of_game : (f g : FollowerSeat) (taken : Taken) → Stays f g → Took f g taken → IsSoundPart g.part → TookOfGame g.part taken
took_of_game f g (Move place m) stays took s =
    let t = last_taken s.log s.closed_at f.part g.part m s.headline stays.3 took.1 in
    (s.log, s.closed_at, s.headline, subst (λ (k : ℕ). (k < length s.log) × (m ≡ move_at s.log k)) (sym took.0) t)
took_of_game f g Nothing stays took s = (s.log, s.closed_at, s.headline, took.0.2)
took_of_game f g (Over outcome) stays took s =
    let t = s.headline.over outcome took.1 in
    (s.log, s.closed_at, s.headline, (took.0.2 ∙ t.1, t.0))
took_of_game f g Cut stays took s =
    (s.log, s.closed_at, s.headline, s.headline.closed (next_of g.part) (subst (λ (h : FollowerSeat). h.part.closing ≡ Some (next_of h.part)) (sym took.0) took.1))
