-- A connection stays at the board of its name, whatever happens in the hall and to itself.
use Rattle.std.proofs.Common.{◌≡◌, ◌+◌, ◌≤◌, ℕ, is_some, List, [], length, length-append, take, drop, Option, None, Some, IfSome, sym, ap, ◌∙◌, subst, arith}
use Rattle.std.proofs.lemmas.List.{take-append-le}
use Rattle.c960_board.specs.Moves.{Triple}
use Rattle.c960_game.specs.GameRecord.{GameRecord}
use Rattle.relay_core.proofs.lemmas.Stretches.{empty_here}
use Rattle.relay_core.specs.Following.{stretch}
use Rattle.live_board.specs.declared.view.Part.{Part}
use Rattle.live_board.specs.Seats.{FollowerSeat}
use Rattle.live_board.specs.Views.{next_of}
use Rattle.relay_frames.specs.Reading.{Reading}
use Rattle.relay_hall.specs.declared.handed.Handed.{Handed}
use Rattle.relay_hall.specs.declared.owner.Owner.{Owner}
use Rattle.relay_hall.specs.Meeting.{BoardsStay, StaysAs}
use Rattle.relay_hall.specs.Record.{FloorRecord, HallBoard, HallRecord}
use Rattle.relay_hall.specs.Runs.{HallEvent, HallStep, HallTold, IsOneStep}
use Rattle.relay_hall.proofs.lemmas.Staying.{once_stays, step_stays}
use Rattle.relay_service.specs.declared.following.stage.Stage.{Stage}
use Rattle.relay_service.specs.declared.following.stage.Stage.TheVariants.{Follows, Over, Cut, Left, Failed}
use Rattle.relay_service.specs.Following.Boards.{IsEndOf, IsHandedIn, IsIn, IsOf}
use Rattle.relay_service.specs.Following.Calls.{left, puts, wrote}
use Rattle.relay_service.specs.Following.Pieces.{Piece}
use Rattle.relay_service.specs.Following.Record.{DeliveryRecord, newcomer}

-- ---- The board goes on.

module _ (b e : HallBoard) (f : FollowerSeat) (stage : Stage) (stay : StaysAs b e) (of : IsOf b f stage) where
  longer : length e.game.log ≡ length b.game.log + length stay.log.0
  longer = ap length stay.log.1 ∙ length-append b.game.log stay.log.0

  closed : (o : Option ℕ) → IfSome o (λ n. (next_of f.part ≤ n) × (n ≤ length b.game.log)) → IfSome o (λ n. (next_of f.part ≤ n) × (n ≤ length e.game.log))
  closed None x = tt
  closed (Some n) (low, high) = (low, let l = longer in omega (arith, high, l))

  ended : (s : Stage) → IsEndOf b f.part s → IsEndOf e f.part s
  ended Follows x = tt
  ended (Over o) (outcome, place, open_) =
      let same = stay.over (ap is_some outcome) in
      (ap (λ (g : GameRecord). g.outcome) same ∙ outcome, place ∙ ap (λ (g : GameRecord). length g.log) (sym same), open_)
  ended Cut x = x
  ended Left x = tt
  ended Failed x = tt

  pub of_on : IsOf e f stage
  of_on = record {
    table = of.table ∙ sym stay.table;
    start = of.start ∙ sym stay.start;
    before = of.before ∙ sym (ap (take f.part.joined) stay.log.1 ∙ take-append-le f.part.joined b.game.log stay.log.0 (let w = of.within in omega (arith, w)));
    within = let w = of.within in let l = longer in omega (arith, w, l);
    moves = of.moves ∙ sym (ap (drop f.part.joined) (ap (take (next_of f.part)) stay.log.1 ∙ take-append-le (next_of f.part) b.game.log stay.log.0 of.within));
    closing = closed f.part.closing of.closing;
    ended = ended stage of.ended;
  }

pub in_on : (f g : FloorRecord) (c : DeliveryRecord) → BoardsStay f g → IsIn f c → IsIn g c
in_on f g c stay is =
    let m = stay c.board is.board is.found in
    record { board = m.0; found = m.1; is_of = of_on is.board m.0 c.follower c.stage m.2 is.is_of }

pub step_in : (k : HallRecord) (e : HallEvent) (t : HallTold) (l : HallRecord) (c : DeliveryRecord) → HallStep k e t l → IsIn k.floor c → IsIn l.floor c
step_in k e t l c step is = in_on k.floor l.floor c (step_stays k e t l step) is

pub once_in : (k l : HallRecord) (speaker : Owner) (handed : Option Handed) (c : DeliveryRecord) → IsOneStep k speaker handed l → IsIn k.floor c → IsIn l.floor c
once_in k l speaker handed c once is = in_on k.floor l.floor c (once_stays k l speaker handed once) is

-- ---- The connection goes on.

-- the same follower and board, and this end
pub of_at : (b : HallBoard) (f : FollowerSeat) (s stage : Stage) → IsOf b f s → IsEndOf b f.part stage → IsOf b f stage
of_at b f s stage of ended = record {
  table = of.table;
  start = of.start;
  before = of.before;
  within = of.within;
  moves = of.moves;
  closing = of.closing;
  ended = ended;
}

pub in_wrote : (f : FloorRecord) (c : DeliveryRecord) (n : ℕ) → IsIn f c → IsIn f (wrote c n)
in_wrote f c n is = record { board = is.board; found = is.found; is_of = is.is_of }

pub in_puts : (f : FloorRecord) (c : DeliveryRecord) (p : Piece) → IsIn f c → IsIn f (puts c p)
in_puts f c p is = record { board = is.board; found = is.found; is_of = is.is_of }

pub in_left : (f : FloorRecord) (c : DeliveryRecord) → IsIn f c → IsIn f (left c Left)
in_left f c is = record { board = is.board; found = is.found; is_of = of_at is.board c.follower c.stage Left is.is_of tt }

-- ---- A newcomer.

pub untaken : (f : FloorRecord) (h : Handed) → IsHandedIn f h → h.follower.part.taken ≡ []
untaken f h is = ap (λ (q : Part). q.taken) is.part

pub newcomer_in : (f : FloorRecord) (h : Handed) (reading : Reading) (opening : List ℕ) → IsHandedIn f h → IsIn f (newcomer h reading opening).delivery
newcomer_in f h reading opening is =
    let p = h.follower.part in
    let none = untaken f h is in
    record {
      board = is.board;
      found = is.found;
      is_of = record {
        table = is.table;
        start = ap (λ (q : Part). q.setup.start) is.part;
        before = ap (λ (q : Part). q.before) is.part;
        within = let w = is.within in let n : length p.taken ≡ 0 = ap length none in omega (arith, w, n);
        moves = none ∙ sym (ap (λ (ms : List Triple). stretch p.joined (p.joined + length ms) is.board.game.log) none ∙ empty_here p.joined is.board.game.log);
        closing = subst (λ (o : Option ℕ). IfSome o (λ n. (next_of p ≤ n) × (n ≤ length is.board.game.log))) (sym (ap (λ (q : Part). q.closing) is.part)) tt;
        ended = tt;
      };
    }
