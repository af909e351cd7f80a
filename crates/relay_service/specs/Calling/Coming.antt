-- How the request of a connection comes and is answered, before it asks: RFC 6455 section 4.2.
use Rattle.std.specs.Prelude.{◌≡◌, ◌⊎◌, ℕ, List, [], ◌++◌, length, take, drop, cond, Bool, true, false, None, Some}
use Rattle.relay_frames.specs.declared.head.HeadSoFar.{HeadSoFar}
use Rattle.relay_frames.specs.declared.head.HeadSoFar.TheVariants.{Part, Whole, Refused}
use Rattle.relay_frames.specs.declared.request_refusal.RequestRefusal.{RequestRefusal}
use Rattle.relay_frames.specs.Heads.{head_so_far_behind}
use Rattle.relay_frames.specs.Reading.{fed}
use Rattle.relay_frames.specs.Requests.{Accepts, IsAnswered, acceptance_text, answer_text}
use Rattle.relay_hall.specs.declared.owner.Owner.{Owner}
use Rattle.relay_service.specs.Calling.Answering.{OperatorRecord, after_feed}
use Rattle.relay_service.specs.Calling.Keys.{key_of}
use Rattle.relay_service.specs.declared.calling.stage.Stage.{Stage}
use Rattle.relay_service.specs.declared.calling.stage.Stage.TheVariants.{Comes, Asks, HandsOver, Leaves}

-- its request has yet to come, or some of it
abbrev pub comes : Stage → Bool
comes Comes = true
comes Asks = false
comes HandsOver = false
comes Leaves = false

-- who a connection is by a request with this head: its key is the digest of the one that is named there, if keys are taken
abbrev pub owner_by : Bool → List ℕ → Owner → Owner
owner_by takes_keys head who = record who { key = cond takes_keys (key_of head) who.key }

-- The request is accepted with this value: the answer is due, what came behind the head is the first that is read, and it asks.
abbrev pub welcomed : OperatorRecord → ℕ → List ℕ → OperatorRecord
welcomed c end value = record c {
  head = [];
  who = owner_by c.takes_keys (take end c.head) c.who;
  reading = fed c.reading (drop end c.head);
  due = c.due ++ acceptance_text value;
  stage = Asks;
}

-- the request is refused: the answer is due, and it leaves
abbrev pub turned_away : OperatorRecord → RequestRefusal → OperatorRecord
turned_away c refusal = record c { head = []; due = c.due ++ answer_text refusal; stage = Leaves }

-- a request whose head ends behind so many of the bytes that came is accepted, or refused
abbrev pub Judged : OperatorRecord → ℕ → OperatorRecord → Type 0
Judged c end d =
    (IsAnswered (take end c.head) None × ((value : List ℕ) × Accepts (take end c.head) value × (d ≡ welcomed c end value)))
    ⊎ ((refusal : RequestRefusal) × IsAnswered (take end c.head) (Some refusal) × (d ≡ turned_away c refusal))

-- it is judged once its head is whole
abbrev pub Settled : OperatorRecord → HeadSoFar → OperatorRecord → Type 0
Settled c Part d = d ≡ c
Settled c (Whole end) d = Judged c end d
Settled c (Refused refusal) d = d ≡ turned_away c refusal

-- more of a request has come
abbrev pub grown : OperatorRecord → List ℕ → OperatorRecord
grown c bytes = record c { head = c.head ++ bytes }

-- these bytes of a request came, behind those that were looked at before
abbrev pub Arrives : OperatorRecord → List ℕ → OperatorRecord → Type 0
Arrives c bytes d = Settled (grown c bytes) (head_so_far_behind (length c.head) (c.head ++ bytes)) d

-- bytes came: of its request, or behind that
abbrev pub FedWhile : Bool → OperatorRecord → List ℕ → OperatorRecord → Type 0
FedWhile true c bytes d = Arrives c bytes d
FedWhile false c bytes d = d ≡ after_feed c bytes

abbrev pub Feeds : OperatorRecord → List ℕ → OperatorRecord → Type 0
Feeds c bytes d = FedWhile (comes c.stage) c bytes d
