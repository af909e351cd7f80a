-- Whatever is done to a connection that follows, it follows the same board, and was first sent the same.
use Rattle.std.proofs.Common.{◌≡◌, ◌+◌, ℕ, List, nat_lt, Bool, true, false, cond, length, Some, inl, inr, refl, ap, ◌∙◌}
use Rattle.relay_frames.specs.Events.{Told, fragment, text, binary, ping, pong, closed, broken}
use Rattle.relay_hall.specs.Record.{FloorRecord}
use Rattle.relay_service.specs.Following.Boards.{IsIn}
use Rattle.relay_service.specs.Following.Calls.{Answers, Fails, answered, closed_by, closes, delivers, gone, if_follows, left, moved_on, passes_over, pinged, puts, wrote}
use Rattle.relay_service.specs.declared.following.stage.Stage.TheVariants.{Left}
use Rattle.relay_service.specs.Following.Pieces.{a_ping}
use Rattle.relay_service.specs.Following.Record.{ConnectionRecord, DeliveryRecord, follows}
use Rattle.relay_service.proofs.FollowingFacts.Boards.{in_wrote}
use Rattle.relay_service.proofs.FollowingFacts.Calls.{in_answers, in_closed, in_fails, in_gone, in_pinged}

-- it is in each hall in which it was, and its opening is the same
abbrev pub Keeps : DeliveryRecord → DeliveryRecord → Type 0
Keeps c d = ((f : FloorRecord) → IsIn f c → IsIn f d) × (d.opening ≡ c.opening)

abbrev opening : ConnectionRecord → List ℕ
opening c = c.delivery.opening

passed_opening : (c : ConnectionRecord) (size : ℕ) → opening (passes_over c size) ≡ opening c
passed_opening c size = by (nat_lt 65536 (c.unanswered + size + 6))
  where
    by : (b : Bool) → opening (cond b (delivers c (closes c.delivery (Some 1008))) (record c { unanswered = c.unanswered + size + 6 })) ≡ opening c
    by true = refl
    by false = refl

answered_opening : (t : Told) (c : ConnectionRecord) → opening (answered t c) ≡ opening c
answered_opening fragment c = refl
answered_opening (text bytes) c = passed_opening c (length bytes)
answered_opening (binary bytes) c = passed_opening c (length bytes)
answered_opening (ping bytes) c = refl
answered_opening (pong bytes) c = refl
answered_opening (closed number) c = refl
answered_opening (broken breach) c = refl

if_opening : (c : ConnectionRecord) (d : DeliveryRecord) → d.opening ≡ opening c → opening (if_follows c d) ≡ opening c
if_opening c d same = by (follows c.delivery.stage)
  where
    by : (b : Bool) → opening (cond b (delivers c d) c) ≡ opening c
    by true = same
    by false = refl

-- ---- Each call.

pub wrote_keeps : (c : DeliveryRecord) (n : ℕ) → Keeps c (wrote c n)
wrote_keeps c n = ((λ f is. in_wrote f c n is), refl)

pub pinged_keeps : (c : ConnectionRecord) → Keeps c.delivery (pinged c).delivery
pinged_keeps c = ((λ f is. in_pinged f c is), if_opening c (puts c.delivery a_ping) refl)

pub closed_keeps : (c : ConnectionRecord) (code : ℕ) → Keeps c.delivery (closed_by c code).delivery
closed_keeps c code = ((λ f is. in_closed f c code is), if_opening c (closes c.delivery (Some code)) refl)

pub gone_keeps : (c : ConnectionRecord) → Keeps c.delivery (gone c).delivery
gone_keeps c = ((λ f is. in_gone f c is), if_opening c (left c.delivery Left) refl)

answers_opening : (some : Bool) (c d : ConnectionRecord) → Answers some c d → opening d ≡ opening c
answers_opening true c d (t, heard, told, is) = ap opening is ∙ answered_opening t (moved_on c)
answers_opening false c d (is, none) = ap opening is

pub answers_keeps : (some : Bool) (c d : ConnectionRecord) → Answers some c d → Keeps c.delivery d.delivery
answers_keeps some c d a = ((λ f is. in_answers f some c d a is), answers_opening some c d a)

fails_opening : (c d : ConnectionRecord) → Fails c d → opening d ≡ opening c
fails_opening c d (inl is) = ap opening is
fails_opening c d (inr (t, heard, told, is)) = ap opening is

pub fails_keeps : (c d : ConnectionRecord) → Fails c d → Keeps c.delivery d.delivery
fails_keeps c d a = ((λ f is. in_fails f c d a is), fails_opening c d a)
