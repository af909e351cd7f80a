-- Whatever a connection says and is sent, it stays at its board.
use Rattle.std.proofs.Common.{◌+◌, ℕ, nat_lt, Bool, true, false, cond, length, Option, Some, inl, inr, sym, subst}
use Rattle.relay_frames.specs.Breaches.{code_of}
use Rattle.relay_frames.specs.Events.{Told, fragment, text, binary, ping, pong, closed, broken}
use Rattle.relay_hall.specs.Record.{FloorRecord}
use Rattle.relay_service.specs.declared.following.stage.Stage.TheVariants.{Left}
use Rattle.relay_service.specs.Following.Boards.{IsIn}
use Rattle.relay_service.specs.Following.Calls.{Answers, Fails, answered, closed_by, closes, delivers, gone, if_follows, left, moved_on, passes_over, pinged, puts}
use Rattle.relay_service.specs.Following.Pieces.{a_close, a_ping, a_pong}
use Rattle.relay_service.specs.Following.Record.{ConnectionRecord, DeliveryRecord, follows}
use Rattle.relay_service.proofs.FollowingFacts.Boards.{in_left, in_puts}

module _ (f : FloorRecord) where
  in_closes : (c : DeliveryRecord) (number : Option ℕ) → IsIn f c → IsIn f (closes c number)
  in_closes c number is = in_left f (puts c (a_close number)) (in_puts f c (a_close number) is)

  in_passes : (c : ConnectionRecord) (size : ℕ) → IsIn f c.delivery → IsIn f (passes_over c size).delivery
  in_passes c size is = by (nat_lt 65536 (c.unanswered + size + 6))
    where
      by : (b : Bool) → IsIn f (cond b (delivers c (closes c.delivery (Some 1008))) (record c { unanswered = c.unanswered + size + 6 })).delivery
      by true = in_closes c.delivery (Some 1008) is
      by false = is

  in_answered : (t : Told) (c : ConnectionRecord) → IsIn f c.delivery → IsIn f (answered t c).delivery
  in_answered fragment c is = is
  in_answered (text bytes) c is = in_passes c (length bytes) is
  in_answered (binary bytes) c is = in_passes c (length bytes) is
  in_answered (ping bytes) c is = in_puts f c.delivery (a_pong bytes) is
  in_answered (pong bytes) c is = is
  in_answered (closed number) c is = in_closes c.delivery number is
  in_answered (broken breach) c is = in_closes c.delivery (Some (code_of breach)) is

  pub in_answers : (some : Bool) (c d : ConnectionRecord) → Answers some c d → IsIn f c.delivery → IsIn f d.delivery
  in_answers true c d (t, heard, told, d-is) is = subst (λ (x : ConnectionRecord). IsIn f x.delivery) (sym d-is) (in_answered t (moved_on c) is)
  in_answers false c d (d-is, none) is = subst (λ (x : ConnectionRecord). IsIn f x.delivery) (sym d-is) is

  pub in_fails : (c d : ConnectionRecord) → Fails c d → IsIn f c.delivery → IsIn f d.delivery
  in_fails c d (inl d-is) is = subst (λ (x : ConnectionRecord). IsIn f x.delivery) (sym d-is) is
  in_fails c d (inr (t, heard, told, d-is)) is = subst (λ (x : ConnectionRecord). IsIn f x.delivery) (sym d-is) (in_left f c.delivery is)

  in_if : (c : ConnectionRecord) (d : DeliveryRecord) → IsIn f c.delivery → IsIn f d → IsIn f (if_follows c d).delivery
  in_if c d is there = by (follows c.delivery.stage)
    where
      by : (b : Bool) → IsIn f (cond b (delivers c d) c).delivery
      by true = there
      by false = is

  pub in_pinged : (c : ConnectionRecord) → IsIn f c.delivery → IsIn f (pinged c).delivery
  in_pinged c is = in_if c (puts c.delivery a_ping) is (in_puts f c.delivery a_ping is)

  pub in_closed : (c : ConnectionRecord) (code : ℕ) → IsIn f c.delivery → IsIn f (closed_by c code).delivery
  in_closed c code is = in_if c (closes c.delivery (Some code)) is (in_closes c.delivery (Some code) is)

  pub in_gone : (c : ConnectionRecord) → IsIn f c.delivery → IsIn f (gone c).delivery
  in_gone c is = in_if c (left c.delivery Left) is (in_left f c.delivery is)
