-- How a request is answered.
use Rattle.std.proofs.Common.{◌≡◌, ℕ, List, take, None, Some, inl, inr, subst}
use Rattle.relay_frames.specs.declared.request_refusal.RequestRefusal.{RequestRefusal}
use Rattle.relay_frames.specs.Requests.{Accepts, IsAnswered}
use Rattle.relay_service.specs.Calling.Answering.{OperatorRecord}
use Rattle.relay_service.specs.Calling.Coming.{Judged, turned_away, welcomed}

module _ (c : OperatorRecord) (end : ℕ) (head : List ℕ) (d : OperatorRecord) (is : head ≡ take end c.head) where
  pub is_accepted : (value : List ℕ) → IsAnswered head None → Accepts head value → d ≡ welcomed c end value → Judged c end d
  is_accepted value let_in accepts then =
      inl (subst (λ (bytes : List ℕ). IsAnswered bytes None) is let_in, (value, subst (λ (bytes : List ℕ). Accepts bytes value) is accepts, then))

  pub is_refused : (refusal : RequestRefusal) → IsAnswered head (Some refusal) → d ≡ turned_away c refusal → Judged c end d
  is_refused refusal refused then = inr (refusal, subst (λ (bytes : List ℕ). IsAnswered bytes (Some refusal)) is refused, then)
