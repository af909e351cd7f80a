-- What a connection becomes by what its peer says.
use Rattle.std.proofs.Common.{◌≡◌, Bool, true, false, Option, None, Some, option_map, inr, sym, ap, ◌∙◌, subst, Result, Ok, Err}
use Rattle.std.specs.Prelude.{IfOk, OnErr}
use Rattle.std.specs.declared.alloc.AllocError.{AllocError}
use Rattle.relay_frames.proofs.lemmas.Hearings.{hear_none}
use Rattle.relay_frames.specs.declared.event.Event.{Event}
use Rattle.relay_frames.specs.Events.{told}
use Rattle.relay_frames.specs.Reading.{Reading, next_step}
use Rattle.relay_service.specs.declared.following.stage.Stage.TheVariants.{Left}
use Rattle.relay_service.specs.Following.Calls.{Answers, Fails, answered, delivers, is_heard, left}
use Rattle.relay_service.specs.Following.Record.{ConnectionRecord}

module _ (c d : ConnectionRecord) (event : Event) (found : Option Event) (then : Reading) (heard : is_heard c.delivery ≡ true)
    (says : option_map told found ≡ (next_step c.reading).told) (is : found ≡ Some event) (on : then ≡ (next_step c.reading).then) where
  there : (next_step c.reading).told ≡ Some (told event)
  there = sym says ∙ ap (option_map told) is

  pub event_answered : (r : Result Bool AllocError) → IfOk r (λ some. (some ≡ true) × (d ≡ answered (told event) (record c { reading = then }))) → IfOk r (λ some. Answers some c d)
  event_answered (Ok some) (some-is, d-is) =
      subst (λ (b : Bool). Answers b c d) (sym some-is)
      (told event, heard, there, d-is ∙ ap (λ (x : Reading). answered (told event) (record c { reading = x })) on)
  event_answered (Err error) x = tt

  pub event_fails : (r : Result Bool AllocError) → OnErr r (d ≡ delivers (record c { reading = then }) (left c.delivery Left)) → OnErr r (Fails c d)
  event_fails (Ok some) x = tt
  event_fails (Err error) d-is = inr (told event, heard, there, d-is ∙ ap (λ (x : Reading). delivers (record c { reading = x }) (left c.delivery Left)) on)

-- there was none
pub none_answered : (c : ConnectionRecord) (found : Option Event) (then : Reading) → option_map told found ≡ (next_step c.reading).told → found ≡ None → then ≡ (next_step c.reading).then
    → Answers false c (record c { reading = then })
none_answered c found then says is on =
    let none : (next_step c.reading).told ≡ None = sym says ∙ ap (option_map told) is in
    (ap (λ (r : Reading). record c { reading = r }) (on ∙ hear_none c.reading none), λ heard. none)
