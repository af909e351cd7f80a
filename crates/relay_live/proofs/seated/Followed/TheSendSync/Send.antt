-- The name of a followed board owns nothing, so it may go to another thread.
use denote.Param.Send.{IsSend, owning_send, view_send}
use Rattle.relay_live.specs.declared.seated.Followed as declared
use Rattle.relay_live.specs.contracts.seated.Followed as shown
use Rattle.relay_live.specs.contracts.seated.Followed.TheInside as inside

pub send : IsSend shown.the_row
send = view_send inside.the_row declared.Followed declared.the_code shown.the_view shown.the_invariant
    (owning_send inside.the_type tt (λ d. tt) (λ k x w. tt))
