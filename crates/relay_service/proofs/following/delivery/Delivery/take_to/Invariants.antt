-- Moves were taken and put, and the next place is this one.
use Rattle.std.proofs.Common.{◌≡◌, []}
use Rattle.live_board.specs.Views.{next_of}
use Rattle.relay_service.specs.Following.Pushing.{Delivers}
use Rattle.relay_service.specs.declared.following.stage.Stage.TheVariants.{Follows}
use Rattle.relay_service.proofs.following.delivery.Delivery.take_to.Given as goal

abbrev pub invariant-loop-place : goal.invariant-loop-place
invariant-loop-place l = record { delivers : Delivers l.most l.fn.self l.self [] []; follows : l.self.stage ≡ Follows; at : l.place ≡ next_of l.self.follower.part }
