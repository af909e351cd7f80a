-- Whatever happens leaves each spectator served.
use Rattle.std.proofs.Common.{◌≡◌, ℕ, zero, suc, leb, Bool, true, false, cond, Option, Some, None, is_some, List, [], ◌∷◌, ◌++◌, length, take, refl}
use Rattle.std.specs.Prelude.{⊤}
use Rattle.std.proofs.lemmas.Bool.{leb-true}
use Rattle.c960_board.specs.Moves.{Triple}
use Rattle.c960_game.specs.declared.outcome.Outcome.{Outcome}
use Rattle.relay_watching.specs.Audience.{Audience, Spectator, Happening, moved, ended, joined, wrote, injected, new_spectator, with_bytes, after_wrote, after_injected, with_one, after, after_all, nobody_yet, IsServed, AreServed, EachIsServed}
use Rattle.relay_watching.specs.Between.{is_between}
use Rattle.relay_watching.specs.Course.{Course, with_move, with_outcome}
use Rattle.relay_watching.specs.Progress.{WasSent, offered}
use Rattle.relay_watching.specs.Promised.{Joining}
use Rattle.relay_watching.proofs.Boundaries.{whole_between}
use Rattle.relay_watching.proofs.Progresses.{newcomer_was_sent, sent_goes_on, sent_after}
use Rattle.relay_watching.proofs.Promises.{Continues, move_continues, end_continues}
use Rattle.relay_watching.proofs.Wires.{Stands, stands_newcomer, stands_goes_on, stands_with_bytes, stands_with_other, wire_of}

record IsStanding (c : Course) (s : Spectator) : Type 0 where
  pub sent : WasSent c s.joining s.written s.progress
  pub stands : Stands c s

abbrev AllStand : Course → List Spectator → Type 0
AllStand c [] = ⊤
AllStand c (s ∷ spectators) = IsStanding c s × AllStand c spectators

abbrev AllStandIn : Audience → Type 0
AllStandIn a = AllStand a.course a.spectators

-- ---- The board goes on.

one_goes_on : (c d : Course) (more : List (List ℕ)) (s : Spectator) → Continues c d more → IsStanding c s → IsStanding d s
one_goes_on c d more s on standing = record {
  sent = sent_goes_on c d more s.joining s.written s.progress on standing.sent;
  stands = stands_goes_on c d more s on standing.sent.joined standing.stands;
}

all_go_on : (c d : Course) (more : List (List ℕ)) (spectators : List Spectator) → Continues c d more → AllStand c spectators → AllStand d spectators
all_go_on c d more [] on standing = tt
all_go_on c d more (s ∷ spectators) on standing = (one_goes_on c d more s on standing.0, all_go_on c d more spectators on standing.1)

after_move : (a : Audience) (m : Triple) (o : Option Outcome) → a.course.outcome ≡ o → AllStandIn a
    → AllStandIn (cond (is_some o) a (record a { course = with_move a.course m }))
after_move a m (Some o) is standing = standing
after_move a m None is standing = all_go_on a.course (with_move a.course m) _ a.spectators (move_continues a.course m is) standing

after_end : (a : Audience) (e : Outcome) (o : Option Outcome) → a.course.outcome ≡ o → AllStandIn a
    → AllStandIn (cond (is_some o) a (record a { course = with_outcome a.course e }))
after_end a e (Some o) is standing = standing
after_end a e None is standing = all_go_on a.course (with_outcome a.course e) _ a.spectators (end_continues a.course e is) standing

-- ---- A spectator joins.

all_and_one : (c : Course) (spectators : List Spectator) (s : Spectator) → AllStand c spectators → IsStanding c s → AllStand c (spectators ++ s ∷ [])
all_and_one c [] s standing one = (one, tt)
all_and_one c (t ∷ spectators) s standing one = (standing.0, all_and_one c spectators s standing.1 one)

after_joining : (a : Audience) (j : Joining) (b : Bool) → leb j.place (length a.course.moves) ≡ b → AllStandIn a
    → AllStandIn (cond b (record a { spectators = a.spectators ++ new_spectator a.course j ∷ [] }) a)
after_joining a j true is standing =
    all_and_one a.course a.spectators (new_spectator a.course j) standing
    (record {
      sent = newcomer_was_sent a.course j (leb-true j.place (length a.course.moves) is);
      stands = stands_newcomer a.course j;
    })
after_joining a j false is standing = standing

-- ---- Something is written to a spectator.

one_wrote : (c : Course) (n : ℕ) (s : Spectator) (b : Bool) → leb n (length (offered c s.progress)) ≡ b → IsStanding c s
    → IsStanding c (cond b (with_bytes (take n (offered c s.progress)) n s) s)
one_wrote c n s true is standing = record {
  sent = sent_after c s.joining s.written s.progress n (leb-true n (length (offered c s.progress)) is) standing.sent;
  stands = stands_with_bytes c (take n (offered c s.progress)) n s standing.stands;
}
one_wrote c n s false is standing = standing

one_injected : (c : Course) (f : List ℕ) (s : Spectator) (b : Bool) → is_between c s.progress ≡ b → IsStanding c s
    → IsStanding c (cond b (record s { wire = s.wire ++ f; others = s.others ++ f ∷ [] }) s)
one_injected c f s true is standing = record {
  sent = standing.sent;
  stands = stands_with_other c f s (whole_between c s.joining s.written s.progress standing.sent is) standing.stands;
}
one_injected c f s false is standing = standing

one_after : (c : Course) (f : Spectator → Spectator) (who : ℕ) (spectators : List Spectator)
    → ((s : Spectator) → IsStanding c s → IsStanding c (f s)) → AllStand c spectators → AllStand c (with_one f who spectators)
one_after c f who [] keeps standing = tt
one_after c f zero (s ∷ spectators) keeps standing = (keeps s standing.0, standing.1)
one_after c f (suc who) (s ∷ spectators) keeps standing = (standing.0, one_after c f who spectators keeps standing.1)

-- ---- All that happens.

then_standing : (a : Audience) (x : Happening) → AllStandIn a → AllStandIn (after a x)
then_standing a (moved m) standing = after_move a m a.course.outcome refl standing
then_standing a (ended o) standing = after_end a o a.course.outcome refl standing
then_standing a (joined j) standing = after_joining a j (leb j.place (length a.course.moves)) refl standing
then_standing a (wrote who n) standing =
    one_after a.course (after_wrote a.course n) who a.spectators
    (λ s one. one_wrote a.course n s (leb n (length (offered a.course s.progress))) refl one) standing
then_standing a (injected who f) standing =
    one_after a.course (after_injected a.course f) who a.spectators
    (λ s one. one_injected a.course f s (is_between a.course s.progress) refl one) standing

all_then_standing : (a : Audience) (happened : List Happening) → AllStandIn a → AllStandIn (after_all a happened)
all_then_standing a [] standing = standing
all_then_standing a (x ∷ xs) standing = all_then_standing (after a x) xs (then_standing a x standing)

-- ---- So each is served.

one_served : (c : Course) (s : Spectator) → IsStanding c s → IsServed c s
one_served c s standing = record { sent = standing.sent; wire = wire_of c s standing.sent standing.stands }

all_served : (c : Course) (spectators : List Spectator) → AllStand c spectators → AreServed c spectators
all_served c [] standing = tt
all_served c (s ∷ spectators) standing = (one_served c s standing.0, all_served c spectators standing.1)

served_in : (a : Audience) → AllStandIn a → EachIsServed a
served_in a standing = all_served a.course a.spectators standing

pub each_is_served : (happened : List Happening) → EachIsServed (after_all nobody_yet happened)
each_is_served happened = served_in (after_all nobody_yet happened) (all_then_standing nobody_yet happened tt)
