-- The first ground that holds, as a call returns it and as a reply names it.
use Rattle.std.proofs.Common.{◌≡◌, ℕ, ◌-◌, ◌<◌, ◌≤◌, nat_le, nat_lt, Bool, true, false, cond, List, [], ◌∷◌, Ok, Err, refl, ap}
use Rattle.std.proofs.lemmas.Bool.{leb-false, ltb-false}
use Rattle.c960_game.specs.declared.refusal.Refusal.{Refusal}
use Rattle.c960_game.specs.declared.refusal.Refusal.TheVariants.{BadStart, TooManyBoards, NotYet, TooFarBack, TooManyFollowers}
use Rattle.relay_core.specs.declared.reply.Reply.{Reply}
use Rattle.relay_core.specs.declared.reply.Reply.TheVariants.{Refused}
use Rattle.relay_core.specs.Refusals.{first_refusal, follow_grounds, open_grounds}
use Rattle.relay_core.specs.Replies.{first_of}
-- what is not there is none, passed on under a name of its own
pub use Rattle.c960_board.proofs.lemmas.Tests.{none_of as nothing}
use Rattle.c960_board.specs.declared.numbering.TheConstants.{STARTS}

-- a call that was refused: the reply names that refusal
pub reply_refused : (all : List (Bool × Refusal)) (accepted : Reply) (refusal : Refusal) → Err refusal ≡ first_refusal all
    → first_of all accepted ≡ Refused refusal
reply_refused [] accepted refusal e = cc
reply_refused (one ∷ rest) accepted refusal e = by one.0 e (reply_refused rest accepted refusal)
  where
    by : (holds : Bool) → Err refusal ≡ cond holds (Err one.1) (first_refusal rest)
        → (Err refusal ≡ first_refusal rest → first_of rest accepted ≡ Refused refusal)
        → cond holds (Refused one.1) (first_of rest accepted) ≡ Refused refusal
    by true g more = let same : one.1 ≡ refusal = cc in ap Refused same
    by false g more = more g

-- one that was not: the reply is the accepted one
pub reply_accepted : (all : List (Bool × Refusal)) (accepted : Reply) (u : Unit {0}) → Ok u ≡ first_refusal all → first_of all accepted ≡ accepted
reply_accepted [] accepted u e = refl
reply_accepted (one ∷ rest) accepted u e = by one.0 e (reply_accepted rest accepted u)
  where
    by : (holds : Bool) → Ok u ≡ cond holds (Err one.1) (first_refusal rest)
        → (Ok u ≡ first_refusal rest → first_of rest accepted ≡ accepted)
        → cond holds (Refused one.1) (first_of rest accepted) ≡ accepted
    by true g more = cc
    by false g more = more g

-- what holds if a board may be opened
pub opened_where : (named : Bool) (start boards most : ℕ) (u : Unit {0}) → Ok u ≡ first_refusal (open_grounds named start boards most)
    → (named ≡ false) × (start < STARTS) × (boards < most)
opened_where true start boards most u e = cc
opened_where false start boards most u e = by (nat_le STARTS start) (nat_le most boards) refl refl e
  where
    by : (bad full : Bool) → nat_le STARTS start ≡ bad → nat_le most boards ≡ full
        → Ok u ≡ cond bad (Err BadStart) (cond full (Err TooManyBoards) (Ok tt))
        → (false ≡ false) × (start < STARTS) × (boards < most)
    by true full b f g = cc
    by false true b f g = cc
    by false false b f g = (refl, leb-false STARTS start b, leb-false most boards f)

-- and if a spectator may follow
pub followed_where : (follows : Bool) (long place capacity : ℕ) (full : Bool) (u : Unit {0})
    → Ok u ≡ first_refusal (follow_grounds follows long place capacity full)
    → (follows ≡ false) × (place ≤ long) × (long - place ≤ capacity) × (full ≡ false)
followed_where true long place capacity full u e = cc
followed_where false long place capacity full u e =
    by (nat_lt long place) (nat_lt capacity (long - place)) full refl refl e
  where
    by : (early far many : Bool) → nat_lt long place ≡ early → nat_lt capacity (long - place) ≡ far
        → Ok u ≡ cond early (Err NotYet) (cond far (Err TooFarBack) (cond many (Err TooManyFollowers) (Ok tt)))
        → (false ≡ false) × (place ≤ long) × (long - place ≤ capacity) × (many ≡ false)
    by true far many a b g = cc
    by false true many a b g = cc
    by false false true a b g = cc
    by false false false a b g = (refl, ltb-false long place a, ltb-false capacity (long - place) b, refl)
