-- The endings, and the outcomes that they name (FIDE Laws, Articles 5.1.2, 5.2.3, 6.9, 9.2 and 9.3; 6.7, 11.7 and 12.9 for what an
-- arbiter decides). Here a draw may be agreed at any moment, even before the first move; a claim concerns the present position, not one
-- that an announced move would give; and a game that is given up without a result is abandoned, which no article mentions. A loss on
-- time and a decision are as the arbiter reports them: neither clocks nor the exception of 6.9, where the opponent cannot mate by any
-- series of legal moves, are known here. In that exception the arbiter decides on a draw.
use Rattle.c960_game.specs.declared.outcome.Outcome.{Outcome}
use Rattle.c960_game.specs.declared.outcome.Outcome.TheVariants.{Resigned, Agreed as AgreedOutcome, Abandoned as AbandonedOutcome, Threefold, Fifty, LostOnTime, Decided as DecidedOutcome}
use Rattle.c960_game.specs.declared.ending.Ending.{Ending}
use Rattle.c960_game.specs.declared.ending.Ending.TheVariants.{Resigns, Agreed, Abandoned, ClaimThreefold, ClaimFifty, LosesOnTime, Decided}

abbrev pub named_outcome : Ending → Outcome
named_outcome (Resigns c) = Resigned c
named_outcome Agreed = AgreedOutcome
named_outcome Abandoned = AbandonedOutcome
named_outcome (ClaimThreefold c) = Threefold
named_outcome (ClaimFifty c) = Fifty
named_outcome (LosesOnTime c) = LostOnTime c
named_outcome (Decided r) = DecidedOutcome r
