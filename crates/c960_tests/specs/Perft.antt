-- Perft: the number of sequences of legal moves.
use Rattle.std.specs.Prelude.{ℕ, zero, suc}
use Rattle.std.specs.List.{sum_by}
use Rattle.c960_board.specs.declared.parts.Parts.{Parts}
use Rattle.c960_rules.specs.After.{after}
use Rattle.c960_rules.specs.Tests.Legal.{legal_list}

-- how many sequences of n legal moves begin at p
unfoldable pub perft : ℕ → Parts → ℕ
perft zero p = 1
perft (suc n) p = sum_by (λ m. perft n (after p m)) (legal_list p)
