-- How a journal ends, by the bytes behind its lines that count.
use Rattle.std.specs.Prelude.{◌≡◌, ◌≢◌, ℕ, zero, suc, ◌==◌, cond, List, length, take, slice_index, Some, None}
use Rattle.chained_lines.specs.Later.{later_write}
use Rattle.relay960.specs.declared.journal.end.JournalEnd.{JournalEnd}
use Rattle.relay960.specs.declared.journal.end.JournalEnd.TheVariants.{Whole, Torn, Damaged}

-- how many of the first so many bytes there are, without the zeros at their end
abbrev pub trimmed : List ℕ → ℕ → ℕ
trimmed bytes zero = 0
trimmed bytes (suc n) = cond (slice_index bytes n == 0) (trimmed bytes n) (suc n)

-- Nothing is left without the zeros. Or it was cut short; or a later write has begun behind it, so that what stands before that has
-- changed.
abbrev pub IsEnd : List ℕ → JournalEnd → Type 0
IsEnd rest Whole = trimmed rest (length rest) ≡ 0
IsEnd rest (Torn torn) = (torn.now ≡ take (trimmed rest (length rest)) rest) × (trimmed rest (length rest) ≢ 0) × (later_write rest ≡ None)
IsEnd rest (Damaged later) = (later_write rest ≡ Some later) × (trimmed rest (length rest) ≢ 0)
