-- Where a line that begins a write stands in some bytes.
use Rattle.std.specs.Prelude.{ℕ, suc, ◌==◌, Bool, cond, ◌&&◌, List, [], ◌∷◌, take, slice_index, Option, Some, None}
use Rattle.chained_lines.specs.Lines.{has_no_feed}
use Rattle.chained_lines.specs.declared.later.LaterWrite.{LaterWrite}

-- whether a line begins here that has room for a seal, and then the mark of the first line of a write
abbrev pub begins_marked : List ℕ → Bool
begins_marked bytes = (slice_index bytes 16 == 62) && has_no_feed (take 16 bytes)

-- the first such line behind a line feed of bytes, before which so many line feeds and bytes stand
unfoldable pub searching : (line byte : ℕ) → List ℕ → Option LaterWrite
searching line byte [] = None
searching line byte (b ∷ bytes) =
    cond (b == 10)
    (cond (begins_marked bytes) (Some (record { line = suc line; byte = suc byte })) (searching (suc line) (suc byte) bytes))
    (searching line (suc byte) bytes)

abbrev pub later_write : List ℕ → Option LaterWrite
later_write bytes = searching 0 0 bytes
