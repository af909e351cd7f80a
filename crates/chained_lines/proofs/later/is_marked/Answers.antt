use Rattle.std.proofs.Common.{refl, ◌≡◌, ℕ, Bool, true, false, take, get_or, ◌∙◌, sym, ap, arith}
use Rattle.std.specs.Prelude.{◌==◌, ◌&&◌, not}
use Rattle.std.proofs.lemmas.Bool.{eqb-true, false_from_ne_true}
use Rattle.std.proofs.lemmas.List.{get_or_past}
use Rattle.chained_lines.specs.Lines.{has_no_feed}
use Rattle.chained_lines.proofs.Splits.{no_feed_is}
use Rattle.chained_lines.proofs.later.is_marked.Goals as goal

pub returns-then-bytes-le-SEAL_BYTES : goal.returns-then-bytes-le-SEAL_BYTES
returns-then-bytes-le-SEAL_BYTES c =
    let bytes = c.args.bytes.now in
    sym (ap (λ (n : ℕ). (n == 62) && has_no_feed (take 16 bytes)) (get_or_past bytes 16 0 (omega arith)))

pub returns-then-bytes-eq62 : goal.returns-then-bytes-eq62
returns-then-bytes-eq62 c =
    let bytes = c.args.bytes.now in
    let none = no_feed_is (take 16 bytes) c.memchr.result c.memchr.ensures in
    sym (ap (λ (n : ℕ). (n == 62) && has_no_feed (take 16 bytes)) c.if-bytes-eq62.true ∙ none ∙ ap not c.is_none.ensures ∙ twice c.is_none.result)
  where
    twice : (b : Bool) → not (not b) ≡ b
    twice true = refl
    twice false = refl

pub returns-else-bytes-eq62 : goal.returns-else-bytes-eq62
returns-else-bytes-eq62 c =
    let bytes = c.args.bytes.now in
    let isnt = false_from_ne_true (get_or bytes 16 0 == 62) (λ is. c.if-bytes-eq62.false (eqb-true (get_or bytes 16 0) 62 is)) in
    isnt ∙ sym (ap (λ (b : Bool). b && has_no_feed (take 16 bytes)) isnt)
