use Rattle.std.proofs.Common.{ℕ, List, take, ◌∙◌, sym, ap, arith}
use Rattle.std.specs.Str.{bytes_eq}
use Rattle.chained_lines.proofs.Counting.{sealed, short, unmarked, unsealed}
use Rattle.chained_lines.proofs.seal.seal_in.Goals as goal
use Rattle.chained_lines.proofs.seal.seal_in.Goals.{then-text-le-SEAL_BYTES-via-then-text-le-SEAL_BYTES, then-text-le-SEAL_BYTES-via-else-text-le-SEAL_BYTES+then-not-is_mark}

pub returns-then-text-le-SEAL_BYTES-clause-counts : goal.returns-then-text-le-SEAL_BYTES-clause-counts
returns-then-text-le-SEAL_BYTES-clause-counts c =
    elim c.then-text-le-SEAL_BYTES.branch [
      | then-text-le-SEAL_BYTES-via-then-text-le-SEAL_BYTES w ↦ sym (short c.args.before.now c.args.text.now (omega arith))
      | then-text-le-SEAL_BYTES-via-else-text-le-SEAL_BYTES+then-not-is_mark w ↦
          sym (unmarked c.args.before.now c.args.text.now (sym w.is_mark.ensures ∙ w.if-not-is_mark.true))
    ]

pub returns-then-eq-clause-counts : goal.returns-then-eq-clause-counts
returns-then-eq-clause-counts c =
    let text = c.args.text.now in
    let seal = c.as_slice.ensures ∙ c.seal_of-seal.ensures in
    let same = ap (λ (s : List ℕ). bytes_eq s (take 16 text)) (sym seal) ∙ sym c.eq.ensures ∙ c.if-eq.true in
    sym (sealed c.args.before.now text (omega arith) (sym c.is_mark.ensures ∙ c.if-not-is_mark.false) same)

pub returns-else-eq-clause-counts : goal.returns-else-eq-clause-counts
returns-else-eq-clause-counts c =
    let text = c.args.text.now in
    let seal = c.as_slice.ensures ∙ c.seal_of-seal.ensures in
    let same = ap (λ (s : List ℕ). bytes_eq s (take 16 text)) (sym seal) ∙ sym c.eq.ensures ∙ c.if-eq.false in
    sym (unsealed c.args.before.now text (omega arith) same)
