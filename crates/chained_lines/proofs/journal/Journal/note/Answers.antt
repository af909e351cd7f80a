use Rattle.std.proofs.Common.{refl, ◌≡◌, ℕ, Bool, true, false, ◌++◌, length, ◌∙◌, sym, ap, arith}
use Rattle.std.specs.Prelude.{◌==◌, not}
use Rattle.std.proofs.lemmas.Result.{err_from_is_err_and}
use Rattle.chained_lines.specs.Inner.{journal_of}
use Rattle.chained_lines.specs.Lines.{bytes_of, seal_after}
use Rattle.chained_lines.proofs.Holding.{holds_noted}
use Rattle.chained_lines.proofs.Splits.{no_feed_is}
use Rattle.chained_lines.proofs.journal.Journal.note.Goals as goal

-- a body that passed has no line feed
not_both : (known : Bool) → known ≡ true → known ≡ false → ⊥
not_both known is isnt = grind (arith, is, isnt)

pub returns-clause-noted : goal.returns-clause-noted
returns-clause-noted g c =
    let is = c.self.inside in
    let first : c.is_empty-is_first.result ≡ (length is.noted.items == 0) = c.is_empty-is_first.ensures ∙ ap (λ (n : ℕ). n == 0) is.noted.ok.0 in
    let noted = c.in_ok-self-inside.ensures.put
    ∙ ap (λ (b : Bool). is.noted.items ++ bytes_of is.seal (record { is_first = b; body = c.args.body.now })) first in
    let seal = c.in_ok-self-inside.ensures.seal ∙ ap (λ (b : Bool). seal_after is.seal (record { is_first = b; body = c.args.body.now })) first in
    let no_feed = no_feed_is c.args.body.now c.memchr.result c.memchr.ensures ∙ ap not (sym c.is_some.ensures ∙ c.if-is_some.false) in
    rw (← c.self.view_is) (λ ls holds.
    holds_noted g.S.StableStorage.contents g.S.StableStorage.synced (journal_of is) _ ls
    (record { is_first = length is.noted.items == 0; body = c.args.body.now }) holds no_feed refl noted seal refl)

pub returns-in_err-self-inside-clause-feed : goal.returns-in_err-self-inside-clause-feed
returns-in_err-self-inside-clause-feed g c =
    let told = err_from_is_err_and c.from_residual.result c.from_residual.ensures.1 in
    let no_feed = no_feed_is c.args.body.now c.memchr.result c.memchr.ensures ∙ ap not (sym c.is_some.ensures ∙ c.if-is_some.false) in (
      λ is. absurd (grind (arith, told.1, told.2, is)),
      λ isnt. absurd (not_both _ no_feed isnt),
    )

pub returns-clause-feed : goal.returns-clause-feed
returns-clause-feed g c =
    let no_feed = no_feed_is c.args.body.now c.memchr.result c.memchr.ensures ∙ ap not (sym c.is_some.ensures ∙ c.if-is_some.false) in (
      λ is. absurd (grind (arith, is)),
      λ isnt. absurd (not_both _ no_feed isnt),
    )
