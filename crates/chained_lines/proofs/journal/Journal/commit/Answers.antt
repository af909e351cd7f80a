use Rattle.std.proofs.Common.{refl, ◌∙◌, sym, subst}
use Rattle.std.specs.Io.KnownBytes.{Appends}
use Rattle.std.proofs.KnownBytes.{Appends-nil}
use Rattle.std.proofs.lemmas.Bool.{eqb-true}
use Rattle.std.proofs.lemmas.List.{nil_from_length}
use Rattle.chained_lines.specs.Inner.{journal_of}
use Rattle.chained_lines.proofs.Fronts.{front_of, stored_front}
use Rattle.chained_lines.proofs.Holding.{holds_stored, keeps_all, on_both, on_failed}
use Rattle.chained_lines.proofs.journal.Journal.commit.Goals as goal

-- ---- It has failed before.

pub returns-then-self-clause-front : goal.returns-then-self-clause-front
returns-then-self-clause-front g c = rw (← c.self.view_is) (λ ls holds.
    front_of g.S.StableStorage.contents g.S.StableStorage.synced (journal_of c.self.inside) ls 0 _ holds (Appends-nil _))

-- ---- Nothing was noted.

pub returns-then-is_empty-clause-committed : goal.returns-then-is_empty-clause-committed
returns-then-is_empty-clause-committed g c =
    let noted = c.self.inside.noted in
    let none = nil_from_length noted.items (sym noted.ok.0 ∙ eqb-true noted.len 0 (sym c.is_empty.ensures ∙ c.if-is_empty.true)) in
    rw (← c.self.view_is) (λ ls holds. (holds, keeps_all g.S.StableStorage.contents g.S.StableStorage.synced (journal_of c.self.inside) ls holds none))

pub returns-then-is_empty-clause-emptied : goal.returns-then-is_empty-clause-emptied
returns-then-is_empty-clause-emptied g c =
    let noted = c.self.inside.noted in
    let none = nil_from_length noted.items (sym noted.ok.0 ∙ eqb-true noted.len 0 (sym c.is_empty.ensures ∙ c.if-is_empty.true)) in
    rw (← c.self.view_is) none

pub returns-then-is_empty-clause-front : goal.returns-then-is_empty-clause-front
returns-then-is_empty-clause-front g c = rw (← c.self.view_is) (λ ls holds.
    front_of g.S.StableStorage.contents g.S.StableStorage.synced (journal_of c.self.inside) ls 0 _ holds (Appends-nil _))

-- ---- It was stored.

pub returns-then-not-self-clause-committed : goal.returns-then-not-self-clause-committed
returns-then-not-self-clause-committed g c =
    let all = c.store-stored.ensures.all in
    let durable = c.store-stored.ensures.durable in
    rw (← c.self.view_is) (on_both c.store-stored.result all durable (λ all durable ls holds.
    holds_stored g.S.StableStorage.contents g.S.StableStorage.synced (journal_of c.self.inside)
    (record {
      storage = c.store-stored.new.storage;
      noted = c.clear.new.self.items;
      seal = c.self.inside.seal;
      has_failed = c.is_err-self-inside.result;
    })
    ls holds (subst (Appends _ _) c.deref.ensures.value all) durable c.clear.ensures.items refl c.if-not-self.true))

pub returns-then-not-self-clause-front : goal.returns-then-not-self-clause-front
returns-then-not-self-clause-front g c = rw (← c.self.view_is) (λ ls holds.
    stored_front g.S.StableStorage.contents g.S.StableStorage.synced (journal_of c.self.inside) ls _ _ c.deref.ensures.value c.store-stored.ensures.front holds)

-- ---- The storage failed.

pub returns-else-not-self-clause-committed : goal.returns-else-not-self-clause-committed
returns-else-not-self-clause-committed g c = on_failed _ c.store-stored.result (sym c.is_err-self-inside.ensures.value ∙ c.if-not-self.false)

pub returns-else-not-self-clause-emptied : goal.returns-else-not-self-clause-emptied
returns-else-not-self-clause-emptied g c = on_failed _ c.store-stored.result (sym c.is_err-self-inside.ensures.value ∙ c.if-not-self.false)

pub returns-else-not-self-clause-front : goal.returns-else-not-self-clause-front
returns-else-not-self-clause-front g c = rw (← c.self.view_is) (λ ls holds.
    stored_front g.S.StableStorage.contents g.S.StableStorage.synced (journal_of c.self.inside) ls _ _ c.deref.ensures.value c.store-stored.ensures.front holds)
