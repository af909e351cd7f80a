use Rattle.std.proofs.Common.{refl, ◌≡◌, ℕ, List, [], ◌∷◌, ◌++◌, length, ◌∙◌, sym, ap, subst, arith, append_assoc}
use Rattle.std.proofs.lemmas.List.{append-nil}
use Rattle.std.specs.Prelude.{IfSome, slice_get}
use Rattle.chained_lines.specs.Lines.{Line, read_lines}
use Rattle.relay_journal.specs.declared.entry.Entry.{Entry}
use Rattle.relay_journal.specs.Bodies.{AllBodies, IsBody}
use Rattle.relay_journal.proofs.Each.{bodies_push, placed}
use Rattle.relay_journal.proofs.Recovered.{bodies_length}
use Rattle.relay_journal.proofs.reading.read_behind.Goals as goal

pub loop-found-init : goal.loop-found-init
loop-found-init c = record { done = []; read = refl; say = subst (λ (es : List Entry). AllBodies [] es) (sym c.new-entries.ensures.items) tt }

pub loop-found-preserved : goal.loop-found-preserved
loop-found-preserved c =
    let was = c.loop-found.invariant in
    let found = c.in-Some.found in
    let line : Line = record { is_first = found.is_first; body = found.body.now } in
    let one = c.in-Some-2.entry in
    let said : IsBody found.body.now one = subst (λ o. IfSome o (λ e. IsBody found.body.now e)) c.in-Some-2.is c.in_ok-entry.ensures.some in
    record {
      done = was.done ++ line ∷ [];
      read = was.read ∙ ap (λ (t : List Line). was.done ++ t) c.in-Some.ensures.some ∙ sym (append_assoc was.done (line ∷ []) (read_lines found.seal found.rest.now));
      say = subst (λ (es : List Entry). AllBodies (was.done ++ line ∷ []) es) (sym c.in_ok-push.ensures.items) (bodies_push was.done c.loop-found.entries.items line one was.say said);
    }

pub returns-clause-entries : goal.returns-clause-entries
returns-clause-entries c =
    let was = c.loop-found.invariant in
    let all = was.read ∙ ap (λ (t : List Line). was.done ++ t) (c.first_line.ensures.none c.in_default.is) ∙ append-nil was.done in
    subst (λ (ls : List Line). AllBodies ls c.loop-found.entries.items) (sym all) was.say

pub returns-in_default-2-clause-unread : goal.returns-in_default-2-clause-unread
returns-in_default-2-clause-unread c = λ at is.
    let was = c.loop-found.invariant in
    let found = c.in-Some.found in
    let line : Line = record { is_first = found.is_first; body = found.body.now } in
    let read = was.read ∙ ap (λ (t : List Line). was.done ++ t) c.in-Some.ensures.some in
    let size = bodies_length was.done c.loop-found.entries.items was.say in
    let same : c.len.result ≡ at = grind (arith, is) in
    let place : at ≡ length was.done = omega (arith, same, size, c.len.ensures, c.loop-found.entries.ok.0) in (
      line,
      ap (λ (t : List Line). slice_get t at) read
          ∙ ap (λ (n : ℕ). slice_get (was.done ++ line ∷ read_lines found.seal found.rest.now) n) place
          ∙ placed was.done line (read_lines found.seal found.rest.now),
      c.in_ok-entry.ensures.none c.in_default-2.is,
    )
