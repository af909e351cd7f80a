use Rattle.std.proofs.Common.{ℕ, List, take, Option, ◌∙◌, sym, subst, arith}
use Rattle.std.specs.Prelude.{slice_get}
use Rattle.std.proofs.lemmas.List.{length-map, take_all}
use Rattle.relay_hall.specs.Record.{HallBoard}
use Rattle.relay_journal.specs.declared.entry.Entry.{Entry}
use Rattle.relay_journal.specs.declared.noted.Noted.{Noted}
use Rattle.relay_journal.specs.Behind.{behind_all, behind_one, kept_shown}
use Rattle.relay_journal.specs.Kept.{KeptBoard, kept_board, kept_of}
use Rattle.relay_journal.specs.Writing.{AreNoted}
use Rattle.relay_journal.proofs.Behind.{behind_next, kept_at, shown_there}
use Rattle.relay_journal.proofs.Changes.{KeptRows}
use Rattle.relay_journal.proofs.Written.{none_noted, noted_then}
use Rattle.relay_journal.proofs.writing.note_all.Goals as goal

pub loop-at-init : goal.loop-at-init
loop-at-init g c = none_noted g.S.StableStorage.contents g.S.StableStorage.synced c.args.journal.now

pub loop-at-preserved : goal.loop-at-preserved
loop-at-preserved g c =
    let f = c.args.hall.now.floor in
    let ns = c.args.noted.now in
    let at = c.loop-at.at in
    let shown = c.in-Some.shown in
    let placed = kept_at f at shown (sym c.board.ensures.shown ∙ c.in-Some.is) in
    let entries = behind_next ns (kept_of f) at (kept_shown shown) placed in
    subst (λ (es : List Entry). AreNoted g.S.StableStorage.contents g.S.StableStorage.synced c.args.journal.now c.note_board.new.journal es) (sym entries)
    (noted_then g.S.StableStorage.contents g.S.StableStorage.synced c.args.journal.now c.loop-at.journal c.note_board.new.journal (behind_all ns (take at (kept_of f)))
    (behind_one (kept_shown shown) (slice_get ns at)) c.loop-at.invariant
    (subst (λ (o : Option Noted). AreNoted g.S.StableStorage.contents g.S.StableStorage.synced c.loop-at.journal c.note_board.new.journal (behind_one (kept_shown shown) o))
    c.noted_at.ensures c.in_ok-note_board.ensures.noted))

pub unreachable-requires : goal.unreachable-requires
unreachable-requires g c = shown_there c.args.hall.now.floor c.loop-at.at (omega (arith, c.loop-at-test.true, c.len-at-end.ensures.len)) (sym c.board.ensures.shown ∙ c.in_default.is)

pub returns-clause-noted : goal.returns-clause-noted
returns-clause-noted g c =
    let f = c.args.hall.now.floor in
    let whole = take_all c.loop-at.at (kept_of f) (omega (arith, c.loop-at-test.false, c.len-at-end.ensures.len, length-map {B = List ℕ × KeptBoard} f.boards (λ (e : List ℕ × HallBoard). (e.0, kept_board e.1)))) in
    subst (λ (es : KeptRows). AreNoted g.S.StableStorage.contents g.S.StableStorage.synced c.args.journal.now c.loop-at.journal (behind_all c.args.noted.now es)) whole c.loop-at.invariant
