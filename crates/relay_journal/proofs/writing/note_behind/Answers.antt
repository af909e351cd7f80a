use Rattle.std.proofs.Common.{[], ◌++◌, Bool, None, List, map, drop, cond, ◌∙◌, ap, sym, subst}
use Rattle.std.proofs.lemmas.List.{append-nil}
use Rattle.std.proofs.lemmas.Result.{on_ok_weaker}
use Rattle.relay_journal.specs.declared.entry.Entry.{Entry}
use Rattle.relay_journal.specs.declared.entry.Entry.TheVariants.{Plays}
use Rattle.relay_journal.specs.Behind.{kept_shown}
use Rattle.relay_journal.specs.Differences.{ends_as, turn_of}
use Rattle.relay_journal.specs.Writing.{AreNoted}
use Rattle.relay_journal.proofs.Written.{noted_then}
use Rattle.relay_journal.proofs.writing.note_behind.Goals as goal

pub returns-then-has_end_of-clause-noted : goal.returns-then-has_end_of-clause-noted
returns-then-has_end_of-clause-noted g c =
    let shown = c.args.shown.now in
    let moves = map (λ m. Plays shown.name m) (drop c.args.noted.plies shown.game.log) in
    let ends = ends_as shown.name (turn_of (kept_shown shown).1) None shown.game.outcome in
    let same = sym (append-nil moves) ∙ ap (λ (t : Bool). moves ++ cond t [] ends) (sym (sym c.has_end_of.ensures ∙ c.if-has_end_of.true)) in
    subst (λ (es : List Entry). AreNoted g.S.StableStorage.contents g.S.StableStorage.synced c.args.journal.now c.note_moves.new.journal es) same
    c.in_ok-note_moves.ensures.noted

pub returns-clause-noted : goal.returns-clause-noted
returns-clause-noted g c =
    let shown = c.args.shown.now in
    let moves = map (λ m. Plays shown.name m) (drop c.args.noted.plies shown.game.log) in
    let ends = ends_as shown.name (turn_of (kept_shown shown).1) None shown.game.outcome in
    let same = ap (λ (t : Bool). moves ++ cond t [] ends) (sym (sym c.has_end_of.ensures ∙ c.if-has_end_of.false)) in
    on_ok_weaker c.note_end.result
    (λ end. subst (λ (es : List Entry). AreNoted g.S.StableStorage.contents g.S.StableStorage.synced c.args.journal.now c.note_end.new.journal es) same
    (noted_then g.S.StableStorage.contents g.S.StableStorage.synced c.args.journal.now c.note_moves.new.journal c.note_end.new.journal moves ends
    c.in_ok-note_moves.ensures.noted end))
    c.note_end.ensures.noted
