use Rattle.std.proofs.Common.{refl, List, ◌∷◌, [], ◌++◌, map, take, ◌∙◌, ap, subst, sym, arith}
use Rattle.std.proofs.lemmas.List.{map-append, take_all, take_more}
use Rattle.c960_board.specs.Moves.{Triple}
use Rattle.relay_journal.specs.declared.entry.Entry.{Entry}
use Rattle.relay_journal.specs.declared.entry.Entry.TheVariants.{Plays}
use Rattle.relay_journal.specs.Writing.{AreNoted}
use Rattle.relay_journal.proofs.Written.{none_noted, noted_then}
use Rattle.relay_journal.proofs.writing.note_each.Goals as goal

pub loop-at-init : goal.loop-at-init
loop-at-init g c = none_noted g.S.StableStorage.contents g.S.StableStorage.synced c.args.journal.now

pub loop-at-preserved : goal.loop-at-preserved
loop-at-preserved g c =
    let ms = c.args.moves.now in
    let at = c.loop-at.at in
    let play : Triple → Entry = λ m. Plays c.args.board m in
    let m = c.index-moves-at.result in
    let one_more = take_more ms at m c.loop-at-test.true ∙ ap (λ (x : Triple). take at ms ++ x ∷ []) (sym c.index-moves-at.is) in
    let entries = ap (λ (xs : List Triple). map play xs) one_more ∙ map-append play (take at ms) (m ∷ []) in
    subst (λ (es : List Entry). AreNoted g.S.StableStorage.contents g.S.StableStorage.synced c.args.journal.now c.note_entry.new.journal es) (sym entries)
    (noted_then g.S.StableStorage.contents g.S.StableStorage.synced c.args.journal.now c.loop-at.journal c.note_entry.new.journal (map play (take at ms)) (play m ∷ [])
    c.loop-at.invariant (c.in_ok-note_entry.ensures.noted refl))

pub returns-clause-noted : goal.returns-clause-noted
returns-clause-noted g c =
    let play : Triple → Entry = λ m. Plays c.args.board m in
    let whole = take_all c.loop-at.at c.args.moves.now (omega (arith, c.loop-at-test.false)) in
    subst (λ (ms : List Triple). AreNoted g.S.StableStorage.contents g.S.StableStorage.synced c.args.journal.now c.loop-at.journal (map play ms)) whole c.loop-at.invariant
