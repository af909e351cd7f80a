use Rattle.std.proofs.Common.{◌∷◌, [], ◌++◌, ℕ, List, map, take, ◌∙◌, sym, ap, arith}
use Rattle.std.proofs.lemmas.List.{length-map, take_all}
use Rattle.relay_hall.specs.Record.{HallBoard}
use Rattle.relay_journal.specs.declared.noted.Noted.{Noted}
use Rattle.relay_journal.specs.Behind.{kept_shown}
use Rattle.relay_journal.specs.Kept.{kept_board, KeptBoard, kept_of}
use Rattle.relay_journal.specs.Scribes.{noted_of}
use Rattle.relay_journal.proofs.Behind.{kept_at, noted_next, shown_there}
use Rattle.relay_journal.proofs.Changes.{KeptRows}
use Rattle.relay_journal.proofs.noted.keep_noted.Goals as goal

pub loop-at-preserved : goal.loop-at-preserved
loop-at-preserved c =
    let f = c.args.hall.now.floor in
    let at = c.loop-at.at in
    let shown = c.in-Some.shown in
    let placed = kept_at f at shown (sym c.board.ensures.shown ∙ c.in-Some.is) in
    let before = map (λ (e : List ℕ × KeptBoard). noted_of e.1) (take at (kept_of f)) in
    c.in_ok-push.ensures.items
    ∙ ap (λ (ns : List Noted). ns ++ c.all_of.result ∷ []) c.loop-at.invariant
    ∙ ap (λ (n : Noted). before ++ n ∷ []) c.all_of.ensures
    ∙ sym (noted_next (kept_of f) at (kept_shown shown) placed)

pub unreachable-requires : goal.unreachable-requires
unreachable-requires c = shown_there c.args.hall.now.floor c.loop-at.at (omega (arith, c.loop-at-test.true, c.len-at-end.ensures.len)) (sym c.board.ensures.shown ∙ c.in_default.is)

pub returns : goal.returns
returns c =
    let f = c.args.hall.now.floor in
    let whole = take_all c.loop-at.at (kept_of f) (omega (arith, c.loop-at-test.false, c.len-at-end.ensures.len, length-map {B = List ℕ × KeptBoard} f.boards (λ (e : List ℕ × HallBoard). (e.0, kept_board e.1)))) in
    c.loop-at.invariant ∙ ap (λ (es : KeptRows). map (λ (e : List ℕ × KeptBoard). noted_of e.1) es) whole
