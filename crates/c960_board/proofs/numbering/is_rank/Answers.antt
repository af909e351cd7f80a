use Rattle.std.proofs.Common.{◌≡◌, map, unwrap_or, ap, sym, ◌∙◌}
use Rattle.std.proofs.lemmas.Slice.Eq.{slice_eq-Decides}
use Rattle.c960_board.specs.declared.piece.Kind.TheVariants.{Pawn}
use Rattle.c960_board.specs.contracts.piece.KindPartialEq.TheImpl.{eq-value}
use Rattle.c960_board.specs.Array.{Rank, array}
use Rattle.c960_board.proofs.KindFacts.{kind_decides}
use Rattle.c960_board.proofs.numbering.is_rank.Goals as goal

pub returns : goal.returns
returns c =
    let d = slice_eq-Decides {E = eq-value.it} kind_decides _ _ _ c.eq.ensures in
    let e : c.kinds_of.result ≡ array c.args.number =
    c.kinds_of.ensures ∙ ap (λ (r : Rank). map (λ square. unwrap_or square Pawn) r) c.squares_of.ensures in
    (λ h. sym e ∙ d.0 h, λ h. d.1 (e ∙ h))
