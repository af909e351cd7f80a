-- One line more, and its entry.
use Rattle.std.proofs.Common.{refl, ◌≡◌, List, [], ◌∷◌, ◌++◌, length, Some}
use Rattle.std.specs.Prelude.{slice_get}
use Rattle.chained_lines.specs.Lines.{Line}
use Rattle.relay_journal.specs.declared.entry.Entry.{Entry}
use Rattle.relay_journal.specs.Bodies.{AllBodies, IsBody}

pub bodies_push : (ls : List Line) (es : List Entry) (l : Line) (e : Entry) → AllBodies ls es → IsBody l.body e → AllBodies (ls ++ l ∷ []) (es ++ e ∷ [])
bodies_push [] [] l e all one = (one, tt)
bodies_push [] (x ∷ es) l e all one = absurd all
bodies_push (k ∷ ls) [] l e all one = absurd all
bodies_push (k ∷ ls) (x ∷ es) l e all one = (all.0, bodies_push ls es l e all.1 one)

pub placed : {A : Type 0} (xs : List A) (y : A) (ys : List A) → slice_get (xs ++ y ∷ ys) (length xs) ≡ Some y
placed [] y ys = refl
placed (x ∷ xs) y ys = placed xs y ys
