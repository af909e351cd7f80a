-- The order in which a submit makes its steps.
use Rattle.std.specs.Prelude.{◌≡◌, ℕ, zero, suc, ◌⊎◌, List, [], ◌∷◌, ◌++◌}
use Rattle.live_board.specs.declared.step.BoardStep.{BoardStep}
use Rattle.live_board.specs.declared.step.BoardStep.TheVariants.{CursorLoaded, CursorExchanged, MoveStored, StatusStored}
use Rattle.live_board.specs.declared.view.View.{View}

-- what was done at the cursor k: nothing; or it was loaded; or it was loaded and then an exchange was tried
abbrev pub DoneAt : ℕ → List BoardStep → Type 0
DoneAt k steps = (steps ≡ []) ⊎ (steps ≡ CursorLoaded k ∷ []) ⊎ (steps ≡ CursorLoaded k ∷ CursorExchanged k ∷ [])

-- what was done at the first n cursors, in the ascending order of their slots
abbrev pub DoneBelow : ℕ → List BoardStep → Type 0
DoneBelow zero steps = steps ≡ []
DoneBelow (suc n) steps =
    (before here : List BoardStep) × DoneBelow n before × DoneAt n here × (steps ≡ before ++ here)

-- The steps of a submit: those at the cursors, then the store of the move, then that of the status.
abbrev pub SubmittedInOrder : View → View → Type 0
SubmittedInOrder v w = (cursors : List BoardStep) × DoneBelow v.setup.limits.followers cursors
    × (w.made ≡ v.made ++ (cursors ++ MoveStored ∷ StatusStored ∷ []))
