-- What is taken from a source, and what an outlet is sent of it.
use Rattle.std.specs.Prelude.{◌≡◌, ℕ, List, [], ◌∷◌, ◌++◌, Option, None, Some, ⊤}
use Rattle.relay_core.specs.declared.reply.Taken.{Taken}
use Rattle.relay_core.specs.declared.reply.Taken.TheVariants as takes
use Rattle.relay_core.specs.declared.reply.Reply.TheVariants.{Took}
use Rattle.relay_messages.specs.declared.answer.Answer.TheVariants.{Reply}
use Rattle.relay_messages.specs.Answers.{answer_text}
use Rattle.relay_pushing.specs.declared.pushing.PushEnd.{PushEnd}
use Rattle.relay_pushing.specs.declared.pushing.PushEnd.TheVariants.{Over, Cut, Failed}
use Rattle.relay_pushing.specs.declared.pushing.Turn.{Turn}
use Rattle.relay_pushing.specs.declared.pushing.Turn.TheVariants.{Waits, IsFull, Ended}
use Rattle.relay_pushing.specs.Sending.{GainsAll, IsCounted}

-- takes with these answers, one after another, lead from s to t
abbrev pub Takes : {S : Type 0} → (S → Taken → S → Type 0) → S → List Taken → S → Type 0
Takes gives s [] t = t ≡ s
Takes {S} gives s (x ∷ xs) t = (mid : S) × gives s x mid × Takes gives mid xs t

-- the text of a take's answer
abbrev pub text_of : Taken → List ℕ
text_of taken = answer_text (Reply (Took taken))

-- the texts of answers, in order, except Nothing
abbrev pub texts_of : List Taken → List (List ℕ)
texts_of [] = []
texts_of (takes.Nothing ∷ xs) = texts_of xs
texts_of (takes.Move place m ∷ xs) = text_of (takes.Move place m) ∷ texts_of xs
texts_of (takes.Over outcome ∷ xs) = text_of (takes.Over outcome) ∷ texts_of xs
texts_of (takes.Cut ∷ xs) = text_of takes.Cut ∷ texts_of xs

-- an answer after which there is more to come: a move, or nothing yet
abbrev pub GoesOn : Taken → Type 0
GoesOn takes.Nothing = ⊤
GoesOn (takes.Move place m) = ⊤
GoesOn (takes.Over outcome) = ⊥
GoesOn takes.Cut = ⊥

abbrev pub AllGoOn : List Taken → Type 0
AllGoOn [] = ⊤
AllGoOn (x ∷ xs) = GoesOn x × AllGoOn xs

-- Takes with answers that go on, then one with the last answer, lead from s to t. The outlet gained the texts of those that were sent.
pub record Went {S : Type 0} (gives : S → Taken → S → Type 0) (s t : S) (old new : Option (List (List ℕ))) (before : List Taken) (last : Taken) (sent : List Taken) : Type 0 where
  pub go_on : AllGoOn before
  pub taken : Takes gives s (before ++ last ∷ []) t
  pub gained : GainsAll old new (texts_of sent)

-- The result is Over or Cut if that was the last answer and all of them were sent; it is Failed if all but the last were.
abbrev pub Pushed : {S : Type 0} → (S → Taken → S → Type 0) → S → S → Option (List (List ℕ)) → Option (List (List ℕ)) → PushEnd → Type 0
Pushed gives s t old new (Over outcome) =
    (before : List Taken) × Went gives s t old new before (takes.Over outcome) (before ++ takes.Over outcome ∷ [])
Pushed gives s t old new Cut = (before : List Taken) × Went gives s t old new before takes.Cut (before ++ takes.Cut ∷ [])
Pushed gives s t old new (Failed fault) = (before : List Taken) × (last : Taken) × Went gives s t old new before last before

-- Takes with answers that go on lead from s to t, and the outlet gained the texts of all of them.
pub record Going {S : Type 0} (gives : S → Taken → S → Type 0) (s t : S) (old new : Option (List (List ℕ))) : Type 0 where
  pub before : List Taken
  pub go_on : AllGoOn before
  pub taken : Takes gives s before t
  pub gained : GainsAll old new (texts_of before)

-- A turn went on, so that nothing was taken that was not sent; or it ended pushing. It waits only if the last answer was Nothing.
abbrev pub Turned : {S : Type 0} → (S → Taken → S → Type 0) → S → S → Option (List (List ℕ)) → Option (List (List ℕ)) → Turn → Type 0
Turned {S} gives s t old new Waits = (m : S) × Going gives s m old new × gives m takes.Nothing t
Turned gives s t old new IsFull = Going gives s t old new
Turned gives s t old new (Ended end) = Pushed gives s t old new end

-- another take: if there may be more, it went on
abbrev pub HasPushed : {S : Type 0} → (S → Taken → S → Type 0) → S → S → Option (List (List ℕ)) → Option (List (List ℕ)) → Option Turn → Type 0
HasPushed gives s t old new None = Going gives s t old new
HasPushed gives s t old new (Some turn) = Turned gives s t old new turn

-- the result is a device's fault only if the count of failures rose or is full
abbrev pub IsDeviceFaultCounted : ℕ → ℕ → PushEnd → Type 0
IsDeviceFaultCounted old new (Over outcome) = ⊤
IsDeviceFaultCounted old new Cut = ⊤
IsDeviceFaultCounted old new (Failed fault) = IsCounted old new fault

abbrev pub IsTurnCounted : ℕ → ℕ → Turn → Type 0
IsTurnCounted old new Waits = ⊤
IsTurnCounted old new IsFull = ⊤
IsTurnCounted old new (Ended end) = IsDeviceFaultCounted old new end

abbrev pub IsNextCounted : ℕ → ℕ → Option Turn → Type 0
IsNextCounted old new None = ⊤
IsNextCounted old new (Some turn) = IsTurnCounted old new turn

-- the text is that of this answer, if it is of one
abbrev pub IsTextOf : Option Taken → List ℕ → Type 0
IsTextOf None text = ⊤
IsTextOf (Some taken) text = text ≡ text_of taken
