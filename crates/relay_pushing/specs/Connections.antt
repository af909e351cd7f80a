-- How a connection is answered, and which boards it has opened.
use Rattle.std.specs.Prelude.{◌≡◌, ◌≢◌, ◌⊎◌, ℕ, List, [], ◌∷◌, ◌++◌, Bool, true, false, cond, Ok, Err, ⊤}
use Rattle.std.specs.List.{list_any}
use Rattle.c960_game.specs.declared.ending.Ending.TheVariants.{Abandoned}
use Rattle.c960_game.specs.declared.refusal.Refusal.{Refusal}
use Rattle.c960_game.specs.declared.refusal.Refusal.TheVariants.{NoSuchBoard, NotYourBoard, WrongMode}
use Rattle.relay_core.specs.declared.step.Step.{Step}
use Rattle.relay_core.specs.declared.step.Step.TheVariants.{Open, Submit, End, Follow, Take, Leave}
use Rattle.relay_core.specs.declared.reply.Reply.{Reply}
use Rattle.relay_core.specs.declared.reply.Reply.TheVariants.{Refused}
use Rattle.relay_core.specs.History.{is_accepted}
use Rattle.relay_core.specs.Name.{same_name}
use Rattle.relay_messages.specs.Answers.{answer_text}
use Rattle.relay_messages.specs.declared.answer.Answer.{Answer}
use Rattle.relay_messages.specs.declared.answer.Answer.TheVariants as answers
use Rattle.relay_messages.specs.Decoding.{IsDecoding}

-- What a connection asks of its keeper before a step: whether there is a board of this name; whether it belongs to the connection, even if
-- another one opened it; whether any board does.
pub data Question : Type 0 where
  Knows : (board : List ℕ) → Question
  Owns : (board : List ℕ) → Question
  OwnsAny : Question

-- whether the board is one of those opened
abbrev pub is_among : List ℕ → List (List ℕ) → Bool
is_among board opened = list_any (λ name. same_name name board) opened

-- the board that an accepted step opens
abbrev pub opened_by : Step → List (List ℕ)
opened_by (Open board start) = board ∷ []
opened_by _ = []

-- the boards opened, with that of an accepted Open
abbrev pub opened_after : List (List ℕ) → Step → Reply → List (List ℕ)
opened_after opened step reply = cond (is_accepted reply) (opened ++ opened_by step) opened

-- the board belongs to the connection: it opened it, or the keeper says so
abbrev pub IsOwn : (Question → Bool → Type 0) → List (List ℕ) → List ℕ → Type 0
IsOwn tells opened board = (is_among board opened ≡ true) ⊎ tells (Owns board) true

-- some board belongs to the connection: it opened one, or the keeper says so
abbrev pub OwnsSome : (Question → Bool → Type 0) → List (List ℕ) → Type 0
OwnsSome tells opened = (opened ≢ []) ⊎ tells OwnsAny true

-- no board belongs to the connection: it opened none, and the keeper says so
abbrev pub OwnsNone : (Question → Bool → Type 0) → List (List ℕ) → Type 0
OwnsNone tells opened = (opened ≡ []) × tells OwnsAny false

-- a board that does not belong to the connection gives NotYourBoard or NoSuchBoard, as the keeper says that it knows the board or not
pub record IsForeign (tells : Question → Bool → Type 0) (opened : List (List ℕ)) (board : List ℕ) (refusal : Refusal) : Type 0 where
  pub foreign : is_among board opened ≡ false
  pub unowned : tells (Owns board) false
  pub known : Bool
  pub told : tells (Knows board) known
  pub reason : refusal ≡ cond known NotYourBoard NoSuchBoard

-- the connection may not make the step for this reason
abbrev pub Bars : (Question → Bool → Type 0) → List (List ℕ) → Step → Refusal → Type 0
Bars tells opened (Open board start) refusal = ⊥
Bars tells opened (Submit board m) refusal = IsForeign tells opened board refusal
Bars tells opened (End board ending) refusal = IsForeign tells opened board refusal
Bars tells opened (Follow who board from) refusal = OwnsSome tells opened × (refusal ≡ WrongMode)
Bars tells opened (Take who) refusal = refusal ≡ WrongMode
Bars tells opened (Leave who) refusal = refusal ≡ WrongMode

-- the connection may make the step
abbrev pub MayMake : (Question → Bool → Type 0) → List (List ℕ) → Step → Type 0
MayMake tells opened (Open board start) = ⊤
MayMake tells opened (Submit board m) = IsOwn tells opened board
MayMake tells opened (End board ending) = IsOwn tells opened board
MayMake tells opened (Follow who board from) = OwnsNone tells opened
MayMake tells opened (Take who) = ⊥
MayMake tells opened (Leave who) = ⊥

-- nothing was made
pub record IsUnmoved {K : Type 0} (opened : List (List ℕ)) (k : K) (boards : List (List ℕ)) (after : K) : Type 0 where
  pub boards_are : boards ≡ opened
  pub keeper_is : after ≡ k

-- the keeper made this one step, with that reply
pub record Made {K : Type 0} (tells : Question → Bool → Type 0) (makes : K → Step → Reply → K → Type 0) (opened : List (List ℕ)) (k : K) (step : Step) (reply : Reply) (boards : List (List ℕ)) (after : K) : Type 0 where
  pub may : MayMake tells opened step
  pub made : makes k step reply after
  pub boards_are : boards ≡ opened_after opened step reply

-- the step was refused to the connection, and nothing was made
pub record Barred {K : Type 0} (tells : Question → Bool → Type 0) (opened : List (List ℕ)) (k : K) (step : Step) (reply : Reply) (boards : List (List ℕ)) (after : K) : Type 0 where
  pub refusal : Refusal
  pub bars : Bars tells opened step refusal
  pub reply_is : reply ≡ Refused refusal
  pub unmoved : IsUnmoved opened k boards after

-- a step gets this reply
abbrev pub Replied : {K : Type 0} → (Question → Bool → Type 0) → (K → Step → Reply → K → Type 0) → List (List ℕ) → K → Step → Reply → List (List ℕ) → K → Type 0
Replied tells makes opened k step reply boards after =
    Made tells makes opened k step reply boards after ⊎ Barred tells opened k step reply boards after

-- a text gets this answer: the fault of its decoding, and nothing was made; or the reply to the step that it asks for
abbrev pub Leads : {K : Type 0} → (Question → Bool → Type 0) → (K → Step → Reply → K → Type 0) → List (List ℕ) → K → List ℕ → Answer → List (List ℕ) → K → Type 0
Leads tells makes opened k text (answers.Fault fault) boards after = IsDecoding text (Err fault) × IsUnmoved opened k boards after
Leads tells makes opened k text (answers.Reply reply) boards after =
    (step : Step) × IsDecoding text (Ok step) × Replied tells makes opened k step reply boards after

-- a text gets the answer of these bytes
abbrev pub Answered : {K : Type 0} → (Question → Bool → Type 0) → (K → Step → Reply → K → Type 0) → List (List ℕ) → K → List ℕ → List ℕ → List (List ℕ) → K → Type 0
Answered tells makes opened k text bytes boards after =
    (answer : Answer) × Leads tells makes opened k text answer boards after × (bytes ≡ answer_text answer)

-- there was no memory to answer a text: the keeper made the step that the text asks for, or none was made
abbrev pub Stopped : {K : Type 0} → (Question → Bool → Type 0) → (K → Step → Reply → K → Type 0) → List (List ℕ) → K → List ℕ → List (List ℕ) → K → Type 0
Stopped tells makes opened k text boards after =
    ((step : Step) × (reply : Reply) × IsDecoding text (Ok step) × Made tells makes opened k step reply boards after)
    ⊎ IsUnmoved opened k boards after

-- each of the boards is ended as abandoned, in this order, and no other step is made
abbrev pub Ends : {K : Type 0} → (K → Step → Reply → K → Type 0) → K → List (List ℕ) → K → Type 0
Ends makes k [] after = after ≡ k
Ends {K} makes k (board ∷ boards) after = (mid : K) × (reply : Reply) × makes k (End board Abandoned) reply mid × Ends makes mid boards after
