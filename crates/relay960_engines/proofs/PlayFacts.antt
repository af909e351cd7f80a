-- Lemmas on the answers to the lines of a live game.
use Rattle.std.proofs.Common.{◌≡◌, ℕ, List, [], ◌∷◌, ◌++◌, Option, Some, refl, sym, ap, ◌∙◌, append_assoc}
use Rattle.c960_game.specs.GameRecord.{GameRecord}
use Rattle.relay960_engines.specs.Lines.{Giving, Answers}
use Rattle.relay960_engines.specs.Play.{line_answer, game_after, line_answers}
use Rattle.relay960_engines.specs.Inner.PlayCut.{IsAnswer}

-- ---- The answers to lines are determined.

-- what an answerer with a game gives
abbrev pub IsGiven : {S : Type 0} → Giving S → (S → GameRecord) → Type 0
IsGiven {S} gives game =
    (s : S) (l : List ℕ) (bytes : Option (List ℕ)) (t : S) → gives s l bytes t
    → IsAnswer (game s) l bytes × (game t ≡ game_after (game s) l)

pub given_answers : {S : Type 0} (gives : Giving S) (game : S → GameRecord) → IsGiven gives game
    → (s t : S) (ls : List (List ℕ)) (bytes : List ℕ) → Answers gives s ls bytes t → bytes ≡ line_answers (game s) ls
unfolding Answers line_answers
given_answers gives game law s t [] bytes (none, same) = none
given_answers gives game law s t (l ∷ ls) bytes (answer, mid, rest, one, split, others) =
    let (this, next) = law s l (Some answer) mid one in
    split ∙ ap (λ x. x ++ rest) this
    ∙ ap (λ x. line_answer (game s) l ++ x) (given_answers gives game law mid t ls rest others)
    ∙ ap (λ g. line_answer (game s) l ++ line_answers g ls) next

-- the answers to lines are a prefix of the answers to these and more
pub answers_before : (g : GameRecord) (ls ms : List (List ℕ))
    → (rest : List ℕ) × (line_answers g (ls ++ ms) ≡ line_answers g ls ++ rest)
unfolding line_answers
answers_before g [] ms = (line_answers g ms, refl)
answers_before g (l ∷ ls) ms =
    let (rest, same) = answers_before (game_after g l) ls ms in (
      rest,
      ap (λ x. line_answer g l ++ x) same ∙ sym (append_assoc (line_answer g l) (line_answers (game_after g l) ls) rest),
    )
