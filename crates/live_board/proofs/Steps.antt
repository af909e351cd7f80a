-- What the rule allows for words and operands that code has computed.
use Rattle.std.proofs.Common.{◌≡◌, ℕ, ◌+◌, ◌%◌, ◌^◌, ◌<◌, ◌≤◌, true, length, Some, None, sym, subst, eqb}
use mathlib.Core.Option.{none, some}
use lib.ListN.{get_elem?}
use prog.Atomic.{either}
use Rattle.atomic_table.specs.Table.{step, Allows}
use Rattle.c960_board.specs.Moves.{Triple, IsMove}
use Rattle.c960_board.specs.MoveTexts.{move_code}
use Rattle.live_board.specs.declared.words.TheConstants.{MARK}
use Rattle.live_board.specs.declared.setup.BoardSetup.{BoardSetup}
use Rattle.live_board.specs.declared.note.Note.TheVariants.{Vacant, Open}
use Rattle.live_board.specs.declared.view.Part.{Part}
use Rattle.live_board.specs.Words.{move_word_at, cursor_of}
use Rattle.live_board.specs.Views.{next_of}
use Rattle.live_board.specs.Rule.{ShowsReached}
use Rattle.live_board.specs.KindViews.{Sitting, follows, stores, reads, takes, checks, closes, leaves}
use Rattle.live_board.proofs.Allowed.{allows_following, allows_storing, allows_reading, allows_taking, allows_checking, allows_closing, allows_leaving}

pub following : (z : BoardSetup) (slots id : ℕ) (m : Sitting) (k p word n : ℕ) → word ≡ k + 2 → n ≡ cursor_of p None → k < z.limits.followers → m.0.owns ≡ true → get_elem? m.0.notes k ≡ some Vacant → p ≤ length m.0.log → length m.0.log ≤ p + z.limits.capacity
    → p < MARK
    → Allows (ShowsReached z) slots id m word (λ _. n) (λ _. follows (step slots word n 0 none) m n)
following z slots id m k p word n at is inside owns note low close small =
    subst (λ (y : ℕ × ℕ). Allows (ShowsReached z) slots id m y.0 (λ _. y.1) (λ _. follows (step slots y.0 y.1 0 none) m y.1)) (λ i. (sym at i, sym is i)) (allows_following z slots id m k p inside owns note low close small)

pub storing_move : (z : BoardSetup) (slots id : ℕ) (m : Sitting) (x : Triple) (word n : ℕ) → word ≡ move_word_at z.limits (length m.0.log) → n ≡ move_code x → m.0.owns ≡ true → IsMove x → length m.0.log < z.limits.plies
    → Allows (ShowsReached z) slots id m word (λ _. n) (λ _. stores (step slots word n 0 none) m n)
storing_move z slots id m x word n at is owns move free =
    subst (λ (y : ℕ × ℕ). Allows (ShowsReached z) slots id m y.0 (λ _. y.1) (λ _. stores (step slots y.0 y.1 0 none) m y.1)) (λ i. (sym at i, sym is i)) (allows_storing z slots id m x owns move free)

pub reading : (z : BoardSetup) (slots id : ℕ) (m : Sitting) (place word : ℕ) → word ≡ move_word_at z.limits place → Allows (ShowsReached z) slots id m word (λ n. n) (reads (step slots word 0 0 none) m)
reading z slots id m place word at =
    subst (λ (y : ℕ). Allows (ShowsReached z) slots id m y (λ n. n) (reads (step slots y 0 0 none) m)) (sym at) (allows_reading z slots id m place)

pub taking : (z : BoardSetup) (slots id : ℕ) (m : Sitting) (i : ℕ) (p : Part) (x : Triple) (word : ℕ) → word ≡ p.slot + 2 → get_elem? m.0.parts i ≡ some p → p.loaded ≡ Some x → ((c : ℕ) → p.closing ≡ Some c → next_of p < c)
    → Allows (ShowsReached z) slots id m word (λ n. (n + 1) % 2 ^ 64) (takes (step slots word 1 0 none) m)
taking z slots id m i p x word at mine known unclosed =
    subst (λ (y : ℕ). Allows (ShowsReached z) slots id m y (λ n. (n + 1) % 2 ^ 64) (takes (step slots y 1 0 none) m)) (sym at) (allows_taking z slots id m i p x mine known unclosed)

pub checking : (z : BoardSetup) (slots id : ℕ) (m : Sitting) (k word : ℕ) → word ≡ k + 2 → k < z.limits.followers → Allows (ShowsReached z) slots id m word (λ n. n) (checks (step slots word 0 0 none) m)
checking z slots id m k word at inside =
    subst (λ (y : ℕ). Allows (ShowsReached z) slots id m y (λ n. n) (checks (step slots y 0 0 none) m)) (sym at) (allows_checking z slots id m k inside)

pub closing : (z : BoardSetup) (slots id : ℕ) (m : Sitting) (k joined p word old new : ℕ) → word ≡ k + 2 → old ≡ cursor_of p None → new ≡ cursor_of p (Some (length m.0.log)) → k < z.limits.followers → m.0.owns ≡ true → get_elem? m.0.notes k ≡ some (Open joined p)
    → p + z.limits.capacity ≡ length m.0.log
    → Allows (ShowsReached z) slots id m word (λ n. either (eqb n old) new n) (closes (step slots word old new none) m)
closing z slots id m k joined p word old new at old-is new-is inside owns note full =
    subst (λ (y : ℕ × ℕ × ℕ). Allows (ShowsReached z) slots id m y.0 (λ n. either (eqb n y.1) y.2 n) (closes (step slots y.0 y.1 y.2 none) m)) (λ i. (sym at i, sym old-is i, sym new-is i))
    (allows_closing z slots id m k joined p inside owns note full)

pub leaving : (z : BoardSetup) (slots id : ℕ) (m : Sitting) (i : ℕ) (p : Part) (word : ℕ) → word ≡ p.slot + 2 → get_elem? m.0.parts i ≡ some p → Allows (ShowsReached z) slots id m word (λ _. 0) (leaves (step slots word 0 0 none) m)
leaving z slots id m i p word at mine = subst (λ (y : ℕ). Allows (ShowsReached z) slots id m y (λ _. 0) (leaves (step slots y 0 0 none) m)) (sym at) (allows_leaving z slots id m i p mine)
