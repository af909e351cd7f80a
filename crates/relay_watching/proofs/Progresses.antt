-- What was sent stays correct as the board goes on, and as more is written.
use Rattle.std.proofs.Common.{◌≡◌, ℕ, ◌≤◌, List, [], ◌∷◌, ◌++◌, length, take, drop, None, sym, ap, ◌∙◌, arith, append_assoc, length-append, length-drop}
use Rattle.std.specs.List.{concat}
use Rattle.std.proofs.lemmas.List.{take-append-drop, drop-append-le, drop-drop}
use Rattle.c960_board.specs.Moves.{Triple}
use Rattle.c960_game.specs.declared.outcome.Outcome.{Outcome}
use Rattle.relay_watching.specs.Course.{Course, with_move, with_outcome}
use Rattle.relay_watching.specs.Promised.{Joining}
use Rattle.relay_watching.specs.Progress.{Progress, WasSent, newcomer, due, offered, after_write, GoesOn}
use Rattle.relay_watching.specs.Taped.{tape_frames, tape_bytes}
use Rattle.relay_watching.proofs.Promises.{Continues, move_continues, end_continues, ends_within, promised_on_tape, promised_grows, tape_grows, offset_stays}

pub newcomer_was_sent : (c : Course) (j : Joining) → j.place ≤ length c.moves → WasSent c j [] (newcomer c j)
unfolding due
newcomer_was_sent c j within = record {
  joined = within;
  begun = omega arith;
  reached = ends_within j.place (tape_frames c);
  whole = sym (promised_on_tape c j within);
}

pub sent_goes_on : (c d : Course) (more : List (List ℕ)) (j : Joining) (written : List ℕ) (r : Progress)
    → Continues c d more → WasSent c j written r → WasSent d j written r
unfolding due
sent_goes_on c d more j written r on sent = record {
  joined = omega (arith, sent.joined, on.longer);
  begun = rw (offset_stays c d more j.place on sent.joined) sent.begun;
  reached = rw (tape_grows c d more on, length-append) (omega (arith, sent.reached));
  whole =
      rw (
        promised_grows c d more j on sent.joined,
        tape_grows c d more on,
        drop-append-le r.at (tape_bytes c) (concat more) sent.reached,
        ← sent.whole,
      ) (sym (append_assoc written (r.left ++ drop r.at (tape_bytes c)) (concat more) ∙ ap (λ l. written ++ l) (append_assoc r.left (drop r.at (tape_bytes c)) (concat more))));
}

-- if nothing is offered, nothing is due
due_none_parts : (c : Course) (left : List ℕ) (at : ℕ) → offered c (record { left = left; at = at }) ≡ [] → due c (record { left = left; at = at }) ≡ []
unfolding due
due_none_parts c [] at none = none
due_none_parts c (x ∷ left) at none = cc none

pub due_none : (c : Course) (r : Progress) → offered c r ≡ [] → due c r ≡ []
due_none c r none = due_none_parts c r.left r.at none

-- what is offered is written first, and then the rest is due
due_after_left : (left rest : List ℕ) (n : ℕ) → n ≤ length left → left ++ rest ≡ take n left ++ (drop n left ++ rest)
due_after_left left rest n within =
    ap (λ l. l ++ rest) (sym (take-append-drop n left)) ∙ append_assoc (take n left) (drop n left) rest

due_after_parts : (c : Course) (left : List ℕ) (at n : ℕ) → n ≤ length (offered c (record { left = left; at = at }))
    → due c (record { left = left; at = at })
    ≡ take n (offered c (record { left = left; at = at })) ++ due c (after_write (record { left = left; at = at }) n)
unfolding due
due_after_parts c [] at n within =
    sym (take-append-drop n (drop at (tape_bytes c))) ∙ ap (λ l. take n (drop at (tape_bytes c)) ++ l) (drop-drop n at (tape_bytes c))
due_after_parts c (x ∷ left) at n within = due_after_left (x ∷ left) (drop at (tape_bytes c)) n within

pub due_after : (c : Course) (r : Progress) (n : ℕ) → n ≤ length (offered c r)
    → due c r ≡ take n (offered c r) ++ due c (after_write r n)
due_after c r n within = due_after_parts c r.left r.at n within

after_at : (c : Course) (left : List ℕ) (at n : ℕ) → n ≤ length (offered c (record { left = left; at = at })) → at ≤ length (tape_bytes c)
    → (at ≤ (after_write (record { left = left; at = at }) n).at) × ((after_write (record { left = left; at = at }) n).at ≤ length (tape_bytes c))
after_at c [] at n within reached =
    let most : n ≤ length (drop at (tape_bytes c)) = within in (omega arith, omega (arith, length-drop at (tape_bytes c)))
after_at c (x ∷ left) at n within reached = (omega arith, reached)

pub sent_after : (c : Course) (j : Joining) (written : List ℕ) (r : Progress) (n : ℕ) → n ≤ length (offered c r)
    → WasSent c j written r → WasSent c j (written ++ take n (offered c r)) (after_write r n)
sent_after c j written r n within sent =
    let moved = after_at c r.left r.at n within sent.reached in
    record {
      joined = sent.joined;
      begun = omega (arith, sent.begun, moved.0);
      reached = moved.1;
      whole = rw (append_assoc written (take n (offered c r)) (due c (after_write r n)), ← due_after c r n within) sent.whole;
    }

pub move_goes_on : (c : Course) (m : Triple) → c.outcome ≡ None → GoesOn c (with_move c m)
move_goes_on c m going = λ j written r sent. sent_goes_on c (with_move c m) _ j written r (move_continues c m going) sent

pub end_goes_on : (c : Course) (o : Outcome) → c.outcome ≡ None → GoesOn c (with_outcome c o)
end_goes_on c o going = λ j written r sent. sent_goes_on c (with_outcome c o) _ j written r (end_continues c o going) sent
