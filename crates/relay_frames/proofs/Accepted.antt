-- The value that accepts a request, from the outcome of its handshake.
use Rattle.std.specs.Prelude.{◌≡◌, ℕ, List, Result, Ok, Err, true}
use Rattle.std.proofs.Common.{refl, sym, subst}
use Rattle.websocket.specs.declared.handshake.failure.HandshakeError.{HandshakeError}
use Rattle.websocket.specs.Handshake.{Answers, accept_key_of}
use Rattle.websocket.specs.Headers.{is_graphic_text}
use Rattle.websocket.proofs.AcceptKey.{accept_key_is_graphic}

-- the value answers the key that was sent
pub answers_key : (asked : Result (List ℕ) HandshakeError) (value : List ℕ) → Answers (Ok value) asked
    → (key : List ℕ) × (asked ≡ Ok key) × (value ≡ accept_key_of key)
answers_key (Ok key) value answers = (key, refl, answers.1)
answers_key (Err reason) value answers = cc

-- it can be sent
pub answers_graphic : (asked : Result (List ℕ) HandshakeError) (value : List ℕ) → Answers (Ok value) asked → is_graphic_text value ≡ true
answers_graphic asked value answers =
    let found = answers_key asked value answers in
    subst (λ v. is_graphic_text v ≡ true) (sym found.2) (accept_key_is_graphic found.0)
