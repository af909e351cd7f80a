-- The codes of closes, RFC 6455 section 7.4.
use Rattle.std.specs.Prelude.{ℕ, Bool}
use Rattle.websocket.specs.CloseCode.{close_code_of, is_allowed}

-- the code may be sent
unfoldable pub may_be_sent : ℕ → Bool
may_be_sent number = is_allowed (close_code_of number)
