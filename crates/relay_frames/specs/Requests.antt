-- Which requests are answered with a WebSocket, and how the others are refused: RFC 9112, sections 2 to 5; RFC 6455, sections 4.2.1 and
-- 4.4; RFC 9110, section 15; RFC 6585, section 5.
use Rattle.std.specs.Prelude.{◌≡◌, ◌⊎◌, ◌≤◌, ℕ, true, false, ◌==◌, List, [], length, map, codes, Option, None, Some, Result, Ok, Err}
use Rattle.std.specs.List.{count_by}
use Rattle.httparse.specs.Grammar.{RequestHead, HasNoRequest, ReadsRequest}
use Rattle.httparse.specs.Spans.{RequestExceeds, name_and_value}
use Rattle.websocket.specs.declared.handshake.failure.HandshakeError.{HandshakeError}
use Rattle.websocket.specs.declared.handshake.failure.HandshakeError.TheVariants.{WrongHttpMethod, MissingSecWebSocketVersionHeader}
use Rattle.websocket.specs.Headers.{Fields, eq_ignore_case}
use Rattle.websocket.specs.Handshake.{Answers, accept_key_of, requested_key, response_bytes}
use Rattle.relay_frames.specs.declared.request_refusal.RequestRefusal.{RequestRefusal}
use Rattle.relay_frames.specs.declared.request_refusal.RequestRefusal.TheVariants.{BadRequest, MethodNotAllowed, UpgradeRequired, HeadTooLarge}

-- how many of the fields are a `Host`
abbrev pub count_of_hosts : Fields → ℕ
count_of_hosts fields = count_by (λ f. eq_ignore_case f.0 (codes "Host")) fields

-- how a request is refused if its handshake fails for this reason
abbrev pub refusal_for : HandshakeError → RequestRefusal
refusal_for WrongHttpMethod = MethodNotAllowed
refusal_for MissingSecWebSocketVersionHeader = UpgradeRequired
refusal_for _ = BadRequest

-- how a request is refused, if it is, when its handshake has this outcome
abbrev pub refused_by : Result (List ℕ) HandshakeError → Option RequestRefusal
refused_by (Ok accept_key) = None
refused_by (Err reason) = Some (refusal_for reason)

-- the answer to a request of this method, minor version and fields: with no `Host` or with several it is a bad request; otherwise the
-- outcome of its handshake decides
abbrev pub IsJudged : List ℕ → ℕ → Fields → Option RequestRefusal → Type 0
IsJudged method version fields answer =
    (((count_of_hosts fields == 1) ≡ false) × (answer ≡ Some BadRequest))
    ⊎ (((count_of_hosts fields == 1) ≡ true)
    × ((outcome : Result (List ℕ) HandshakeError) × Answers outcome (requested_key method version fields) × (answer ≡ refused_by outcome)))

-- how many fields a head may have
abbrev pub most_fields : ℕ
most_fields = 64

-- the answer to bytes that do not begin with a head, or with one of too many fields
abbrev pub IsNoHead : List ℕ → Option RequestRefusal → Type 0
IsNoHead bytes answer =
    (HasNoRequest bytes × (answer ≡ Some BadRequest))
    ⊎ (RequestExceeds most_fields bytes × (answer ≡ Some HeadTooLarge))

-- the answer to these bytes: they do not begin with an acceptable head, or the head there is judged
abbrev pub IsAnswered : List ℕ → Option RequestRefusal → Type 0
IsAnswered bytes answer =
    IsNoHead bytes answer
    ⊎ ((h : RequestHead) × (rest : List ℕ) × ReadsRequest bytes h rest × (length h.fields ≤ most_fields)
    × IsJudged h.method h.minor (map name_and_value h.fields) answer)

-- the value of `Sec-WebSocket-Accept` that accepts a request of this method, minor version and fields is that of its key
abbrev pub IsAcceptance : List ℕ → ℕ → Fields → List ℕ → Type 0
IsAcceptance method version fields value =
    (key : List ℕ) × (requested_key method version fields ≡ Ok key) × (value ≡ accept_key_of key)

-- the value that accepts the request at the start of these bytes
abbrev pub Accepts : List ℕ → List ℕ → Type 0
Accepts bytes value =
    (h : RequestHead) × (rest : List ℕ) × ReadsRequest bytes h rest × IsAcceptance h.method h.minor (map name_and_value h.fields) value

-- the bytes that answer a request that is accepted with this value
abbrev pub acceptance_text : List ℕ → List ℕ
acceptance_text value = response_bytes value []

-- the status of a refusal
abbrev pub status_of : RequestRefusal → ℕ
status_of BadRequest = 400
status_of MethodNotAllowed = 405
status_of UpgradeRequired = 426
status_of HeadTooLarge = 431

-- the bytes that answer a request that is refused
abbrev pub answer_text : RequestRefusal → List ℕ
answer_text BadRequest = codes "HTTP/1.1 400 Bad Request\r\nConnection: close\r\nContent-Length: 0\r\n\r\n"
answer_text MethodNotAllowed = codes "HTTP/1.1 405 Method Not Allowed\r\nAllow: GET\r\nConnection: close\r\nContent-Length: 0\r\n\r\n"
answer_text UpgradeRequired = codes "HTTP/1.1 426 Upgrade Required\r\nUpgrade: websocket\r\nConnection: Upgrade, close\r\nSec-WebSocket-Version: 13\r\nContent-Length: 0\r\n\r\n"
answer_text HeadTooLarge = codes "HTTP/1.1 431 Request Header Fields Too Large\r\nConnection: close\r\nContent-Length: 0\r\n\r\n"
