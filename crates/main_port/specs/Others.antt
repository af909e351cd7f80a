-- What a turn of one connection leaves as it is.
use Rattle.std.specs.Prelude.{◌≡◌, ℕ, nat_eq, false, List, Option, option_map}
use Rattle.std.specs.Map.{lookup}
use Rattle.main_port.specs.declared.client.Client.{Client}

-- the connection of a number, if there is one
abbrev pub client_in : List (ℕ × Client) → ℕ → Option Client
client_in clients number = lookup (nat_eq number) clients

-- all of a connection but whether it is due a turn: it may become due one by what others do
abbrev pub but_for_turns : Client → Client
but_for_turns c = record c { is_queued = false }

abbrev pub seen_in : List (ℕ × Client) → ℕ → Option Client
seen_in clients number = option_map but_for_turns (client_in clients number)

-- whoever has another number is as before, but for turns
abbrev pub OthersStay : ℕ → List (ℕ × Client) → List (ℕ × Client) → Type 0
OthersStay number before after = (q : ℕ) → nat_eq number q ≡ false → seen_in after q ≡ seen_in before q

-- all are as before, but for turns
abbrev pub AllStay : List (ℕ × Client) → List (ℕ × Client) → Type 0
AllStay before after = (q : ℕ) → seen_in after q ≡ seen_in before q
