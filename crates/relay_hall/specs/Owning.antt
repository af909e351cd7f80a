-- What is left when a connection goes.
use Rattle.std.specs.Prelude.{ℕ, nat_eq, Bool, ◌&&◌, is_none}
use Rattle.relay_hall.specs.declared.owner.Owner.{Owner}

-- what this one opened is left when the connection of this number goes: it has no key, and is that connection
abbrev pub is_left_by : ℕ → Owner → Bool
is_left_by who owner = is_none owner.key && nat_eq owner.opener who
