-- What a follower has had.
use Rattle.std.specs.Prelude.{length, unwrap_or, is_some}
use Rattle.relay_core.specs.declared.reply.Account.{Account}
use Rattle.live_board.specs.declared.view.Part.{Part}

-- its limit is the closing that it knows, or else the length that it has seen
abbrev pub account_of : Part → Account
account_of p =
    record { joined = p.joined; taken = length p.taken; limit = unwrap_or p.closing p.seen; cut = is_some p.closing }
