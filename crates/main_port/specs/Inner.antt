-- What an acceptor shows of its fields, and what is kept true of them.
use Rattle.std.specs.Prelude.{◌≡◌, ◌≤◌, false, true, is_some}
use Rattle.main_port.specs.declared.acceptor.Acceptor.TheInside.{Inside}
use Rattle.main_port.specs.Meeting.{AcceptorRecord, is_full, met_of, most_of}

abbrev pub acceptor_of : Inside → AcceptorRecord
acceptor_of a = record { met = a.met; most = a.most; is_open = is_some a.listener; may_end = a.may_end }

-- no more were met than may be, and the listener is closed only when the last has come that may, or where serving may end before
pub record IsAcceptor (a : Inside) : Type 0 where
  pub few : met_of (acceptor_of a) ≤ most_of a.most
  pub closed : is_some a.listener ≡ false → a.may_end ≡ false → is_full (acceptor_of a) ≡ true
