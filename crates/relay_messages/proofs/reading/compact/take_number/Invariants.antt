use Rattle.std.proofs.Common.{◌≡◌, ◌++◌, decimal, length}
use denote.Shadow.{shadow}
use denote.Text.{Utf8}
use Rattle.relay_messages.proofs.reading.compact.take_number.Given as goal

-- the digits so far, and what follows them
abbrev pub invariant-digits : goal.invariant-digits
invariant-digits l = record {
  written : l.text ≡ decimal l.number ++ l.rest;
  utf8 : shadow (Utf8 l.rest);
}

abbrev pub decreases-digits : goal.decreases-digits
decreases-digits l = length l.rest
