-- The codes of breaches, RFC 6455 section 7.4.1.
use Rattle.std.specs.Prelude.{ℕ}
use Rattle.relay_frames.specs.declared.breach.Breach.{Breach}
use Rattle.relay_frames.specs.declared.breach.Breach.TheVariants.{NoHead, ReservedBit, Unmasked, ControlInFragments, LongControl, NothingToContinue, MessageWithinMessage, BadClose, NotUtf8, TooLong, TooManyFragments}

abbrev pub code_of : Breach → ℕ
code_of NoHead = 1002
code_of ReservedBit = 1002
code_of Unmasked = 1002
code_of ControlInFragments = 1002
code_of LongControl = 1002
code_of NothingToContinue = 1002
code_of MessageWithinMessage = 1002
code_of BadClose = 1002
code_of NotUtf8 = 1007
code_of TooLong = 1009
code_of TooManyFragments = 1009
