-- What a scribe shows of its fields.
use Rattle.relay_journal.specs.declared.scribe.Scribe.TheInside.{Inside as ScribeInside}
use Rattle.relay_journal.specs.Scribes.{ScribeRecord}

abbrev pub scribe_of : {S : Type 0} → ScribeInside S → ScribeRecord S
scribe_of a = record { journal = a.journal; noted = a.noted.items; has_failed = a.has_failed }
