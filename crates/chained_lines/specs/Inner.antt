-- What a journal shows of its fields.
use Rattle.chained_lines.specs.Records.{JournalRecord}
use Rattle.chained_lines.specs.declared.journal.Journal.TheInside.{Inside as JournalInside}

abbrev pub journal_of : {S : Type 0} → JournalInside S → JournalRecord S
journal_of a = record { storage = a.storage; noted = a.noted.items; seal = a.seal; has_failed = a.has_failed }
