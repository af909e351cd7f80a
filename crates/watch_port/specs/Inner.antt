-- What a table and a feed show of their fields, and what is kept true of them.
use Rattle.std.specs.Prelude.{◌≡◌, List}
use Rattle.rtrb.specs.Ring.{received, sent}
use Rattle.watch_port.specs.declared.board_table.BoardTable.TheInside.{Inside as TableInside}
use Rattle.watch_port.specs.declared.feed.Feed.TheInside.{Inside as FeedInside}
use Rattle.watch_port.specs.declared.board_event.BoardEvent.{BoardEvent}
use Rattle.watch_port.specs.Copies.{TableRecord, shown_by}
use Rattle.watch_port.specs.Telling.{told_by}

abbrev pub table_of : TableInside → TableRecord
table_of a = record { plies = a.limits.plies; told = received a.ring }

-- its boards are made of what it was told, of all of it and of nothing else
abbrev pub IsTable : TableInside → Type 0
IsTable a = a.boards.items ≡ shown_by (table_of a)

abbrev pub sent_by : FeedInside → List BoardEvent
sent_by a = sent a.ring

-- it is noted how far the loop was told of each board
abbrev pub IsFeed : FeedInside → Type 0
IsFeed a = a.told.items ≡ told_by (sent a.ring)
