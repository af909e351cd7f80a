-- The lemmas on a connection alone that follows a board.
pub mod Boards
pub mod Calls
pub mod Handing
pub mod Hearing
pub mod Pieces
pub mod Pushes
pub mod Served
pub mod Shown
