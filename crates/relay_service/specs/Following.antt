-- What contracts see of a connection alone that follows a board.
pub mod Boards
pub mod Calls
pub mod ConnectionInner
pub mod DeliveryInner
pub mod Noting
pub mod Pieces
pub mod Pushing
pub mod Record
pub mod Served
pub mod Shown
pub mod StandingInner
