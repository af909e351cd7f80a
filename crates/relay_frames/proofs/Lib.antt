pub mod lemmas
mod Accepted
mod Dues
mod Ends
mod Heads
mod Moves
mod Rules
mod Sent
mod Texts
mod Written
