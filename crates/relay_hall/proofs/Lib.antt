pub mod lemmas
mod Owned
mod Standing
mod Expiring
mod Dues
mod Lists
mod OneBoard
mod Floors
mod Sweeps
mod Answered
