pub mod lemmas
mod Stops
mod Abandons
