-- What only this crate's code and proofs need. Neither readers of its promises nor other crates need any of it.
pub mod NameFields
pub mod Maps
pub mod HoldingsFields
pub mod Tag
pub mod TagRow
pub mod Seating
