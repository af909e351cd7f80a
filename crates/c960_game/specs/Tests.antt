-- Tests that compute. The laws of `laws/joins.rt` say which relation each of them decides.
pub mod Moves
pub mod Same
pub mod Ground
