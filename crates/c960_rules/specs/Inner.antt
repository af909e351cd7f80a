-- What only the code and its proofs use. Readers of the promises need none of it.
pub mod Wheres
pub mod Listing
pub mod Safety
pub mod Carried
pub mod Pins
pub mod Rays
