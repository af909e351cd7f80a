-- What only the code and its proofs use: what a tape keeps in addition to what its contracts show.
pub mod TapeFields
