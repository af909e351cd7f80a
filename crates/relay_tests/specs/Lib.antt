pub mod Asked
pub mod Handing
pub mod Keeping
