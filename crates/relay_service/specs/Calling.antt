-- What contracts see of an operator's connection alone: bytes in, a hall that answers, bytes out.
pub mod Answering
pub mod Coming
pub mod Connections
pub mod Keys
pub mod OperatorInner
pub mod Running
