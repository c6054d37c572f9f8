pub mod Tries
pub mod Lent
