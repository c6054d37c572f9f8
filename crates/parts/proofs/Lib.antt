pub mod Skips
pub mod Replaced
pub mod Moves
pub mod Put
pub mod Nexts
