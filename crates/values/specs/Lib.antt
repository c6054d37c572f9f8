pub mod Heads
pub mod Left
pub mod Laws
pub mod Stack
