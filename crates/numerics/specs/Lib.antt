pub mod Numerics
pub mod Functions
