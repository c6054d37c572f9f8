pub mod Put
pub mod Field
pub mod Step
pub mod Writes
