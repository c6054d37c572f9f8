pub mod Cases
pub mod Tally
