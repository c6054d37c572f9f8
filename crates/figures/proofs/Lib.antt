pub mod Lowest
pub mod Variance
pub mod Lines
pub mod Gathered
pub mod Printing
pub mod Right
pub mod Worked
