pub mod Laws
pub mod Stands
pub mod Starts
pub mod Parts
pub mod Worked
