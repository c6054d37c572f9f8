pub mod Printing
pub mod Front
pub mod Copying
pub mod Steps
pub mod Positions
pub mod Words
