pub mod Rows
pub mod Keys
pub mod Words
pub mod Types
pub mod Steps
