pub mod Lines
pub mod Grown
pub mod Judged
pub mod Answers
