pub mod Answers
pub mod Abstract
