pub mod Abstract
pub mod Sound
pub mod Tab
pub mod Fields
pub mod Lines
