pub mod Lines
pub mod Bounds
pub mod Laws
pub mod PartLaws
