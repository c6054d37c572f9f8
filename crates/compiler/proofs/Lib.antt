pub mod Laws
pub mod Buffer
