pub mod Asks
pub mod Laws
pub mod Pointers
pub mod Temporaries
