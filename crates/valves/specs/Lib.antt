pub mod Maps
pub mod Tickets
pub mod Refusals
pub mod Shown
pub mod Opening
