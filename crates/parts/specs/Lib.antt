pub mod Records
pub mod Extract
pub mod Meets
pub mod Operands
pub mod Insert
pub mod InsertMeets
