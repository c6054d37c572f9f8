pub mod Fraction
pub mod Annex
pub mod Lines
pub mod Totals
pub mod Shown
