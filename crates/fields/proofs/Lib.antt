pub mod Tests
pub mod Marks
pub mod Decimals
pub mod OnePass
pub mod Tabs
pub mod Lines
