pub mod Sums
pub mod StepLaws
pub mod RoomLaws
pub mod ListLaws
pub mod NodeLaws
