pub mod RowLaws
pub mod WordLaws
pub mod KeyLaws
pub mod MeasureLaws
pub mod CheckLaws
pub mod AlikeLaws
pub mod MarkLaws
