pub mod AddLaws
pub mod JudgeLaws
pub mod StepLaws
pub mod TableLaws
pub mod ReadLaws
