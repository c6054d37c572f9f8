pub mod FormLaws
pub mod LineForms
pub mod NumberLaws
pub mod Tries
pub mod KindLaws
pub mod RuleLaws
