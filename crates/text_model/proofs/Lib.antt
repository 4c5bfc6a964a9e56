mod Prelude
pub mod FieldLaws
pub mod LineLaws
pub mod LineSteps
pub mod PartLaws
