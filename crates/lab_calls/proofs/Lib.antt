mod Prelude
pub mod EndLaws
pub mod JudgeLaws
