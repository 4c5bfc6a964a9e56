mod Prelude
mod LineLaws
mod ProgressLaws
mod EndLaws
pub mod VerdictLaws
mod AfterLaws
pub mod GoingLaws
mod SameLaws
mod CloseLaws
mod CheckLaws
