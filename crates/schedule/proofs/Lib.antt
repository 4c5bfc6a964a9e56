mod Prelude
pub mod BeginLaws
pub mod OrderLaws
pub mod ScheduledLaws
