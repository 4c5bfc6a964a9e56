mod Prelude
pub mod LineLaws
pub mod ReportLaws
