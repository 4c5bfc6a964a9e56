mod Prelude
pub mod DriveLaws
pub mod Ends
pub mod Fresh
pub mod SumLaws
pub mod Verdicts
