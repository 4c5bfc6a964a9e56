mod Prelude
pub mod CleanLaws
pub mod FineLaws
pub mod SharedLaws
pub mod TurnLaws
