mod Prelude
pub mod BitLemmas
pub mod Levels
pub mod Fresh
mod Full
