mod Prelude
pub mod Keeps
pub mod Calls
