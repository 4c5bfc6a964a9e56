mod Prelude
pub mod Homes
pub mod Rehomed
