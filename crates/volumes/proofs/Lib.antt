mod Prelude
pub mod Faults
pub mod Drives
pub mod Parts
pub mod CorePages
