mod Prelude
pub mod Words
pub mod Sums
pub mod Adds
pub mod Bindings
pub mod Parts
pub mod Closing
pub mod Rows
