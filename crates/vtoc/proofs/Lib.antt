mod Prelude
pub mod Codes
pub mod Table
pub mod Held
