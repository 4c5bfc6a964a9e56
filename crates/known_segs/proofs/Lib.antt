mod Prelude
pub mod Numbers
mod PlaceLaws
