mod Prelude
pub mod OctalLaws
mod ZeroLanes
