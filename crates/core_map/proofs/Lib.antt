mod Prelude
pub mod Frames
pub mod Passing
pub mod Turning
