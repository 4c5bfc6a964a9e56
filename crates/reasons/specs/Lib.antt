pub mod Reasons
pub mod Passing
pub mod Told
