pub mod Names
pub mod Principals
pub mod Reading
