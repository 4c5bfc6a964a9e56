pub mod Drives
pub mod Endings
pub mod Runs
pub mod Texts
pub mod Words
