pub mod Causes
pub mod Fields
pub mod Inputs
pub mod Orders
pub mod Scheduled
