pub mod Work
pub mod Texts
pub mod Roles
