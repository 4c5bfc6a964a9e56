mod Prelude
pub mod Places
pub mod Indexed
pub mod Pages
pub mod Stores
pub mod Writes
pub mod Sure
