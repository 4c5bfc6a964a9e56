mod Prelude
pub mod Records
pub mod Places
pub mod Giving
pub mod Given
pub mod Beginning
pub mod Begun
pub mod Copying
pub mod Choosing
pub mod Words
