pub mod Doors
pub mod Beside
pub mod Steps
pub mod Kept
pub mod Laws
