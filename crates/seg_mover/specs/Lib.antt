pub mod Homes
pub mod Records
pub mod Moves
pub mod Steps
pub mod Copies
