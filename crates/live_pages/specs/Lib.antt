pub mod Touches
pub mod Turns
pub mod Kept
pub mod Ending
pub mod Models
