pub mod CoreMap
pub mod Clock
pub mod Taken
pub mod Turns
