pub mod Day
pub mod Lines
pub mod References
