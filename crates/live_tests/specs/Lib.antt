pub mod Race
pub mod Row
