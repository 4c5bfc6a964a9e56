pub mod Counts
pub mod Uses
pub mod Tables
pub mod Changes
