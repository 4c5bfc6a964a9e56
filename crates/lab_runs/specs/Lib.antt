pub mod Drawn
pub mod Orders
pub mod Outcomes
pub mod Runs
pub mod Steps
pub mod Traces
