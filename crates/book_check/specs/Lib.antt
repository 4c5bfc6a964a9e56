pub mod Rules
pub mod Inputs
pub mod Verdicts
pub mod Judging
pub mod Going
pub mod Closing
