pub mod Roomy
pub mod Shown
pub mod Zeros
