pub mod Control
pub mod Effects
pub mod Kept
pub mod Next
pub mod Moving
