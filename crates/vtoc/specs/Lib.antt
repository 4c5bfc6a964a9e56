pub mod FileMap
pub mod Vtoc
pub mod Slots
